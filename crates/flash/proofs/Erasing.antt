-- The pages of a chip with one block erased, one by one.
use Rattle.std.proofs.Common.{◌≡◌, ℕ, ◌+◌, ◌-◌, ◌*◌, ◌<◌, ◌≤◌, List, [], ◌++◌, length, get_or, take, drop, replicate, ap, ◌∙◌, arith, length-append, length-drop}
use Rattle.std.proofs.lemmas.List.{get_or_append_left, get_or-append_right, get_or-take, get_or-drop, get_or-replicate, length-replicate, length-take-le}
use Rattle.flash.specs.Chip.{Chip, page, blank, erased}

module _ (c : Chip) (b : ℕ) (within : c.per_block * b + c.per_block ≤ length c.pages) where
  abbrev n : ℕ
  n = c.per_block

  abbrev front : List (List ℕ)
  front = take (c.per_block * b) c.pages

  abbrev back : List (List ℕ)
  back = replicate c.per_block blank ++ drop (c.per_block * b + c.per_block) c.pages

  front_long : length front ≡ n * b
  front_long = length-take-le (n * b) c.pages (omega arith)

  block_long : length (replicate n blank) ≡ n
  block_long = length-replicate n blank

  pub erased_long : length (erased c b).pages ≡ length c.pages
  erased_long = simp length-append (omega (arith, front_long, block_long, length-drop (n * b + n) c.pages))

  pub erased_below : (q : ℕ) → q < n * b → page (erased c b) q ≡ page c q
  erased_below q h = get_or_append_left front back [] q (omega (arith, front_long)) ∙ get_or-take (n * b) c.pages q [] h

  pub erased_inside : (q : ℕ) → n * b ≤ q → q < n * b + n → page (erased c b) q ≡ blank
  erased_inside q g h =
      get_or-append_right front back (n * b) q [] front_long g
      ∙ get_or_append_left (replicate n blank) (drop (n * b + n) c.pages) [] (q - n * b) (omega (arith, block_long))
      ∙ get_or-replicate n (q - n * b) blank [] (omega arith)

  pub erased_above : (q : ℕ) → n * b + n ≤ q → page (erased c b) q ≡ page c q
  erased_above q g =
      let e : (n * b + n) + ((q - n * b) - n) ≡ q = omega arith in
      get_or-append_right front back (n * b) q [] front_long (omega arith)
      ∙ get_or-append_right (replicate n blank) (drop (n * b + n) c.pages) n (q - n * b) [] block_long (omega arith)
      ∙ get_or-drop (n * b + n) c.pages ((q - n * b) - n) [] ∙ ap (λ i. get_or c.pages i []) e
