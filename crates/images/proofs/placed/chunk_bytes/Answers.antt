use Rattle.std.proofs.Common.{◌≡◌, ℕ, ◌-◌, min, List, ◌++◌, length, take, drop, replicate, ap, ◌∙◌, ap₂, arith}
use Rattle.std.proofs.lemmas.List.{drop-replicate, take_min}
use Rattle.images.specs.Pages.{chunk_text}
use Rattle.images.proofs.placed.chunk_bytes.Goals as goal

-- a text over as many zeros as it is long, as far as there is room
laid : (text part : List ℕ) (m : ℕ) → m ≡ min 224 (length text) → part ≡ take m text → part ++ drop m (replicate 224 0) ≡ chunk_text text
laid text part m e p =
    let left : 224 - m ≡ 224 - length text = omega arith in
    ap₂ (λ (x y : List ℕ). x ++ y) (p ∙ ap (λ k. take k text) e ∙ take_min 224 text) (◌∙◌ {b = replicate (224 - m) 0} (drop-replicate m 224 0) (ap (λ k. replicate k 0) left))

pub returns : goal.returns
returns c = laid c.args.text.now _ c.min-len.result c.min-len.ensures c.copy_from_slice.ensures.after
