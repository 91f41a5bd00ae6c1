use Rattle.std.proofs.Common.{◌≡◌, ℕ, ◌+◌, ◌-◌, ◌≤◌, List, ◌++◌, length, take, drop, replicate, arith, length-drop, length-take}
use Rattle.std.proofs.lemmas.List.{drop-drop}
use Rattle.images.proofs.bytes.overwrite.Goals as goal

-- a part of a page that is filled with one byte
filled_part : (page : List ℕ) (from n b : ℕ) (part : List ℕ) → length page ≡ 256 → from + n ≤ 256
    → part ≡ replicate (length (take (from + n - from) (drop from page))) b
    → take from page ++ (part ++ drop (from + n - from) (drop from page)) ≡ take from page ++ (replicate n b ++ drop (from + n) page)
filled_part page from n b part l h e =
    let k : from + n - from ≡ n = omega arith in
    let m : length (take n (drop from page)) ≡ n = simp (length-take, length-drop) (omega arith) in
    let d = drop-drop n from page in
    cc

pub returns : goal.returns
returns c =
    let t = c.told-bytes in
    let h : c.min-from.result + c.min.result ≤ 256 = omega arith in
    let e = filled_part c.args.bytes.now c.min-from.result c.min.result c.args.byte c.fill.new.self t h (c.fill.ensures.after (λ y e. e)) in
    cc
