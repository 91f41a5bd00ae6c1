use Rattle.std.proofs.Common.{◌≡◌, ℕ, suc, ◌+◌, ◌-◌, ◌<◌, ◌≤◌, Bool, false, List, ◌∷◌, length, get_or, replicate, sym, ◌∙◌, subst, arith}
use Rattle.std.proofs.lemmas.Bool.{false≢true}
use Rattle.std.proofs.lemmas.List.{get_or_default, get_or-replicate, length-replicate}
use Rattle.replay.specs.declared.group.Group.{Group}
use Rattle.replay.specs.declared.group.Group.TheVariants.{Whole}
use Rattle.replay.specs.declared.seen.Seen.{Seen}
use Rattle.replay.specs.Gathered.{Gathers}
use Rattle.replay.specs.Marks.{Flagged, Walkable, taken}
use Rattle.replay.proofs.Marking.{Marked, marked_on, marked_whole, marked_all, run_long}
use Rattle.replay.proofs.Nothing.{nothing}
use Rattle.replay.proofs.marks.mark.Goals as goal
use Rattle.replay.proofs.marks.mark.Goals.{in-Whole, in_default}

-- the page at i, at any default
took : (xs : List Seen) (i : ℕ) (e d : Seen) (g : Group) → i < length xs → Gathers ((get_or xs i e).header ∷ taken i xs d) g → Gathers (taken (suc i) xs d) g
took xs i e d g h s = subst (λ x. Gathers (x.header ∷ taken i xs d) g) (get_or_default xs i e d h) s

abbrev Kept : List Seen → ℕ → List Bool → Group → Type 0
Kept xs i flags g = Marked xs flags i × ((d : Seen) → Gathers (taken i xs d) g) × (length flags ≡ 256)

-- the invariant after a page, by what became of the group
kept_whole : (xs : List Seen) (walk : Walkable xs) (i size : ℕ) (flags after : List Bool) (g : Group) → i < length xs → g ≡ Whole size → ((d : Seen) → Gathers (taken (suc i) xs d) g)
    → Flagged flags ((i + 1) - size) (i + 1) after → Marked xs flags i → length flags ≡ 256 → Kept xs (i + 1) after (Whole size)
kept_whole xs walk i size flags after g h is s f m long =
    let e : suc i ≡ i + 1 = omega arith in
    let whole : (d : Seen) → Gathers (taken (suc i) xs d) (Whole size) = λ d. subst (Gathers (taken (suc i) xs d)) is (s d) in
    (marked_whole xs walk i h flags after size whole f m, λ d. subst (λ n. Gathers (taken n xs d) (Whole size)) e (whole d), f.long ∙ long)

kept_other : (xs : List Seen) (walk : Walkable xs) (i : ℕ) (flags : List Bool) (g : Group) → i < length xs → ((size : ℕ) → g ≡ Whole size → ⊥) → ((d : Seen) → Gathers (taken (suc i) xs d) g)
    → Marked xs flags i → length flags ≡ 256 → Kept xs (i + 1) flags g
kept_other xs walk i flags g h other s m long =
    let e : suc i ≡ i + 1 = omega arith in
    (marked_on xs walk i h flags g other s m, λ d. subst (λ n. Gathers (taken n xs d) g) e (s d), long)

-- before any page
marked_none : (xs : List Seen) (n : ℕ) → Walkable xs → length xs ≤ n → Marked xs (replicate n false) 0
marked_none xs n walk room j d h =
    let e = get_or-replicate n j false false (omega arith) in
    (λ t. absurd (false≢true (sym e ∙ t)), λ whole le. absurd (omega (arith, walk.inside j d h)))

pub loop-i-init : goal.loop-i-init
loop-i-init c = (marked_none c.args.seen.now 256 c.requires.walk c.requires.room, λ d. c.new-group.ensures, length-replicate 256 false)

pub flag_last-requires : goal.flag_last-requires
flag_last-requires c =
    let xs = c.args.seen.now in
    let i = c.loop-i.i in
    let h : i < length xs = omega arith in
    let d = nothing in
    let s = took xs i _ d c.take.new.self h (c.take.ensures (taken i xs d) (c.loop-i.invariant.1 d)) in (
      omega (arith, run_long xs d c.in-Whole.size c.in-Whole.size (suc i) (subst (Gathers (taken (suc i) xs d)) c.in-Whole.is s)),
      omega (arith, c.requires.room, c.loop-i.invariant.2),
    )

pub loop-i-preserved : goal.loop-i-preserved
loop-i-preserved c =
    let xs = c.args.seen.now in
    let i = c.loop-i.i in
    let h : i < length xs = omega arith in
    let s : (d : Seen) → Gathers (taken (suc i) xs d) c.take.new.self = λ d. took xs i _ d c.take.new.self h (c.take.ensures (taken i xs d) (c.loop-i.invariant.1 d)) in
    elim c.match-group.branch [
      | in-Whole w ↦ subst (λ fs. Kept xs (i + 1) fs c.match-group.group) (sym w.flags-is) (subst (Kept xs (i + 1) w.flag_last.new.flags) (sym w.group-is)
          (kept_whole xs c.requires.walk i w.in-Whole.size c.loop-i.flags w.flag_last.new.flags c.take.new.self h w.in-Whole.is s w.flag_last.ensures c.loop-i.invariant.0 c.loop-i.invariant.2))
      | in_default w ↦ subst (λ fs. Kept xs (i + 1) fs c.match-group.group) (sym w.flags-is) (subst (Kept xs (i + 1) c.loop-i.flags) (sym w.group-is)
          (kept_other xs c.requires.walk i c.loop-i.flags c.take.new.self h w.in_default.not-Whole s c.loop-i.invariant.0 c.loop-i.invariant.2))
    ]

pub returns : goal.returns
returns c = marked_all c.args.seen.now c.loop-i.flags c.loop-i.i c.requires.walk c.loop-i-test.false c.loop-i.invariant.0
