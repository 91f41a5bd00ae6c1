-- One change more, and the room that is left for the next ones.
use Rattle.std.proofs.Common.{◌≡◌, ℕ, zero, suc, ◌+◌, ◌<◌, ◌≤◌, List, [], ◌∷◌, length, get_or, take, refl, ap, ◌∙◌, arith}
use Rattle.object_store.specs.declared.change.Change.{Change}
use Rattle.object_store.specs.declared.change.Change.TheVariants.{Set, Remove}
use Rattle.object_store.specs.Objects.{Objects, keys_of}
use Rattle.object_store.specs.Settled.{Placeable, settle, settled}
use Rattle.object_store.specs.Tables.{Rising}
use Rattle.object_store.proofs.Growing.{settled_grows}
use Rattle.object_store.proofs.Settling.{rising_settle}

settled_suc : (all : List Change) (os : Objects) (cs : List Change) (i : ℕ) (d : Change) → i < length cs → settled all os (take (suc i) cs) ≡ settle all (settled all os (take i cs)) (get_or cs i d)
settled_suc all os [] i d h = absurd (omega arith)
settled_suc all os (c ∷ cs) zero d h = refl
settled_suc all os (c ∷ cs) (suc i) d h = settled_suc all (settle all os c) cs i d (omega arith)

pub settled_more : (all : List Change) (os : Objects) (cs : List Change) (i : ℕ) (d : Change) → i < length cs → settled all os (take (i + 1) cs) ≡ settle all (settled all os (take i cs)) (get_or cs i d)
settled_more all os cs i d h = ap (λ n. settled all os (take n cs)) (let e : i + 1 ≡ suc i = omega arith in e) ∙ settled_suc all os cs i d h

-- a part of the changes never needs more places than all
pub part_fits_in : (all : List Change) (os : Objects) (cs : List Change) (n : ℕ) → Placeable cs → Rising (keys_of os) → length (settled all os (take n cs)) ≤ length (settled all os cs)
part_fits_in all os [] zero p h = omega arith
part_fits_in all os [] (suc n) p h = omega arith
part_fits_in all os (c ∷ cs) zero p h = settled_grows all (c ∷ cs) os p h
part_fits_in all os (Set k v ∷ cs) (suc n) p h = part_fits_in all (settle all os (Set k v)) cs n p.2 (rising_settle all os k v h p.0 p.1)
part_fits_in all os (Remove f ∷ cs) (suc n) p h = part_fits_in all os cs n p h
