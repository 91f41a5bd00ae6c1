-- A group that lacks a page changes nothing told, and a complete one puts its pages into the map: for any logs.
use Rattle.std.proofs.Common.{◌≡◌, ℕ, ◌<◌, ◌≤◌, List}
use Rattle.object.specs.declared.key.Key.{Key}
use Rattle.object.specs.declared.value.Object.{Object}
use Rattle.replay.specs.Log.{Log, Logged, floor_of, index_of, Counts, Told, Tells, Top, Distinct, Same}
use Rattle.replay.specs.Changes.{On, Added, Group, Rises}
use Rattle.replay.specs.Maps.{Puts}
use Rattle.replay.specs.Walks.{Rising, Fits}
use Rattle.replay.specs.Crashes.{UnfinishedGroup, FinishedGroup}
use Rattle.replay.proofs.Base.{Alike, alike_same, alike_trans, same_top, the_floor}
use Rattle.replay.proofs.Counting.{risen, torn_alike, whole_from, whole_to}
use Rattle.replay.proofs.Putting.{Iff, Grown, told_puts, puts_map, grown_to, grown_from}

pub group_keeps : (L G M : Log) (t u : Logged) (base size j : ℕ) → Distinct L → Distinct M → Top L t → Top M u → Added L G M → Group L G base size
    → Rises L (floor_of t) (floor_of u) → j < size → ((q : Logged) → G q → index_of q ≡ j → ⊥) → Same L M
group_keeps L G M t u base size j dl dm tl tm added group rises lt lacks =
    same_top t u dl dm tl tm
    (alike_trans (risen L (floor_of t) (floor_of u) rises) (torn_alike L G M base size added group (floor_of u) j lt lacks))

pub unfinished_group : UnfinishedGroup
unfinished_group xs gs ys = group_keeps (On xs) (On gs) (On ys)

pub group_puts : (L M : Log) (gs : List Logged) (t u : Logged) (base size : ℕ) → Distinct L → Distinct M → Top L t → Top M u → Added L (On gs) M
    → Group L (On gs) base size → Rises L (floor_of t) (floor_of u) → floor_of u ≤ base
    → ((k : ℕ) → k < size → (q : Logged) × On gs q × (index_of q ≡ k)) → Rising base gs → Fits (Counts L (floor_of u)) gs
    → Iff (Tells M) (Puts (Tells L) gs)
group_puts L M gs t u base size dl dm tl tm added group rises low filled rising fits k v = (
  λ s. puts_map (Told C) (Tells L) to gs k v (put.0 ((grown k v).1 (the_floor M dm u tm k v s))),
  λ h. record { top = u; is_top = tm; told = (grown k v).0 (put.1 (puts_map (Tells L) (Told C) from gs k v h)) },
)
  where
    C : Log
    C = Counts L (floor_of u)

    up : Alike (Counts L (floor_of t)) (Counts L (floor_of u))
    up = risen L (floor_of t) (floor_of u) rises

    to : (j : Key) (w : Object) → Told C j w → Tells L j w
    to j w s = record { top = t; is_top = tl; told = (up j w).1 s }

    from : (j : Key) (w : Object) → Tells L j w → Told C j w
    from j w s = (up j w).0 (the_floor L dl t tl j w s)

    put : (Told (Grown C gs) k v → Puts (Told C) gs k v) × (Puts (Told C) gs k v → Told (Grown C gs) k v)
    put = told_puts C gs base (λ q c. group.below q c.here) rising fits k v

    grown : Alike (Grown C gs) (Counts M (floor_of u))
    grown =
        alike_same (λ p g. whole_to L (On gs) M base size added group (floor_of u) low filled p (grown_from C gs p g))
        (λ p c. grown_to C gs p (whole_from L (On gs) M base size added group (floor_of u) low filled p c))

pub finished_group : FinishedGroup
finished_group xs gs ys = group_puts (On xs) (On ys) gs
