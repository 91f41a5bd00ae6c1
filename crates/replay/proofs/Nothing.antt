-- A remembered page and a slot that stand for none.
use Rattle.std.proofs.Common.{ℕ, None}
use Rattle.object.specs.declared.slot.Slot.{Slot}
use Rattle.replay.specs.declared.seen.Seen.{Seen}

-- any page, where only some page is needed; the checker's own default for a read past the end
abbrev pub nothing : Seen
nothing = record { place = 0; header = record { index = 0; size = 0; number = 0; floor = 0; file = 0 }; says = None }

abbrev pub blank : Slot ℕ
blank = record { key = record { file = 0; part = 0 }; place = 0; number = 0 }
