use Rattle.std.proofs.Common.{◌≡◌, ℕ, ◌<◌, length, get_or}
use Rattle.replay.specs.Tops.{TopAmong}
use Rattle.replay.proofs.tops.block_tops.Given as goal

abbrev pub invariant-loop-page : goal.invariant-loop-page
invariant-loop-page l = (length l.tops ≡ 16) × ((b : ℕ) → b < length l.tops → TopAmong l.seen l.per_block l.page-index b (get_or l.tops b 0))
