use Rattle.std.proofs.Common.{◌≢◌, ◌<◌, ◌≤◌, ℕ, length, slice_index_or}
use Rattle.station_portions.proofs.backlog.border.Given as goal

abbrev pub invariant-loop-at : goal.invariant-loop-at
invariant-loop-at l = (l.at ≤ length l.bytes) × ((k : ℕ) → l.at ≤ k → k < length l.bytes → slice_index_or l.bytes k 0 ≢ 10)

abbrev pub decreases-loop-at : goal.decreases-loop-at
decreases-loop-at l = l.at
