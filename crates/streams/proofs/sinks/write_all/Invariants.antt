use Rattle.std.proofs.Common.{length, ◌-◌, ◌≤◌, take}
use Rattle.streams.proofs.TakenLemmas.{Took}
use Rattle.streams.proofs.sinks.write_all.Given as goal

-- the bytes up to here were taken, and nothing failed
abbrev pub invariant-loop-at : goal.invariant-loop-at
invariant-loop-at g l =
    (l.at ≤ length l.piece) × Took (g.S.Sink.state l.initial.out) (g.S.Sink.state l.out) (take l.at l.piece)

abbrev pub decreases-loop-at : goal.decreases-loop-at
decreases-loop-at g l = length l.piece - l.at
