use Rattle.std.proofs.Common.{map, take}
use Rattle.station_run.proofs.Common.{LearnsFrom}
use Rattle.station_run.proofs.stage.learn_from_all.Given as goal

-- the seat has learned from those so far
abbrev pub invariant-loop-receiver : goal.invariant-loop-receiver
invariant-loop-receiver g l = LearnsFrom l.fn.seat (map (λ r. r.seat) (take l.receiver-index l.receivers.items)) l.seat
