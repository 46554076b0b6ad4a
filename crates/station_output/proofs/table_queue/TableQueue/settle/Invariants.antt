use Rattle.station_output.specs.Queued.{IsSame}
use Rattle.station_output.proofs.table_queue.TableQueue.settle.Given as goal

abbrev pub invariant-loop : goal.invariant-loop
invariant-loop g l = IsSame l.initial.self l.self
