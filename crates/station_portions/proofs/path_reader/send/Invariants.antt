use Rattle.std.proofs.Common.{◌≡◌}
use Rattle.rtrb.specs.Ring.{SameProducer, sent}
use Rattle.station_portions.proofs.path_reader.send.Given as goal

abbrev pub invariant-loop : goal.invariant-loop
invariant-loop g l = (sent l.messages ≡ sent l.initial.messages) × (l.message ≡ l.initial.message) × SameProducer l.initial.messages l.messages
