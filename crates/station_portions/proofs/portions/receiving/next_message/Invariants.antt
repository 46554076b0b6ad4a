use Rattle.std.proofs.Common.{◌≡◌}
use Rattle.rtrb.specs.Ring.{SameConsumer, received}
use Rattle.station_portions.proofs.portions.receiving.next_message.Given as goal

abbrev pub invariant-loop : goal.invariant-loop
invariant-loop g l = (received l.messages ≡ received l.initial.messages) × SameConsumer l.initial.messages l.messages
