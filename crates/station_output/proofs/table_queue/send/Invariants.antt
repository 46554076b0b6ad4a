use Rattle.std.proofs.Common.{◌≡◌}
use Rattle.rtrb.specs.Ring.{SameProducer, sent}
use Rattle.station_output.proofs.table_queue.send.Given as goal

abbrev pub invariant-loop : goal.invariant-loop
invariant-loop g l = (sent l.tables ≡ sent l.initial.tables) × (l.table ≡ l.initial.table) × SameProducer l.initial.tables l.tables
