use Rattle.station_history.specs.Start.{log_of}
use Rattle.station_replay.proofs.RowLemmas.{rows_of_legal}
use Rattle.station_output.proofs.printer.write_table.Goals as goal

pub table_as-written-requires : goal.table_as-written-requires
table_as-written-requires g c = record { rows = rw c.now.ensures.value (rows_of_legal (log_of g.L.StationName.start c.args.look.seen) c.now.ensures.legal) }
