use Rattle.station_history.specs.Start.{log_of}
use Rattle.station_replay.proofs.RowLemmas.{rows_of_legal}
use Rattle.station_files.proofs.displays.json_of.Goals as goal

pub table_as-requires : goal.table_as-requires
table_as-requires g c = record { rows = rw c.now.ensures.value (rows_of_legal (log_of g.L.StationName.start c.args.look.now.seen) c.now.ensures.legal) }
