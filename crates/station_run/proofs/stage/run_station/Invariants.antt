use Rattle.std.specs.Prelude.{◌+◌, length}
use Rattle.station_run.specs.Limits.{program_limits}
use Rattle.station_run.proofs.stage.run_station.Given as goal

-- a station under the program's limits that goes on from what it is begun with, with a seat for each input and the reporter
abbrev pub ghosts-run_named-L-StationName : goal.ghosts-run_named-L-StationName
ghosts-run_named-L-StationName g a = record {
  seats = length a.stage.inputs.items + 1;
  start = record { history = a.foundation.places.history; limits = program_limits a.stage.kept.site; resumed = length a.stage.kept.recent.entries.items };
}

abbrev pub ghosts-run_named-L-Ledger : goal.ghosts-run_named-L-Ledger
ghosts-run_named-L-Ledger g a = record { name = a.foundation.blank.name; parts = a.foundation.blank.parts }
