use Rattle.std.specs.Prelude.{length, None}
use Rattle.station_tests.proofs.station.resumed.tell.Given as goal

abbrev pub ghosts-go_on-L-StationName : goal.ghosts-go_on-L-StationName
ghosts-go_on-L-StationName g a = record { seats = 1; start = record { history = a.places.history; limits = record { entries = 16; aircraft = 2; site = None }; resumed = length a.recent.entries.items } }

abbrev pub ghosts-go_on-L-Ledger : goal.ghosts-go_on-L-Ledger
ghosts-go_on-L-Ledger g a = record { name = a.blank.name; parts = a.blank.parts }
