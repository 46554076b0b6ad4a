use Rattle.std.specs.Prelude.{None}
use Rattle.station_tests.proofs.station.recorded.a_record_has_all_that_a_seat_has_seen.Given as goal

abbrev pub ghosts-tick_and_write-L-StationName : goal.ghosts-tick_and_write-L-StationName
ghosts-tick_and_write-L-StationName g a = record { seats = 2; start = record { history = a.places.history; limits = record { entries = 131072; aircraft = 2; site = None }; resumed = 0 } }

abbrev pub ghosts-tick_and_write-L-Ledger : goal.ghosts-tick_and_write-L-Ledger
ghosts-tick_and_write-L-Ledger g a = record { name = a.blank.name; parts = a.blank.parts }
