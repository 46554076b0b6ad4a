use Rattle.station_tests.proofs.station.recalled.a_seat_recalls_all_that_it_has_seen.Given as goal

abbrev pub ghosts-tick_and_recall-L-StationName : goal.ghosts-tick_and_recall-L-StationName
ghosts-tick_and_recall-L-StationName g a = record { seats = a.site.seats; start = record { history = a.site.places.history; limits = a.site.limits; resumed = 0 } }

abbrev pub ghosts-tick_and_recall-L-Ledger : goal.ghosts-tick_and_recall-L-Ledger
ghosts-tick_and_recall-L-Ledger g a = record { name = a.site.blank.name; parts = a.site.blank.parts }
