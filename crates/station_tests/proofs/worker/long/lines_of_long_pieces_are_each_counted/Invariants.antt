use Rattle.station_tests.proofs.worker.long.lines_of_long_pieces_are_each_counted.Given as goal

abbrev pub ghosts-run_two-L-StationName : goal.ghosts-run_two-L-StationName
ghosts-run_two-L-StationName g a = record { seats = a.site.seats; start = record { history = a.site.places.history; limits = a.site.limits; resumed = 0 } }

abbrev pub ghosts-run_two-L-Ledger : goal.ghosts-run_two-L-Ledger
ghosts-run_two-L-Ledger g a = record { name = a.site.blank.name; parts = a.site.blank.parts }
