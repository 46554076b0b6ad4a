use Rattle.station_tests.proofs.worker.refused.run.Given as goal

abbrev pub ghosts-run_at_eight-L-StationName : goal.ghosts-run_at_eight-L-StationName
ghosts-run_at_eight-L-StationName g a = record { seats = a.site.seats; start = record { history = a.site.places.history; limits = a.site.limits; resumed = 0 } }

abbrev pub ghosts-run_at_eight-L-Ledger : goal.ghosts-run_at_eight-L-Ledger
ghosts-run_at_eight-L-Ledger g a = record { name = a.site.blank.name; parts = a.site.blank.parts }
