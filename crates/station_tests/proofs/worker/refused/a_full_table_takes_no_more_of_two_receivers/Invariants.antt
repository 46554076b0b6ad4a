use Rattle.station_tests.proofs.worker.refused.a_full_table_takes_no_more_of_two_receivers.Given as goal

abbrev pub ghosts-run_at_one-L-StationName : goal.ghosts-run_at_one-L-StationName
ghosts-run_at_one-L-StationName g a = record { seats = a.site.seats; start = record { history = a.site.places.history; limits = a.site.limits; resumed = 0 } }

abbrev pub ghosts-run_at_one-L-Ledger : goal.ghosts-run_at_one-L-Ledger
ghosts-run_at_one-L-Ledger g a = record { name = a.site.blank.name; parts = a.site.blank.parts }
