use Rattle.station_tests.proofs.worker.receivers_are_seen_while_both_still_read.Given as goal

abbrev pub ghosts-is_meeting-L-StationName : goal.ghosts-is_meeting-L-StationName
ghosts-is_meeting-L-StationName g a = record { seats = a.site.seats; start = record { history = a.site.places.history; limits = a.site.limits; resumed = 0 } }

abbrev pub ghosts-is_meeting-L-Ledger : goal.ghosts-is_meeting-L-Ledger
ghosts-is_meeting-L-Ledger g a = record { name = a.site.blank.name; parts = a.site.blank.parts }
