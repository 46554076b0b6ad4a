use Rattle.station_tests.proofs.station.limits.a_frame_meets_one_limit.Given as goal

abbrev pub ghosts-meet-L-StationName : goal.ghosts-meet-L-StationName
ghosts-meet-L-StationName g a = record { seats = a.site.seats; start = record { history = a.site.places.history; limits = a.site.limits; resumed = 0 } }

abbrev pub ghosts-meet-L-Ledger : goal.ghosts-meet-L-Ledger
ghosts-meet-L-Ledger g a = record { name = a.site.blank.name; parts = a.site.blank.parts }
