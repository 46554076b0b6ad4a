use Rattle.station_tests.proofs.station.placed.a_look_has_the_time_of_a_position.Given as goal

abbrev pub ghosts-looks_at_a_position-L-StationName : goal.ghosts-looks_at_a_position-L-StationName
ghosts-looks_at_a_position-L-StationName g a = record { seats = a.site.seats; start = record { history = a.site.places.history; limits = a.site.limits; resumed = 0 } }

abbrev pub ghosts-looks_at_a_position-L-Ledger : goal.ghosts-looks_at_a_position-L-Ledger
ghosts-looks_at_a_position-L-Ledger g a = record { name = a.site.blank.name; parts = a.site.blank.parts }
