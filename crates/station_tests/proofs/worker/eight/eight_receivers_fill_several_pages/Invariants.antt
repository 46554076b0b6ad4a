use Rattle.station_tests.proofs.worker.eight.eight_receivers_fill_several_pages.Given as goal

abbrev pub ghosts-fill_pages-L-StationName : goal.ghosts-fill_pages-L-StationName
ghosts-fill_pages-L-StationName g a = record { seats = a.site.seats; start = record { history = a.site.places.history; limits = a.site.limits; resumed = 0 } }

abbrev pub ghosts-fill_pages-L-Ledger : goal.ghosts-fill_pages-L-Ledger
ghosts-fill_pages-L-Ledger g a = record { name = a.site.blank.name; parts = a.site.blank.parts }
