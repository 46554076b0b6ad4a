use Rattle.station_journal.proofs.Common.{sighting_of, callsign_of, even_spot_of, odd_spot_of, ground_of, altitude_of, category_of, emergency_of, squawk_of, velocity_of, vertical_of, rate_of}
use Rattle.station_journal.proofs.NewestLemmas.{finds_newest}
use Rattle.journal_laws.proofs.laws.newest_reading.Goals as goal

pub returns-clause-sighting : goal.returns-clause-sighting
returns-clause-sighting c = finds_newest sighting_of

pub returns-clause-callsign : goal.returns-clause-callsign
returns-clause-callsign c = finds_newest callsign_of

pub returns-clause-altitude : goal.returns-clause-altitude
returns-clause-altitude c = finds_newest altitude_of

pub returns-clause-squawk : goal.returns-clause-squawk
returns-clause-squawk c = finds_newest squawk_of

pub returns-clause-velocity : goal.returns-clause-velocity
returns-clause-velocity c site = finds_newest (velocity_of site)

pub returns-clause-vertical : goal.returns-clause-vertical
returns-clause-vertical c = finds_newest vertical_of

pub returns-clause-even_place : goal.returns-clause-even_place
returns-clause-even_place c site = finds_newest (even_spot_of site)

pub returns-clause-odd_place : goal.returns-clause-odd_place
returns-clause-odd_place c site = finds_newest (odd_spot_of site)

pub returns-clause-on_ground : goal.returns-clause-on_ground
returns-clause-on_ground c site = finds_newest (ground_of site)

pub returns-clause-category : goal.returns-clause-category
returns-clause-category c = finds_newest category_of

pub returns-clause-emergency : goal.returns-clause-emergency
returns-clause-emergency c = finds_newest emergency_of

pub returns-clause-rate : goal.returns-clause-rate
returns-clause-rate c = finds_newest rate_of
