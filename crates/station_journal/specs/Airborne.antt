-- The newest position of airborne places alone: what a search finds without a site.
use Rattle.std.specs.Prelude.{ℕ, Bool, true, false, not, List, [], ◌∷◌, Option, Some, None, if◌then◌else◌}
use Rattle.modes_fields.specs.declared.place.Place.{Place}
use Rattle.modes_fields.specs.Carried.{fields_of}
use Rattle.modes_cpr.specs.declared.points.Position.{Position}
use Rattle.modes_cpr.specs.Pair.{position_of}
use Rattle.station_journal.specs.declared.entry.Entry.{Entry}
use Rattle.station_journal.specs.declared.entry.Entry.TheVariants.{Tick, Heard}
use Rattle.station_journal.specs.declared.aircraft.Stamped.{Stamped}
use Rattle.station_journal.specs.Past.{Frame, clock, fresh, stamp, or_older, newest, read_for, pair_ms}

abbrev pub place_of : Frame → Option Place
place_of frame = (fields_of frame).place

-- the place, if it has this parity
abbrev pub of_parity : Bool → Option Place → Option Place
of_parity odd None = None
of_parity odd (Some place) = if (if odd then place.odd else not place.odd) then Some place else None

abbrev pub even_place_of : Frame → Option Place
even_place_of frame = of_parity false (place_of frame)

abbrev pub odd_place_of : Frame → Option Place
odd_place_of frame = of_parity true (place_of frame)

-- the position that the newest place gives with an earlier one of the other parity, if there is one
abbrev pub airborne_pair : Place → Option Place → Option Position
airborne_pair place None = None
airborne_pair place (Some other) = if place.odd then position_of other place true else position_of place other false

-- the newest earlier place of the other parity, if it is at most 10,000 ms older
abbrev pub airborne_partner : Bool → ℕ → ℕ → List Entry → Option Place
airborne_partner odd base a past =
    if odd then fresh pair_ms (clock base past) (newest even_place_of base a past)
    else fresh pair_ms (clock base past) (newest odd_place_of base a past)

-- the position that a new place of the aircraft gives
abbrev pub airborne_fix : ℕ → ℕ → List Entry → Option Place → Option Position
airborne_fix base a past None = None
airborne_fix base a past (Some place) = airborne_pair place (airborne_partner place.odd base a past)

-- the newest position that a frame of the aircraft gives, with its time
abbrev pub newest_airborne_fix : ℕ → ℕ → List Entry → Option (Stamped Position)
newest_airborne_fix base a [] = None
newest_airborne_fix base a (Tick seat at ∷ past) = newest_airborne_fix base a past
newest_airborne_fix base a (Heard seat frame ∷ past) =
    or_older (stamp (clock base past) (airborne_fix base a past (read_for place_of a frame))) (newest_airborne_fix base a past)
