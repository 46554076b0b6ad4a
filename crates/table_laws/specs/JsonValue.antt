-- The table as a value of JSON. The grammar is that of the crate `json` (RFC 8259): `document` is the value that a text is.
use Rattle.std.specs.Prelude.{ℕ, ◌+◌, ◌-◌, ◌*◌, ◌/◌, Bool, true, false, ℤ, List, [], ◌∷◌, ◌++◌, map, zip, codes, Option, Some, None}
use Rattle.std.specs.Fmt.{decimal, signed_decimal}
use Rattle.std.specs.Option.{option_map}
use Rattle.json.specs.Json.{Json, number, string, array, object, Items, no_items, item, Members, no_members, member}
use Rattle.modes_fields.specs.declared.category.Category.{Category}
use Rattle.modes_fields.specs.declared.emergency.Emergency.{Emergency}
use Rattle.modes_fields.specs.declared.emergency.Emergency.TheVariants.{NoEmergency, General, Lifeguard, MinimumFuel, NoCommunications, UnlawfulInterference, Downed}
use Rattle.modes_fields.specs.declared.velocity.RateSource.{RateSource}
use Rattle.modes_fields.specs.declared.velocity.RateSource.TheVariants.{Gnss, Barometric}
use Rattle.modes_fields.specs.declared.velocity.Velocity.{Velocity}
use Rattle.modes_fields.specs.declared.velocity.Velocity.TheVariants.{Ground, Air, Surface}
use Rattle.modes_cpr.specs.declared.points.Position.{Position}
use Rattle.station_journal.specs.declared.aircraft.Aircraft.{Aircraft}
use Rattle.station_report.specs.Json.{category_letter, low_address, seconds, tenths}
use Rattle.station_report.specs.Motion.{speed_tenths, track}
use Rattle.station_report.specs.Text.{ground_track, latitude_text, longitude_text, squawk_text}

-- ---- objects and arrays

-- keys with their values, in order
abbrev pub Pairs : Type 0
Pairs = List (List ℕ × Json)

abbrev pub members_of : Pairs → Members
members_of [] = no_members
members_of ((key, value) ∷ rest) = member key value (members_of rest)

abbrev pub items_of : List Json → Items
items_of [] = no_items
items_of (value ∷ rest) = item value (items_of rest)

-- ---- members

-- an absent field has no member
abbrev pub pairs_of : {V : Type 0} → (V → Pairs) → Option V → Pairs
pairs_of pairs None = []
pairs_of pairs (Some v) = pairs v

abbrev pub flight_pair : List ℕ → Pairs
flight_pair callsign = (codes "flight", string callsign) ∷ []

-- in feet
abbrev pub feet_pairs : ℤ → Pairs
feet_pairs feet = (codes "alt_baro", number (signed_decimal feet)) ∷ (codes "altitude", number (signed_decimal feet)) ∷ []

abbrev pub ground_pairs : Pairs
ground_pairs = (codes "alt_baro", string (codes "ground")) ∷ (codes "altitude", string (codes "ground")) ∷ []

-- the altitude, or that the aircraft is on the ground
abbrev pub altitude_pairs : Option Bool → Option ℤ → Pairs
altitude_pairs (Some true) altitude = ground_pairs
altitude_pairs (Some false) altitude = pairs_of feet_pairs altitude
altitude_pairs None altitude = pairs_of feet_pairs altitude

-- in whole degrees
abbrev pub track_pair : ℕ → Pairs
track_pair degrees = (codes "track", number (decimal degrees)) ∷ []

-- tenths of a knot and whole knots, with the track; or tenths of a degree, and knots
abbrev pub velocity_pairs : Velocity → Pairs
velocity_pairs (Ground east north) =
    (codes "gs", number (tenths (speed_tenths east north))) ∷ (codes "speed", number (decimal (speed_tenths east north / 10)))
    ∷ pairs_of track_pair (track east north)
velocity_pairs (Air heading true speed) =
    (codes "mag_heading", number (tenths (heading * 3600 / 1024))) ∷ (codes "tas", number (decimal speed)) ∷ []
velocity_pairs (Air heading false speed) =
    (codes "mag_heading", number (tenths (heading * 3600 / 1024))) ∷ (codes "ias", number (decimal speed)) ∷ []
velocity_pairs (Surface speed track) =
    (codes "gs", number (tenths (speed * 10 / 8))) ∷ (codes "speed", number (decimal (speed / 8)))
    ∷ pairs_of track_pair (option_map ground_track track)

-- the key of a rate from GNSS, or of any other
abbrev pub rate_name : Option RateSource → List ℕ
rate_name (Some Gnss) = codes "geom_rate"
rate_name (Some Barometric) = codes "baro_rate"
rate_name None = codes "baro_rate"

-- in feet per minute
abbrev pub rate_pairs : Option RateSource → ℤ → Pairs
rate_pairs source feet = (rate_name source, number (signed_decimal feet)) ∷ (codes "vert_rate", number (signed_decimal feet)) ∷ []

-- four octal digits
abbrev pub squawk_pair : ℕ → Pairs
squawk_pair code = (codes "squawk", string (squawk_text code)) ∷ []

-- the seconds since a time in milliseconds
abbrev pub seen_pos_pair : ℕ → ℕ → Pairs
seen_pos_pair now at = (codes "seen_pos", number (seconds (now - at))) ∷ []

-- degrees with five decimals, and the time of the position
abbrev pub place_pairs : ℕ → Option ℕ → Position → Pairs
place_pairs now placed p =
    (codes "lat", number (latitude_text p)) ∷ (codes "lon", number (longitude_text p)) ∷ pairs_of (seen_pos_pair now) placed

-- a letter and a digit
abbrev pub category_pair : Category → Pairs
category_pair c = (codes "category", string (category_letter c.set ∷ decimal c.number)) ∷ []

abbrev pub emergency_pair : Emergency → Pairs
emergency_pair NoEmergency = []
emergency_pair General = (codes "emergency", string (codes "general")) ∷ []
emergency_pair Lifeguard = (codes "emergency", string (codes "lifeguard")) ∷ []
emergency_pair MinimumFuel = (codes "emergency", string (codes "minfuel")) ∷ []
emergency_pair NoCommunications = (codes "emergency", string (codes "nordo")) ∷ []
emergency_pair UnlawfulInterference = (codes "emergency", string (codes "unlawful")) ∷ []
emergency_pair Downed = (codes "emergency", string (codes "downed")) ∷ []

-- ---- the table

-- all but the address, and the last two
abbrev pub field_pairs : ℕ → Aircraft → Option ℕ → Pairs
field_pairs now a placed =
    pairs_of flight_pair a.callsign ++ altitude_pairs a.on_ground a.altitude ++ pairs_of velocity_pairs a.velocity
    ++ pairs_of (rate_pairs a.rate_source) a.vertical ++ pairs_of squawk_pair a.squawk ++ pairs_of (place_pairs now placed) a.position
    ++ pairs_of category_pair a.category ++ pairs_of emergency_pair a.emergency

abbrev pub last_pairs : ℕ → Aircraft → Pairs
last_pairs now a = (codes "rssi", number (codes "-49.5")) ∷ (codes "seen", number (seconds (now - a.heard))) ∷ []

-- an aircraft, and the time of its position
abbrev pub aircraft_value : ℕ → Aircraft × Option ℕ → Json
aircraft_value now (a, placed) = object (members_of ((codes "hex", string (low_address a.address)) ∷ (field_pairs now a placed ++ last_pairs now a)))

-- the table at a time in milliseconds after the origin, with the times of the positions and the number of entries
abbrev pub table_value : List Aircraft → List (Option ℕ) → ℕ → ℕ → ℕ → Json
table_value rows moments now origin entries =
    object (members_of (
    (codes "now", number (seconds (origin + now)))
    ∷ (codes "messages", number (decimal entries))
    ∷ (codes "aircraft", array (items_of (map (aircraft_value now) (zip rows moments))))
    ∷ []))
