-- The table as JSON, with the keys of aircraft.json of readsb and dump1090.
use Rattle.std.specs.Prelude.{ℕ, ◌+◌, ◌-◌, ◌*◌, ◌/◌, ◌%◌, nat_lt, ℤ, Bool, true, false, List, [], ◌∷◌, ◌++◌, Option, Some, None, if◌then◌else◌, codes, zip}
use Rattle.std.specs.List.{flat_map}
use Rattle.std.specs.Option.{option_map}
use Rattle.std.specs.Fmt.{decimal, signed_decimal}
use Rattle.modes_fields.specs.declared.category.Category.{Category}
use Rattle.modes_fields.specs.declared.category.CategorySet.{CategorySet}
use Rattle.modes_fields.specs.declared.category.CategorySet.TheVariants.{A, B, C, D}
use Rattle.modes_fields.specs.declared.emergency.Emergency.{Emergency}
use Rattle.modes_fields.specs.declared.emergency.Emergency.TheVariants.{NoEmergency, General, Lifeguard, MinimumFuel, NoCommunications, UnlawfulInterference, Downed}
use Rattle.modes_fields.specs.declared.velocity.RateSource.{RateSource}
use Rattle.modes_fields.specs.declared.velocity.RateSource.TheVariants.{Gnss, Barometric}
use Rattle.modes_fields.specs.declared.velocity.Velocity.{Velocity}
use Rattle.modes_fields.specs.declared.velocity.Velocity.TheVariants.{Ground, Air, Surface}
use Rattle.modes_cpr.specs.declared.points.Position.{Position}
use Rattle.station_journal.specs.declared.aircraft.Aircraft.{Aircraft}
use Rattle.station_report.specs.Motion.{speed_tenths, track}
use Rattle.station_report.specs.Text.{ground_track, callsign_text, squawk_text, latitude_text, longitude_text}

-- ---- numbers

-- three decimal digits, the last of n
unfoldable pub three_digits : ℕ → List ℕ
three_digits n = (48 + n / 100 % 10) ∷ (48 + n / 10 % 10) ∷ (48 + n % 10) ∷ []

-- milliseconds as seconds with three decimals
unfoldable pub seconds : ℕ → List ℕ
seconds n = decimal (n / 1000) ++ codes "." ++ three_digits n

-- tenths with one decimal
unfoldable pub tenths : ℕ → List ℕ
tenths n = decimal (n / 10) ++ codes "." ++ (48 + n % 10) ∷ []

-- a hexadecimal digit, a letter in lower case
abbrev pub low_hex_digit : ℕ → ℕ
low_hex_digit d = if nat_lt d 10 then 48 + d else 87 + d

-- six hexadecimal digits
unfoldable pub low_address : ℕ → List ℕ
low_address a = low_hex_digit (a / 1048576 % 16) ∷ low_hex_digit (a / 65536 % 16) ∷ low_hex_digit (a / 4096 % 16)
    ∷ low_hex_digit (a / 256 % 16) ∷ low_hex_digit (a / 16 % 16) ∷ low_hex_digit (a % 16) ∷ []

-- ---- members of an aircraft, each behind a comma

-- an absent field has no member
abbrev pub if_known : {A : Type 0} → (A → List ℕ) → Option A → List ℕ
if_known text None = []
if_known text (Some a) = text a

unfoldable pub flight : List ℕ → List ℕ
flight callsign = codes ",\"flight\":\"" ++ callsign_text callsign ++ codes "\""

unfoldable pub altitude_members : ℤ → List ℕ
altitude_members feet = codes ",\"alt_baro\":" ++ signed_decimal feet ++ codes ",\"altitude\":" ++ signed_decimal feet

-- of an aircraft on the ground, in the place of its altitude
unfoldable pub ground_members : List ℕ
ground_members = codes ",\"alt_baro\":\"ground\",\"altitude\":\"ground\""

-- the altitude, or that the aircraft is on the ground
abbrev pub shown_altitude : Option Bool → Option ℤ → List ℕ
shown_altitude (Some true) altitude = ground_members
shown_altitude (Some false) altitude = if_known altitude_members altitude
shown_altitude None altitude = if_known altitude_members altitude

unfoldable pub track_member : ℕ → List ℕ
track_member degrees = codes ",\"track\":" ++ decimal degrees

-- over ground: knots with one decimal, whole knots, and whole degrees from north by east
unfoldable pub ground : ℤ → ℤ → List ℕ
ground east north = codes ",\"gs\":" ++ tenths (speed_tenths east north)
    ++ codes ",\"speed\":" ++ decimal (speed_tenths east north / 10)
    ++ if_known track_member (track east north)

-- the key of a true or of an indicated airspeed
abbrev pub airspeed_key : Bool → List ℕ
airspeed_key is_true = if is_true then codes ",\"tas\":" else codes ",\"ias\":"

-- in the air: the heading in 1/1024 of a turn as degrees with one decimal, rounded down, and knots
unfoldable pub air : ℕ → Bool → ℕ → List ℕ
air heading is_true speed = codes ",\"mag_heading\":" ++ tenths (heading * 3600 / 1024)
    ++ airspeed_key is_true ++ decimal speed

-- on the ground: eighths of a knot as knots with one decimal and as whole knots, both rounded down, and whole degrees
unfoldable pub surface : ℕ → Option ℕ → List ℕ
surface speed track = codes ",\"gs\":" ++ tenths (speed * 10 / 8)
    ++ codes ",\"speed\":" ++ decimal (speed / 8)
    ++ if_known track_member (option_map ground_track track)

abbrev pub moving : Velocity → List ℕ
moving (Ground east north) = ground east north
moving (Air heading is_true speed) = air heading is_true speed
moving (Surface speed track) = surface speed track

-- the key of a rate from GNSS, or of a barometric one
abbrev pub rate_key : Option RateSource → List ℕ
rate_key (Some Gnss) = codes ",\"geom_rate\":"
rate_key (Some Barometric) = codes ",\"baro_rate\":"
rate_key None = codes ",\"baro_rate\":"

-- in feet per minute
unfoldable pub rate : Option RateSource → ℤ → List ℕ
rate source feet = rate_key source ++ signed_decimal feet ++ codes ",\"vert_rate\":" ++ signed_decimal feet

unfoldable pub squawk : ℕ → List ℕ
squawk code = codes ",\"squawk\":\"" ++ squawk_text code ++ codes "\""

-- the seconds since a time in milliseconds; 0 where that time is later than now
unfoldable pub seen_pos : ℕ → ℕ → List ℕ
seen_pos now at = codes ",\"seen_pos\":" ++ seconds (now - at)

-- a position, and the time of the frame that gave it
unfoldable pub place : ℕ → Option ℕ → Position → List ℕ
place now placed p = codes ",\"lat\":" ++ latitude_text p ++ codes ",\"lon\":" ++ longitude_text p
    ++ if_known (seen_pos now) placed

-- the letter of a set of emitter categories
abbrev pub category_letter : CategorySet → ℕ
category_letter A = 65
category_letter B = 66
category_letter C = 67
category_letter D = 68

unfoldable pub category : Category → List ℕ
category c = codes ",\"category\":\"" ++ category_letter c.set ∷ [] ++ decimal c.number ++ codes "\""

-- in the words of readsb; a report of none has no member
unfoldable pub emergency : Emergency → List ℕ
emergency NoEmergency = []
emergency General = codes ",\"emergency\":\"general\""
emergency Lifeguard = codes ",\"emergency\":\"lifeguard\""
emergency MinimumFuel = codes ",\"emergency\":\"minfuel\""
emergency NoCommunications = codes ",\"emergency\":\"nordo\""
emergency UnlawfulInterference = codes ",\"emergency\":\"unlawful\""
emergency Downed = codes ",\"emergency\":\"downed\""

-- a level in decibels that no receiver gave: readsb writes it where there is none, and dump1090's page reads it
unfoldable pub unknown_level : List ℕ
unknown_level = codes ",\"rssi\":-49.5"

-- ---- the whole

-- an aircraft at a time in milliseconds, and the time of its position
unfoldable pub object : ℕ → Aircraft × Option ℕ → List ℕ
object now (a, placed) = codes "{\"hex\":\"" ++ low_address a.address ++ codes "\""
    ++ if_known flight a.callsign
    ++ shown_altitude a.on_ground a.altitude
    ++ if_known moving a.velocity
    ++ if_known (rate a.rate_source) a.vertical
    ++ if_known squawk a.squawk
    ++ if_known (place now placed) a.position
    ++ if_known category a.category
    ++ if_known emergency a.emergency
    ++ unknown_level
    ++ codes ",\"seen\":" ++ seconds (now - a.heard) ++ codes "}"

-- the text of each element, with a comma between two
abbrev pub with_commas : {X : Type 0} → (X → List ℕ) → List X → List ℕ
with_commas text [] = []
with_commas text (x ∷ xs) = text x ++ flat_map (λ y. codes "," ++ text y) xs

-- the time in milliseconds after the origin, and the number of entries
unfoldable pub head : ℕ → ℕ → ℕ → List ℕ
head origin now entries = codes "{\"now\":" ++ seconds (origin + now) ++ codes ",\"messages\":" ++ decimal entries
    ++ codes ",\"aircraft\":["

-- the table at a time in milliseconds after the origin, with the times of the positions
abbrev pub json : List Aircraft → List (Option ℕ) → ℕ → ℕ → ℕ → List ℕ
json rows moments now origin entries = head origin now entries ++ with_commas (object now) (zip rows moments) ++ codes "]}\n"
