-- The text of the table.
use Rattle.std.specs.Prelude.{ℕ, ◌+◌, ◌-◌, ◌*◌, ◌/◌, ◌%◌, ◌≤◌, ◌==◌, ◌&&◌, nat_lt, Bool, true, false, ℤ, List, [], ◌∷◌, ◌++◌, Option, Some, None, IfSome, if◌then◌else◌, codes, length, replicate, unsigned_abs}
use Rattle.std.specs.List.{flat_map}
use Rattle.std.specs.Int.{is_negative}
use Rattle.std.specs.Fmt.{decimal, signed_decimal}
use Rattle.modes_fields.specs.declared.velocity.Velocity.{Velocity}
use Rattle.modes_fields.specs.declared.velocity.Velocity.TheVariants.{Ground, Air, Surface}
use Rattle.modes_cpr.specs.declared.points.Degrees.{Degrees}
use Rattle.modes_cpr.specs.declared.points.Position.{Position}
use Rattle.modes_cpr.specs.Pair.{IsWhole}
use Rattle.station_journal.specs.declared.aircraft.Aircraft.{Aircraft}

-- ---- columns

-- the text with spaces before it, up to the width; a wider text stays whole
abbrev pub right : ℕ → List ℕ → List ℕ
right width text = replicate (width - length text) 32 ++ text

-- the text with spaces after it, up to the width; a wider text stays whole
abbrev pub left : ℕ → List ℕ → List ℕ
left width text = text ++ replicate (width - length text) 32

-- an absent field is a dash
abbrev pub or_dash : {A : Type 0} → (A → List ℕ) → Option A → List ℕ
or_dash text None = codes "-"
or_dash text (Some a) = text a

-- a hexadecimal digit, a letter in upper case
abbrev pub hex_digit : ℕ → ℕ
hex_digit d = if nat_lt d 10 then 48 + d else 55 + d

-- six hexadecimal digits
unfoldable pub address_text : ℕ → List ℕ
address_text a = hex_digit (a / 1048576 % 16) ∷ hex_digit (a / 65536 % 16) ∷ hex_digit (a / 4096 % 16)
    ∷ hex_digit (a / 256 % 16) ∷ hex_digit (a / 16 % 16) ∷ hex_digit (a % 16) ∷ []

-- a callsign is printed as it is
abbrev pub callsign_text : List ℕ → List ℕ
callsign_text characters = characters

-- four octal digits
unfoldable pub squawk_text : ℕ → List ℕ
squawk_text s = (48 + s / 512 % 8) ∷ (48 + s / 64 % 8) ∷ (48 + s / 8 % 8) ∷ (48 + s % 8) ∷ []

-- T marks true airspeed, I indicated airspeed
abbrev pub airspeed_mark : Bool → List ℕ
airspeed_mark is_true = if is_true then codes "T" else codes "I"

-- k/128 of a turn in whole degrees, to the nearest: floor(360 k/128 + 1/2)
abbrev pub ground_track : ℕ → ℕ
ground_track k = (45 * k + 8) / 16

abbrev pub ground_track_text : ℕ → List ℕ
ground_track_text k = decimal (ground_track k)

-- knots to the east and to the north; or the heading in 1/1024 of a turn and the airspeed in knots; or, on the ground, whole
-- knots, rounded down, and the track in whole degrees
unfoldable pub velocity_text : Velocity → List ℕ
velocity_text (Ground east north) = signed_decimal east ++ codes "/" ++ signed_decimal north
velocity_text (Air heading is_true speed) = codes "H" ++ decimal heading ++ codes "/" ++ airspeed_mark is_true ++ decimal speed
velocity_text (Surface speed track) = codes "G" ++ decimal (speed / 8) ++ codes "/" ++ or_dash ground_track_text track

-- the altitude in feet, or that the aircraft is on the ground
abbrev pub altitude_text : Option Bool → Option ℤ → List ℕ
altitude_text (Some true) altitude = codes "ground"
altitude_text (Some false) altitude = or_dash signed_decimal altitude
altitude_text None altitude = or_dash signed_decimal altitude

-- five decimal digits
unfoldable pub five_digits : ℕ → List ℕ
five_digits n = (48 + n / 10000 % 10) ∷ (48 + n / 1000 % 10) ∷ (48 + n / 100 % 10) ∷ (48 + n / 10 % 10) ∷ (48 + n % 10) ∷ []

-- the whole number of 1/100,000 degrees, without the sign, cut off
abbrev pub hundred_thousandths : Degrees → ℕ
hundred_thousandths d = unsigned_abs d.num * 100000 / d.den

-- a minus sign where the number is negative and some digit isn't 0
abbrev pub degrees_sign : Bool → Bool → List ℕ
degrees_sign negative is_zero = if negative then (if is_zero then [] else codes "-") else []

-- the sign, the whole degrees and the digits after the point
abbrev pub parts_text : Bool → ℕ → ℕ → List ℕ
parts_text negative whole part =
    degrees_sign negative (whole == 0 && part == 0) ++ decimal whole ++ codes "." ++ five_digits part

-- degrees with five decimals
unfoldable pub degrees_text : Degrees → List ℕ
degrees_text d = let n = hundred_thousandths d in parts_text (is_negative d.num) (n / 100000) (n % 100000)

abbrev pub latitude_text : Position → List ℕ
latitude_text p = degrees_text p.lat

abbrev pub longitude_text : Position → List ℕ
longitude_text p = degrees_text p.lon

-- ---- lines

-- the line of an aircraft at a time in milliseconds; its age is in whole seconds
unfoldable pub row_text : ℕ → Aircraft → List ℕ
row_text now a = right 6 (address_text a.address)
    ++ 32 ∷ [] ++ left 8 (or_dash callsign_text a.callsign)
    ++ 32 ∷ [] ++ right 6 (altitude_text a.on_ground a.altitude)
    ++ 32 ∷ [] ++ right 4 (or_dash squawk_text a.squawk)
    ++ 32 ∷ [] ++ right 12 (or_dash velocity_text a.velocity)
    ++ 32 ∷ [] ++ right 6 (or_dash signed_decimal a.vertical)
    ++ 32 ∷ [] ++ right 10 (or_dash latitude_text a.position)
    ++ 32 ∷ [] ++ right 10 (or_dash longitude_text a.position)
    ++ 32 ∷ [] ++ right 3 (decimal ((now - a.heard) / 1000))
    ++ 10 ∷ []

-- the time in milliseconds, and how many rows there are
unfoldable pub first_line : ℕ → ℕ → List ℕ
first_line now count = codes "now " ++ decimal now ++ codes " aircraft " ++ decimal count ++ codes "\n"

unfoldable pub header : List ℕ
header = codes "  ADDR CALLSIGN    ALT SQWK     VELOCITY   VERT        LAT        LON AGE\n"

-- the whole table at a time in milliseconds
abbrev pub text : List Aircraft → ℕ → List ℕ
text rows now = first_line now (length rows) ++ header ++ flat_map (row_text now) rows

-- a row that a table at this time can print: heard by then, with denominators of at least 1
pub record IsPrintableRow (now : ℕ) (a : Aircraft) : Type 0 where
  pub heard : a.heard ≤ now
  pub whole : IfSome a.position IsWhole
