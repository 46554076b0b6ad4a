-- What a row shows, and how it is read from the bytes of its line.
use Rattle.std.specs.Prelude.{ℕ, zero, suc, length, take, map, ◌+◌, ◌-◌, ◌*◌, ◌/◌, nat_lt, ◌==◌, not, Bool, false, ℤ, pos, neg_ℤ, List, [], ◌∷◌, drop, Option, Some, None, if◌then◌else◌}
use Rattle.std.specs.Int.{is_negative}
use Rattle.std.specs.List.{fold, filter}
use Rattle.std.specs.Option.{option_map}
use Rattle.modes_fields.specs.Characters.{without_end_spaces}
use Rattle.modes_fields.specs.declared.velocity.Velocity.{Velocity}
use Rattle.modes_fields.specs.declared.velocity.Velocity.TheVariants.{Ground, Air, Surface}
use Rattle.modes_cpr.specs.declared.points.Degrees.{Degrees}
use Rattle.modes_cpr.specs.declared.points.Position.{Position}
use Rattle.station_journal.specs.declared.aircraft.Aircraft.{Aircraft}
use Rattle.station_report.specs.Text.{ground_track, hundred_thousandths}
use Rattle.table_laws.specs.Columns.{column}

-- ---- what a row shows

-- knots to the east and to the north; or the heading in 1/1024 of a turn, whether the airspeed is true, and knots; or, on the
-- ground, whole knots and whole degrees
pub data ShownVelocity : Type 0 where
  OverGround : (east north : ℤ) → ShownVelocity
  InAir : (heading : ℕ) (is_true : Bool) (knots : ℕ) → ShownVelocity
  OnGround : (knots : ℕ) (degrees : Option ℕ) → ShownVelocity

-- altitudes in feet, rates in feet per minute, degrees in 1/100,000 degree, and the age in whole seconds
pub record ShownRow : Type 0 where
  pub address : ℕ
  pub callsign : Option (List ℕ)
  pub on_ground : Bool
  pub altitude : Option ℤ
  pub squawk : Option ℕ
  pub velocity : Option ShownVelocity
  pub vertical : Option ℤ
  pub latitude : Option ℤ
  pub longitude : Option ℤ
  pub age : ℕ

-- eighths of a knot rounded down, and 1/128 of a turn to the nearest degree
abbrev pub shown_velocity : Velocity → ShownVelocity
shown_velocity (Ground east north) = OverGround east north
shown_velocity (Air heading is_true speed) = InAir heading is_true speed
shown_velocity (Surface speed track) = OnGround (speed / 8) (option_map ground_track track)

-- cut off after five decimals
abbrev pub shown_degrees : Degrees → ℤ
shown_degrees d = if is_negative d.num then neg_ℤ (pos (hundred_thousandths d)) else pos (hundred_thousandths d)

abbrev pub shown_latitude : Position → ℤ
shown_latitude p = shown_degrees p.lat

abbrev pub shown_longitude : Position → ℤ
shown_longitude p = shown_degrees p.lon

abbrev pub is_on_ground : Option Bool → Bool
is_on_ground None = false
is_on_ground (Some on_ground) = on_ground

-- what a row shows at a time in milliseconds; on the ground no altitude
abbrev pub shown_row : ℕ → Aircraft → ShownRow
shown_row now row = record {
  address = row.address;
  callsign = row.callsign;
  on_ground = is_on_ground row.on_ground;
  altitude = if is_on_ground row.on_ground then None else row.altitude;
  squawk = row.squawk;
  velocity = option_map shown_velocity row.velocity;
  vertical = row.vertical;
  latitude = option_map shown_latitude row.position;
  longitude = option_map shown_longitude row.position;
  age = (now - row.heard) / 1000;
}

-- ---- texts

-- a text without the spaces before it
abbrev pub after_spaces : List ℕ → List ℕ
after_spaces [] = []
after_spaces (c ∷ cs) = if c == 32 then after_spaces cs else c ∷ cs

-- what is before the first slash
abbrev pub before_slash : List ℕ → List ℕ
before_slash [] = []
before_slash (c ∷ cs) = if c == 47 then [] else c ∷ before_slash cs

-- what is after the first slash
abbrev pub after_slash : List ℕ → List ℕ
after_slash [] = []
after_slash (c ∷ cs) = if c == 47 then cs else after_slash cs

-- whether the first byte is b
abbrev pub starts_with : ℕ → List ℕ → Bool
starts_with b [] = false
starts_with b (c ∷ cs) = c == b

-- whether the text is a dash
abbrev pub is_dash : List ℕ → Bool
is_dash [] = false
is_dash (c ∷ []) = c == 45
is_dash (c ∷ next ∷ rest) = false

-- a dash is an absent field
abbrev pub read_field : {V : Type 0} → (List ℕ → V) → List ℕ → Option V
read_field read text = if is_dash text then None else Some (read text)

-- ---- numbers

-- what decimal digits write
unfoldable pub read_number : List ℕ → ℕ
read_number digits = fold (λ n c. 10 * n + (c - 48)) 0 digits

-- what octal digits write
unfoldable pub read_octal : List ℕ → ℕ
read_octal digits = fold (λ n c. 8 * n + (c - 48)) 0 digits

-- the value of a hexadecimal digit, in upper or in lower case
abbrev pub hex_value : ℕ → ℕ
hex_value c = if nat_lt c 58 then c - 48 else (if nat_lt c 97 then c - 55 else c - 87)

-- what hexadecimal digits write
unfoldable pub read_hex : List ℕ → ℕ
read_hex digits = fold (λ n c. 16 * n + hex_value c) 0 digits

-- a whole number, with a minus sign before a negative one
abbrev pub read_signed : List ℕ → ℤ
read_signed [] = pos 0
read_signed (c ∷ cs) = if c == 45 then neg_ℤ (pos (read_number cs)) else pos (read_number (c ∷ cs))

-- a number with or without decimals, in units of the last one: it is read without its point
abbrev pub read_units : List ℕ → ℤ
read_units text = read_signed (filter (λ c. not (c == 46)) text)

-- by the first byte: H and the heading, a slash, T or I and the airspeed; G and the speed, a slash, and the track or a dash; else
-- the speeds to the east and to the north with a slash between them (71 is G, 72 is H, 84 is T)
abbrev pub read_velocity : List ℕ → ShownVelocity
read_velocity [] = OverGround (pos 0) (pos 0)
read_velocity (c ∷ cs) =
    if c == 72 then InAir (read_number (before_slash cs)) (starts_with 84 (after_slash cs)) (read_number (drop 1 (after_slash cs)))
    else if c == 71 then OnGround (read_number (before_slash cs)) (read_field read_number (after_slash cs))
    else OverGround (read_signed (before_slash (c ∷ cs))) (read_signed (after_slash (c ∷ cs)))

-- ---- lines

-- the text of a column with spaces before it
abbrev pub right_column : ℕ → ℕ → List ℕ → List ℕ
right_column first last line = after_spaces (column first last line)

-- an altitude, unless the text begins with g, as that of an aircraft on the ground
abbrev pub read_altitude : List ℕ → Option ℤ
read_altitude text = if starts_with 103 text then None else read_field read_signed text

abbrev pub read_row : List ℕ → ShownRow
read_row line = record {
  address = read_hex (column 1 6 line);
  callsign = read_field (λ text. text) (without_end_spaces (column 8 15 line));
  on_ground = starts_with 103 (right_column 17 22 line);
  altitude = read_altitude (right_column 17 22 line);
  squawk = read_field read_octal (right_column 24 27 line);
  velocity = read_field read_velocity (right_column 29 40 line);
  vertical = read_field read_signed (right_column 42 47 line);
  latitude = read_field read_units (right_column 49 58 line);
  longitude = read_field read_units (right_column 60 69 line);
  age = read_number (right_column 71 73 line);
}

-- ---- whole tables

-- what comes after the first line
abbrev pub after_line : List ℕ → List ℕ
after_line [] = []
after_line (c ∷ cs) = if c == 10 then cs else after_line cs

-- the text in at most n lines of 74 bytes each
abbrev pub row_lines : ℕ → List ℕ → List (List ℕ)
row_lines zero text = []
row_lines (suc n) [] = []
row_lines (suc n) (c ∷ cs) = take 74 (c ∷ cs) ∷ row_lines n (drop 74 (c ∷ cs))

-- the rows of a table, which begin after its first two lines
abbrev pub read_table : List ℕ → List ShownRow
read_table text = map read_row (row_lines (length text) (after_line (after_line text)))
