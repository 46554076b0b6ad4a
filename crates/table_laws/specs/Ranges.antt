-- The ranges of the fields in the table of a legal journal.
use Rattle.std.specs.Prelude.{◌≡◌, ℕ, ◌-◌, ◌*◌, ◌<◌, ◌≤◌, ◌^◌, ◌==◌, ◌&&◌, ◌||◌, nat_le, Bool, true, ℤ, pos, ◌-ℤ◌, ◌≤ℤ◌, unsigned_abs, List, length, IfSome}
use Rattle.std.specs.List.{AllByRecursion}
use Rattle.modes_fields.specs.Characters.{without_end_spaces}
use Rattle.modes_fields.specs.declared.category.Category.{Category}
use Rattle.modes_fields.specs.declared.velocity.Velocity.{Velocity}
use Rattle.modes_fields.specs.declared.velocity.Velocity.TheVariants.{Ground, Air, Surface}
use Rattle.modes_cpr.specs.declared.points.Degrees.{Degrees}
use Rattle.modes_cpr.specs.declared.points.Position.{Position}
use Rattle.station_journal.specs.declared.aircraft.Aircraft.{Aircraft}

-- a letter from A to Z, a space, or a digit
abbrev pub is_character : ℕ → Bool
is_character c = (nat_le 65 c && nat_le c 90) || (c == 32 || (nat_le 48 c && nat_le c 57))

-- 1 to 8 characters, the last of which isn't a space
pub record IsCallsign (text : List ℕ) : Type 0 where
  pub some : 1 ≤ length text
  pub most : length text ≤ 8
  pub characters : AllByRecursion (λ c. is_character c ≡ true) text
  pub trimmed : without_end_spaces text ≡ text

-- a letter and a digit from 1 to 7
pub record IsCategory (category : Category) : Type 0 where
  pub least : 1 ≤ category.number
  pub most : category.number ≤ 7

-- in feet
pub record IsAltitude (feet : ℤ) : Type 0 where
  pub least : (pos 0 -ℤ pos 1200) ≤ℤ feet
  pub most : feet ≤ℤ pos 126700

-- in feet per minute
abbrev pub IsRate : ℤ → Type 0
IsRate feet = unsigned_abs feet ≤ 32640

-- knots to the east and to the north; or the heading in 1/1024 of a turn and knots; or, on the ground, eighths of a knot and
-- the track in 1/128 of a turn
abbrev pub IsVelocity : Velocity → Type 0
IsVelocity (Ground east north) = (unsigned_abs east ≤ 4088) × (unsigned_abs north ≤ 4088)
IsVelocity (Air heading is_true speed) = (heading < 1024) × (speed ≤ 4088)
IsVelocity (Surface speed track) = (speed ≤ 1400) × IfSome track (λ k. k < 128)

-- from -limit to limit degrees
pub record IsWithin (limit : ℕ) (angle : Degrees) : Type 0 where
  pub whole : 0 < angle.den
  pub range : unsigned_abs angle.num ≤ limit * angle.den

pub record IsOnEarth (position : Position) : Type 0 where
  pub lat : IsWithin 90 position.lat
  pub lon : IsWithin 180 position.lon

-- each field of a row at the time now is in its range
pub record IsInRange (now : ℕ) (row : Aircraft) : Type 0 where
  pub address : row.address < 2 ^ 24
  pub callsign : IfSome row.callsign IsCallsign
  pub category : IfSome row.category IsCategory
  pub altitude : IfSome row.altitude IsAltitude
  pub squawk : IfSome row.squawk (λ code. code < 4096)
  pub velocity : IfSome row.velocity IsVelocity
  pub vertical : IfSome row.vertical IsRate
  pub position : IfSome row.position IsOnEarth
  pub heard : row.heard ≤ now
  pub recent : now - row.heard ≤ 60000
