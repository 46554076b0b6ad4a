-- Laws of encoding and pairing.
-- NL is any number that depends on the latitude, from 1 to 59: no law uses the table.
use Rattle.std.specs.Prelude.{ℕ, ◌+◌, ◌-◌, ◌*◌, ◌<◌, ◌≤◌, ◌^◌, ◌≡◌, ℤ, pos, ◌+ℤ◌, ◌-ℤ◌, ◌*ℤ◌, unsigned_abs, Bool, true, false, if◌then◌else◌, Some, IsSomeAnd}
use Rattle.modes_fields.specs.declared.place.Place.{Place}
use Rattle.modes_fields.specs.Places.{IsPlace}
use Rattle.modes_cpr.specs.declared.points.Degrees.{Degrees}
use Rattle.modes_cpr.specs.declared.points.Position.{Position}
use Rattle.modes_cpr.specs.Pair.{bins, latitude_zones, longitude_zones, position_by}
use Rattle.modes_cpr.specs.Encoding.{place_by, rounded_latitude}

-- nl gives a number of longitude zones at every latitude
pub record IsZoneCount (nl : ℤ → ℕ → ℕ) : Type 0 where
  pub least : (num : ℤ) (den : ℕ) → 1 ≤ nl num den
  pub most : (num : ℤ) (den : ℕ) → nl num den ≤ 59

-- nl depends on |num/den| alone
pub record IsDecidedByLatitude (nl : ℤ → ℕ → ℕ) : Type 0 where
  pub decided : (a b : Degrees) → 0 < a.den → 0 < b.den → unsigned_abs a.num * b.den ≡ unsigned_abs b.num * a.den → nl a.num a.den ≡ nl b.num b.den

-- a is at most D/2^18 from b, with D = 360/z: half a bin
abbrev pub IsWithinHalfBin : ℕ → Degrees → Degrees → Type 0
IsWithinHalfBin z a b = 2 ^ 18 * z * unsigned_abs (a.num *ℤ pos b.den -ℤ b.num *ℤ pos a.den) ≤ 360 * (a.den * b.den)

-- the same up to whole turns
abbrev pub IsWithinHalfBinRound : ℕ → Degrees → Degrees → Type 0
IsWithinHalfBinRound z a b = (turns : ℤ) × IsWithinHalfBin z a (record { num = b.num +ℤ pos (360 * b.den) *ℤ turns; den = b.den })

-- the position of a pair of places is encoded as the newest of them
abbrev pub RoundTrip : (ℤ → ℕ → ℕ) → Type 0
RoundTrip nl = (even odd : Place) (newest_odd : Bool) (p : Position) → IsPlace false even → IsPlace true odd
    → position_by nl even odd newest_odd ≡ Some p
    → place_by nl p.lat p.lon newest_odd ≡ (if newest_odd then odd else even)

-- NL at the rounded latitude of a grid
abbrev pub zones_at : (ℤ → ℕ → ℕ) → Degrees → Bool → ℕ
zones_at nl lat odd = let r = rounded_latitude odd lat in nl r.num r.den

-- the two places of a point give a position near the point, where the rounded latitudes have the same number of longitude
-- zones
abbrev pub Near : (ℤ → ℕ → ℕ) → Type 0
Near nl = (lat lon : Degrees) (newest_odd : Bool) → 0 < lat.den → 0 < lon.den → unsigned_abs lat.num ≤ 90 * lat.den
    → zones_at nl lat false ≡ zones_at nl lat true
    → IsSomeAnd (position_by nl (place_by nl lat lon false) (place_by nl lat lon true) newest_odd)
    (λ p. IsWithinHalfBin (latitude_zones newest_odd) p.lat lat
    × IsWithinHalfBinRound (longitude_zones (zones_at nl lat newest_odd) newest_odd) p.lon lon)

-- a and b, in a grid of n zones and in one of n - 1, are so near that the index of their zones is found: they are at most
-- half as far apart as the zones of the two grids differ, 180/(n (n - 1)) degrees, less half a bin of each grid
abbrev pub IsPairable : ℕ → Degrees → Degrees → Type 0
IsPairable n a b = bins * (n * (n - 1) * unsigned_abs (a.num *ℤ pos b.den -ℤ b.num *ℤ pos a.den)) ≤ 180 * (bins - (n + (n - 1))) * (a.den * b.den)

-- the same up to whole turns
abbrev pub IsPairableRound : ℕ → Degrees → Degrees → Type 0
IsPairableRound n a b = (turns : ℤ) × IsPairable n (record { num = a.num +ℤ pos (360 * a.den) *ℤ turns; den = a.den }) b

-- from -90 to 90 degrees
pub record IsLatitude (lat : Degrees) : Type 0 where
  pub whole : 0 < lat.den
  pub range : unsigned_abs lat.num ≤ 90 * lat.den

-- the even place of one point and the odd place of another give a position near the point of the newest place, where the
-- points are as near to one another as an aircraft in flight stays between two places, and the rounded latitudes have the
-- same number of longitude zones
abbrev pub Moving : (ℤ → ℕ → ℕ) → Type 0
Moving nl = (lat lon : Bool → Degrees) (newest_odd : Bool) → ((b : Bool) → IsLatitude (lat b)) → ((b : Bool) → 0 < (lon b).den)
    → IsPairable 60 (lat false) (lat true)
    → zones_at nl (lat false) false ≡ zones_at nl (lat true) true
    → IsPairableRound (zones_at nl (lat false) false) (lon false) (lon true)
    → IsSomeAnd (position_by nl (place_by nl (lat false) (lon false) false) (place_by nl (lat true) (lon true) true) newest_odd)
    (λ p. IsWithinHalfBin (latitude_zones newest_odd) p.lat (lat newest_odd)
    × IsWithinHalfBinRound (longitude_zones (zones_at nl (lat newest_odd) newest_odd) newest_odd) p.lon (lon newest_odd))
