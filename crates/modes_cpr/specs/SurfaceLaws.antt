-- Laws of the surface places and positions.
-- NL is any number that depends on the latitude, from 1 to 59: no law uses the table.
use Rattle.std.specs.Prelude.{ℕ, ◌-◌, ◌*◌, ◌<◌, ◌≤◌, ◌^◌, ◌≡◌, ℤ, pos, ◌+ℤ◌, ◌-ℤ◌, ◌*ℤ◌, unsigned_abs, Bool, true, false, if◌then◌else◌, Some, IsSomeAnd}
use Rattle.modes_fields.specs.declared.place.Place.{Place}
use Rattle.modes_fields.specs.Places.{IsPlace}
use Rattle.modes_cpr.specs.declared.points.Degrees.{Degrees}
use Rattle.modes_cpr.specs.declared.points.Position.{Position}
use Rattle.modes_cpr.specs.Pair.{latitude_zones, longitude_zones}
use Rattle.modes_cpr.specs.Surface.{surface_position_by, surface_place_by, rounded_surface_latitude}

-- a is at most D/2^18 from b, with D = 90/z: half a bin of a surface place
abbrev pub IsWithinHalfSurfaceBin : ℕ → Degrees → Degrees → Type 0
IsWithinHalfSurfaceBin z a b = 2 ^ 18 * z * unsigned_abs (a.num *ℤ pos b.den -ℤ b.num *ℤ pos a.den) ≤ 90 * (a.den * b.den)

-- the same up to whole turns
abbrev pub IsWithinHalfSurfaceBinRound : ℕ → Degrees → Degrees → Type 0
IsWithinHalfSurfaceBinRound z a b = (turns : ℤ) × IsWithinHalfSurfaceBin z a (record { num = b.num +ℤ pos (360 * b.den) *ℤ turns; den = b.den })

-- a is at most 44 degrees from b
abbrev pub IsWithin44 : Degrees → Degrees → Type 0
IsWithin44 a b = unsigned_abs (a.num *ℤ pos b.den -ℤ b.num *ℤ pos a.den) ≤ 44 * (a.den * b.den)

-- the same up to whole turns
abbrev pub IsWithin44Round : Degrees → Degrees → Type 0
IsWithin44Round a b = (turns : ℤ) × IsWithin44 (record { num = a.num +ℤ pos (360 * a.den) *ℤ turns; den = a.den }) b

-- the position of a pair of surface places is encoded as the newest of them, whatever the reference is
abbrev pub SurfaceRoundTrip : (ℤ → ℕ → ℕ) → Type 0
SurfaceRoundTrip nl = (reference : Position) (even odd : Place) (newest_odd : Bool) (p : Position) → IsPlace false even → IsPlace true odd
    → surface_position_by nl reference even odd newest_odd ≡ Some p
    → surface_place_by nl p.lat p.lon newest_odd ≡ (if newest_odd then odd else even)

-- NL at the rounded latitude of a surface grid
abbrev pub surface_zones_at : (ℤ → ℕ → ℕ) → Degrees → Bool → ℕ
surface_zones_at nl lat odd = let r = rounded_surface_latitude odd lat in nl r.num r.den

-- the two surface places of a point give a position near the point, where the reference is at most 44 degrees from the point
-- in latitude and in longitude, and the rounded latitudes have the same number of longitude zones
abbrev pub SurfaceNear : (ℤ → ℕ → ℕ) → Type 0
SurfaceNear nl = (reference : Position) (lat lon : Degrees) (newest_odd : Bool) → 0 < reference.lat.den → 0 < reference.lon.den → 0 < lat.den → 0 < lon.den
    → unsigned_abs lat.num ≤ 90 * lat.den → IsWithin44 lat reference.lat → IsWithin44Round lon reference.lon
    → surface_zones_at nl lat false ≡ surface_zones_at nl lat true
    → IsSomeAnd (surface_position_by nl reference (surface_place_by nl lat lon false) (surface_place_by nl lat lon true) newest_odd)
    (λ p. IsWithinHalfSurfaceBin (latitude_zones newest_odd) p.lat lat
    × IsWithinHalfSurfaceBinRound (longitude_zones (surface_zones_at nl lat newest_odd) newest_odd) p.lon lon)

-- n times the distance of a and b is at most 44 degrees
abbrev pub IsNear : ℕ → Degrees → Degrees → Type 0
IsNear n a b = n * unsigned_abs (a.num *ℤ pos b.den -ℤ b.num *ℤ pos a.den) ≤ 44 * (a.den * b.den)

-- a latitude at most 44 degrees from that of a reference
pub record IsLatitudeBy (reference lat : Degrees) : Type 0 where
  pub whole : 0 < lat.den
  pub range : unsigned_abs lat.num ≤ 90 * lat.den
  pub near : IsWithin44 lat reference

-- a longitude at most 44 degrees from that of a reference, round the circle
pub record IsLongitudeBy (reference lon : Degrees) : Type 0 where
  pub whole : 0 < lon.den
  pub near : IsWithin44Round lon reference

-- the even place of one point and the odd place of another give a position near the point of the newest place, where the
-- points are as near to one another as an aircraft on the ground stays between two places, and the rounded latitudes have
-- the same number of longitude zones
abbrev pub SurfaceMoving : (ℤ → ℕ → ℕ) → Type 0
SurfaceMoving nl = (reference : Position) (lat lon : Bool → Degrees) (newest_odd : Bool) → 0 < reference.lat.den → 0 < reference.lon.den
    → ((b : Bool) → IsLatitudeBy reference.lat (lat b)) → ((b : Bool) → IsLongitudeBy reference.lon (lon b))
    → IsNear (60 * 59) (lat false) (lat true)
    → surface_zones_at nl (lat false) false ≡ surface_zones_at nl (lat true) true
    → IsNear (surface_zones_at nl (lat false) false * (surface_zones_at nl (lat false) false - 1)) (lon false) (lon true)
    → IsSomeAnd (surface_position_by nl reference (surface_place_by nl (lat false) (lon false) false) (surface_place_by nl (lat true) (lon true) true) newest_odd)
    (λ p. IsWithinHalfSurfaceBin (latitude_zones newest_odd) p.lat (lat newest_odd)
    × IsWithinHalfSurfaceBinRound (longitude_zones (surface_zones_at nl (lat newest_odd) newest_odd) newest_odd) p.lon (lon newest_odd))
