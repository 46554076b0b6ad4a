-- The position of an even and an odd place together.
-- In each grid the circle of 360 degrees has a number of zones, and each zone has 2^17 bins.
use Rattle.std.specs.Prelude.{ℕ, ◌-◌, ◌*◌, ◌<◌, max, ℤ, pos, ◌+ℤ◌, ◌-ℤ◌, ◌*ℤ◌, int_le, unsigned_abs, nat_le, ◌==◌, Bool, ◌&&◌, if◌then◌else◌, Option, Some, None}
use Rattle.modes_fields.specs.declared.place.Place.{Place}
use Rattle.modes_cpr.specs.declared.points.Degrees.{Degrees}
use Rattle.modes_cpr.specs.declared.points.Position.{Position}
use Rattle.modes_cpr.specs.Floor.{floor, modulo}
use Rattle.modes_cpr.specs.Zones.{zone_count}

-- 2^17, the bins of a zone
abbrev pub bins : ℕ
bins = 131072

-- the latitude zones of the odd and the even grid (Doc 9871 C.2.6)
abbrev pub latitude_zones : Bool → ℕ
latitude_zones odd = if odd then 59 else 60

-- the longitude zones of a grid, where NL is nl
abbrev pub longitude_zones : ℕ → Bool → ℕ
longitude_zones nl odd = max (if odd then nl - 1 else nl) 1

-- floor((y0 (n - 1) - y1 n)/2^17 + 1/2): the latitude index at n = 60, the longitude index at n = NL
unfoldable pub zone_index : ℕ → ℕ → ℕ → ℤ
zone_index n y0 y1 = floor (pos (y0 * (n - 1)) -ℤ pos (y1 * n) +ℤ pos 65536) bins

-- (360/z)(j + y/2^17)
abbrev pub angle : ℕ → ℤ → ℤ → Degrees
angle z j y = record { num = pos 360 *ℤ (j *ℤ pos bins +ℤ y); den = z * bins }

-- a, less 360 where it is `limit` or more
abbrev pub wrapped_angle : ℕ → Degrees → Degrees
wrapped_angle limit a = if int_le (pos (limit * a.den)) a.num then record { num = a.num -ℤ pos (360 * a.den); den = a.den } else a

-- the angle of bin y in zone mod(j, z)
unfoldable pub decoded_angle : ℕ → ℕ → ℤ → ℕ → Degrees
decoded_angle limit z j y = wrapped_angle limit (angle z (modulo j z) (pos y))

-- neither below -90 nor above 90
abbrev pub is_latitude : Degrees → Bool
is_latitude a = nat_le (unsigned_abs a.num) (90 * a.den)

-- the position, where nl gives the number of longitude zones at a latitude
unfoldable pub position_by : (ℤ → ℕ → ℕ) → Place → Place → Bool → Option Position
position_by nl even odd newest_odd =
    -- the latitude of each place
    let j = zone_index 60 even.lat odd.lat in
    let lat0 = decoded_angle 270 60 j even.lat in
    let lat1 = decoded_angle 270 59 j odd.lat in
    -- the longitude of the newest place, in a grid of n zones at its latitude
    let n = nl lat0.num lat0.den in
    let m = zone_index n even.lon odd.lon in
    let lat = if newest_odd then lat1 else lat0 in
    let x = if newest_odd then odd.lon else even.lon in
    if is_latitude lat0 && is_latitude lat1 && (n == nl lat1.num lat1.den) then Some (record { lat = lat; lon = decoded_angle 180 (longitude_zones n newest_odd) m x })
    else None

-- the position, with the table's number of zones
abbrev pub position_of : Place → Place → Bool → Option Position
position_of = position_by zone_count

-- both denominators are at least 1
pub record IsWhole (p : Position) : Type 0 where
  pub lat : 0 < p.lat.den
  pub lon : 0 < p.lon.den
