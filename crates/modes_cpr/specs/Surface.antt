-- The position of an even and an odd surface place together, and the surface place of a point (Doc 9871 C.2.6,
-- DO-260B A.1.7). The grids are those of airborne places over a quarter of the circle: 90 degrees have 60 or 59 latitude
-- zones. So a pair of places has several points, 90 degrees apart, and the nearest to a reference is its position. The
-- standards take the nearer of two latitudes however far it is; here one that is beyond a pole gives no position.
use Rattle.std.specs.Prelude.{ℕ, ◌*◌, ℤ, pos, ◌+ℤ◌, ◌-ℤ◌, ◌*ℤ◌, ◌==◌, Bool, ◌&&◌, if◌then◌else◌, Option, Some, None}
use Rattle.modes_fields.specs.declared.place.Place.{Place}
use Rattle.modes_cpr.specs.declared.points.Degrees.{Degrees}
use Rattle.modes_cpr.specs.declared.points.Position.{Position}
use Rattle.modes_cpr.specs.declared.points.Reference.{Reference}
use Rattle.modes_cpr.specs.Floor.{floor, modulo}
use Rattle.modes_cpr.specs.Zones.{zone_count}
use Rattle.modes_cpr.specs.Pair.{bins, latitude_zones, longitude_zones, zone_index, is_latitude}
use Rattle.modes_cpr.specs.Encoding.{zone_of, sent_bin}

-- ---- from a pair of places to a position

-- (90/z)(j + y/2^17)
abbrev pub surface_angle : ℕ → ℤ → ℤ → Degrees
surface_angle z j y = record { num = pos 90 *ℤ (j *ℤ pos bins +ℤ y); den = z * bins }

-- floor((r - a)/90 + 1/2): the quarters of a turn that bring a nearest to r, and of two angles that are as near to the
-- greater one. So the angle is above r - 45 and at most r + 45.
unfoldable pub quarters_to : Degrees → Degrees → ℤ
quarters_to r a = floor (r.num *ℤ pos a.den -ℤ a.num *ℤ pos r.den +ℤ pos (45 * (a.den * r.den))) (90 * (a.den * r.den))

-- a with these quarters
abbrev pub nearest_to : Degrees → Degrees → Degrees
nearest_to r a = record { num = a.num +ℤ pos (90 * a.den) *ℤ quarters_to r a; den = a.den }

-- the angle of bin y in zone mod(j, z), or quarters of a turn from it: the nearest to r
unfoldable pub decoded_near : Degrees → ℕ → ℤ → ℕ → Degrees
decoded_near r z j y = nearest_to r (surface_angle z (modulo j z) (pos y))

-- mod(a + 180, 360) - 180: a less whole turns, from -180 to below 180
unfoldable pub without_turns : Degrees → Degrees
without_turns a = record { num = modulo (a.num +ℤ pos (180 * a.den)) (2 * (180 * a.den)) -ℤ pos (180 * a.den); den = a.den }

-- the position nearest to a reference, where nl gives the number of longitude zones at a latitude
unfoldable pub surface_position_by : (ℤ → ℕ → ℕ) → Position → Place → Place → Bool → Option Position
surface_position_by nl reference even odd newest_odd =
    -- the latitude of each place
    let j = zone_index 60 even.lat odd.lat in
    let lat0 = decoded_near reference.lat 60 j even.lat in
    let lat1 = decoded_near reference.lat 59 j odd.lat in
    -- the longitude of the newest place, in a grid of n zones at its latitude
    let n = nl lat0.num lat0.den in
    let m = zone_index n even.lon odd.lon in
    let lat = if newest_odd then lat1 else lat0 in
    let x = if newest_odd then odd.lon else even.lon in
    if is_latitude lat0 && is_latitude lat1 && (n == nl lat1.num lat1.den) then Some (record { lat = lat; lon = without_turns (decoded_near reference.lon (longitude_zones n newest_odd) m x) })
    else None

-- a coordinate of a reference, which is in 1/10,000,000 degree
abbrev pub reference_angle : ℤ → Degrees
reference_angle r = record { num = r; den = 10000000 }

abbrev pub reference_point : Reference → Position
reference_point r = record { lat = reference_angle r.lat; lon = reference_angle r.lon }

-- the position, with the table's number of zones
abbrev pub surface_position_of : Reference → Place → Place → Bool → Option Position
surface_position_of r = surface_position_by zone_count (reference_point r)

-- ---- from a point to its places

-- 2^19, the bins of a zone of 360/z degrees: 2^17 in each quarter of it
abbrev pub fine_bins : ℕ
fine_bins = 524288

-- floor(2^19 mod(a, D)/D + 1/2) with D = 360/z: the nearest bin, from 0 to 2^19
unfoldable pub fine_bin_of : ℕ → Degrees → ℤ
fine_bin_of z a = floor (pos (2 * fine_bins) *ℤ modulo (a.num *ℤ pos z) (360 * a.den) +ℤ pos (360 * a.den)) (2 * (360 * a.den))

-- (360/z)(k + y/2^19) in zone k: the latitude of the nearest bin
abbrev pub rounded_surface_latitude : Bool → Degrees → Degrees
rounded_surface_latitude odd lat = surface_angle (latitude_zones odd) (pos 4 *ℤ zone_of (latitude_zones odd) lat) (fine_bin_of (latitude_zones odd) lat)

-- the place, where nl gives the number of longitude zones at a latitude; of each bin the low 17 bits are sent
unfoldable pub surface_place_by : (ℤ → ℕ → ℕ) → Degrees → Degrees → Bool → Place
surface_place_by nl lat lon odd =
    let r = rounded_surface_latitude odd lat in
    record {
      odd = odd;
      lat = sent_bin (fine_bin_of (latitude_zones odd) lat);
      lon = sent_bin (fine_bin_of (longitude_zones (nl r.num r.den) odd) lon);
    }

-- the place, with the table's number of zones
abbrev pub surface_place_at : Degrees → Degrees → Bool → Place
surface_place_at = surface_place_by zone_count
