-- The place that is sent for a point.
use Rattle.std.specs.Prelude.{ℕ, ◌*◌, ℤ, pos, ◌+ℤ◌, ◌*ℤ◌, unsigned_abs, Bool}
use Rattle.modes_cpr.specs.declared.points.Degrees.{Degrees}
use Rattle.modes_fields.specs.declared.place.Place.{Place}
use Rattle.modes_cpr.specs.Floor.{floor, modulo}
use Rattle.modes_cpr.specs.Zones.{zone_count}
use Rattle.modes_cpr.specs.Pair.{bins, latitude_zones, longitude_zones, angle}

-- floor(a/D) with D = 360/z: the zone of a
unfoldable pub zone_of : ℕ → Degrees → ℤ
zone_of z a = floor (a.num *ℤ pos z) (360 * a.den)

-- floor(2^17 mod(a, D)/D + 1/2) with D = 360/z: the nearest bin, from 0 to 2^17
unfoldable pub bin_of : ℕ → Degrees → ℤ
bin_of z a = floor (pos (2 * bins) *ℤ modulo (a.num *ℤ pos z) (360 * a.den) +ℤ pos (360 * a.den)) (2 * (360 * a.den))

-- mod(y, 2^17)
abbrev pub sent_bin : ℤ → ℕ
sent_bin y = unsigned_abs (modulo y bins)

-- the latitude of the nearest bin
abbrev pub rounded_latitude : Bool → Degrees → Degrees
rounded_latitude odd lat = angle (latitude_zones odd) (zone_of (latitude_zones odd) lat) (bin_of (latitude_zones odd) lat)

-- the place, where nl gives the number of longitude zones at a latitude
unfoldable pub place_by : (ℤ → ℕ → ℕ) → Degrees → Degrees → Bool → Place
place_by nl lat lon odd =
    let r = rounded_latitude odd lat in
    record {
      odd = odd;
      lat = sent_bin (bin_of (latitude_zones odd) lat);
      lon = sent_bin (bin_of (longitude_zones (nl r.num r.den) odd) lon);
    }

-- the place, with the table's number of zones
abbrev pub place_at : Degrees → Degrees → Bool → Place
place_at = place_by zone_count
