-- The ranges of positions.
use Rattle.std.proofs.Common.{◌≡◌, ℕ, ◌*◌, ◌<◌, ◌==◌, ◌&&◌, Bool, true, false, if◌then◌else◌, List, Option, Some, None, IfSome, ℤ, pos, ◌+ℤ◌, ◌-ℤ◌, ◌*ℤ◌, ◌≤ℤ◌, ◌<ℤ◌, int_le, unsigned_abs, leb-true, refl, arith}
use Rattle.std.proofs.lemmas.Int.{ints}
use Rattle.modes_fields.specs.declared.place.Place.{Place}
use Rattle.modes_fields.specs.Places.{place_in}
use Rattle.modes_cpr.specs.declared.points.Degrees.{Degrees}
use Rattle.modes_cpr.specs.declared.points.Position.{Position}
use Rattle.modes_cpr.specs.declared.points.Reference.{Reference}
use Rattle.modes_cpr.proofs.Common.{bins, modulo, angle, decoded_angle, is_latitude, longitude_zones, zone_index, position_by, position_of, zone_count}
use Rattle.modes_cpr.proofs.SurfaceCommon.{decoded_near, surface_position_by, surface_position_of, without_turns, reference_point}
use Rattle.modes_cpr.proofs.FloorLemmas.{floor_is}
use Rattle.modes_cpr.proofs.PositionLemmas.{decoded_whole}
use Rattle.modes_cpr.proofs.SurfacePositionLemmas.{near_whole}
use Rattle.modes_cpr.proofs.BinLemmas.{some_zone}
use Rattle.table_laws.specs.Ranges.{IsWithin, IsOnEarth}
use Rattle.table_laws.proofs.FieldLemmas.{field-lt}

pub record IsSmallPlace (place : Place) : Type 0 where
  pub lat : place.lat < bins
  pub lon : place.lon < bins

pub place_range : (me : List Bool) → IsSmallPlace (place_in me)
unfolding place_in
place_range me = record { lat = field-lt 23 39 me; lon = field-lt 40 56 me }

-- ---- angles

pub record IsRest (b : ℕ) (rest : ℤ) : Type 0 where
  pub least : pos 0 ≤ℤ rest
  pub most : rest <ℤ pos b

modulo_range : (a : ℤ) (b : ℕ) → 0 < b → IsRest b (modulo a b)
modulo_range a b some = let f = floor_is a b some in record { least = omega (arith, ints, f.low, f.high); most = omega (arith, ints, f.low, f.high) }

-- an angle of a grid, less a turn where it is 180 degrees or more
wrapped_by : (z y : ℕ) (m : ℤ) (t : Bool) → 0 < z → y < bins → IsRest z m
    → int_le (pos (180 * (z * bins))) (pos 360 *ℤ (m *ℤ pos bins +ℤ pos y)) ≡ t
    → IsWithin 180 (let f : Degrees = if t then record { num = pos 360 *ℤ (m *ℤ pos bins +ℤ pos y) -ℤ pos (360 * (z * bins)); den = z * bins } else record { num = pos 360 *ℤ (m *ℤ pos bins +ℤ pos y); den = z * bins } in f)
wrapped_by z y m true some small rest e =
    let low = rest.least in
    let high = rest.most in
    record { whole = omega arith; range = grind (arith, ints) }
wrapped_by z y m false some small rest e =
    let low = rest.least in
    let high = rest.most in
    record { whole = omega arith; range = grind (arith, ints) }

longitude_within : (z y : ℕ) (j : ℤ) → 0 < z → y < bins → IsWithin 180 (decoded_angle 180 z j y)
unfolding decoded_angle
longitude_within z y j some small = wrapped_by z y (modulo j z) (int_le (pos (180 * (z * bins))) (angle z (modulo j z) (pos y)).num) some small (modulo_range j z some) refl

without_turns_within : (a : Degrees) → 0 < a.den → IsWithin 180 (without_turns a)
unfolding without_turns
without_turns_within a some =
    let r = modulo_range (a.num +ℤ pos (180 * a.den)) (2 * (180 * a.den)) (omega arith) in
    let low = r.least in
    let high = r.most in
    record { whole = some; range = omega (arith, ints) }

-- ---- positions

chosen_within : (b : Bool) (u v : Degrees) → IsWithin 90 u → IsWithin 90 v → IsWithin 90 (if b then v else u)
chosen_within true u v p q = q
chosen_within false u v p q = p

latitude_within : (a : Degrees) → 0 < a.den → is_latitude a ≡ true → IsWithin 90 a
latitude_within a some e = record { whole = some; range = leb-true (unsigned_abs a.num) (90 * a.den) e }

-- a position of two latitudes that passed their tests
passed : (t0 t1 t2 newest_odd : Bool) (lat0 lat1 lon : Degrees) → (t0 ≡ true → IsWithin 90 lat0) → (t1 ≡ true → IsWithin 90 lat1) → IsWithin 180 lon
    → IfSome (let o : Option Position = if t0 && t1 && t2 then Some (record { lat = if newest_odd then lat1 else lat0; lon = lon }) else None in o) IsOnEarth
passed true true true newest_odd lat0 lat1 lon p q r = record { lat = chosen_within newest_odd lat0 lat1 (p refl) (q refl); lon = r }
passed true true false newest_odd lat0 lat1 lon p q r = tt
passed true false t2 newest_odd lat0 lat1 lon p q r = tt
passed false t1 t2 newest_odd lat0 lat1 lon p q r = tt

chosen_bin : (newest_odd : Bool) (even odd : Place) → IsSmallPlace even → IsSmallPlace odd → (if newest_odd then odd.lon else even.lon) < bins
chosen_bin true even odd p q = q.lon
chosen_bin false even odd p q = p.lon

pub position_range : (even odd : Place) (newest_odd : Bool) → IsSmallPlace even → IsSmallPlace odd → IfSome (position_of even odd newest_odd) IsOnEarth
unfolding position_by
position_range even odd newest_odd p q =
    let j = zone_index 60 even.lat odd.lat in
    let lat0 = decoded_angle 270 60 j even.lat in
    let lat1 = decoded_angle 270 59 j odd.lat in
    let n = zone_count lat0.num lat0.den in
    let m = zone_index n even.lon odd.lon in
    let x = if newest_odd then odd.lon else even.lon in
    passed (is_latitude lat0) (is_latitude lat1) (n == zone_count lat1.num lat1.den) newest_odd lat0 lat1 (decoded_angle 180 (longitude_zones n newest_odd) m x)
    (latitude_within lat0 (decoded_whole 270 60 even.lat j (omega arith))) (latitude_within lat1 (decoded_whole 270 59 odd.lat j (omega arith)))
    (longitude_within (longitude_zones n newest_odd) x m (some_zone n newest_odd) (chosen_bin newest_odd even odd p q))

pub surface_position_range : (r : Reference) (even odd : Place) (newest_odd : Bool) → IfSome (surface_position_of r even odd newest_odd) IsOnEarth
unfolding surface_position_by
surface_position_range r even odd newest_odd =
    let near = reference_point r in
    let j = zone_index 60 even.lat odd.lat in
    let lat0 = decoded_near near.lat 60 j even.lat in
    let lat1 = decoded_near near.lat 59 j odd.lat in
    let n = zone_count lat0.num lat0.den in
    let m = zone_index n even.lon odd.lon in
    let x = if newest_odd then odd.lon else even.lon in
    let lon = decoded_near near.lon (longitude_zones n newest_odd) m x in
    passed (is_latitude lat0) (is_latitude lat1) (n == zone_count lat1.num lat1.den) newest_odd lat0 lat1 (without_turns lon)
    (latitude_within lat0 (near_whole near.lat 60 even.lat j (omega arith))) (latitude_within lat1 (near_whole near.lat 59 odd.lat j (omega arith)))
    (without_turns_within lon (near_whole near.lon (longitude_zones n newest_odd) x m (some_zone n newest_odd)))
