-- The position of a pair of places is encoded as the newest of them.
use Rattle.std.proofs.Common.{◌≡◌, ℕ, ◌<◌, ℤ, pos, ap, ◌∙◌, refl, sym, subst, Bool, true, false, Some, None, ◌==◌, ◌&&◌, if◌then◌else◌}
use Rattle.std.proofs.lemmas.Bool.{eqb-true, and_parts}
use Rattle.modes_fields.specs.declared.place.Place.{Place}
use Rattle.modes_cpr.proofs.Common.{Degrees, Position, bins, latitude_zones, longitude_zones, angle, decoded_angle, zone_index, is_latitude, position_by, zone_of, bin_of, sent_bin, place_by, RoundTrip}
use Rattle.modes_cpr.proofs.BinLemmas.{some_band, some_zone}
use Rattle.modes_cpr.proofs.PairLemmas.{made, outcome}
use Rattle.modes_cpr.proofs.AngleLemmas.{zone_of-angle, bin_of-angle, sent_bin-small, decoded_angle-angle}

-- the angle of bin y in one of z zones
record IsAngle (z y : ℕ) (a : Degrees) : Type 0 where
  zone : ℤ
  is : a ≡ angle z zone (pos y)

sent_again : (z y : ℕ) (a : Degrees) → 0 < z → y < bins → IsAngle z y a → sent_bin (bin_of z a) ≡ y
sent_again z y a some small h = ap (λ v. sent_bin (bin_of z v)) h.is ∙ ap sent_bin (bin_of-angle z y h.zone some small) ∙ sent_bin-small y small

rounded_again : (z y : ℕ) (a : Degrees) → 0 < z → y < bins → IsAngle z y a → angle z (zone_of z a) (bin_of z a) ≡ a
rounded_again z y a some small h =
    ap (λ v. angle z (zone_of z v) (bin_of z v)) h.is
    ∙ ap (λ v. angle z v (bin_of z (angle z h.zone (pos y)))) (zone_of-angle z y h.zone some small)
    ∙ ap (angle z h.zone) (bin_of-angle z y h.zone some small)
    ∙ sym h.is

-- encoding the angles of two bins gives the bins
placed : (nl : ℤ → ℕ → ℕ) (odd : Bool) (y x n : ℕ) (lat lon : Degrees) → y < bins → x < bins
    → IsAngle (latitude_zones odd) y lat → nl lat.num lat.den ≡ n → IsAngle (longitude_zones n odd) x lon
    → place_by nl lat lon odd ≡ (let p : Place = record { odd = odd; lat = y; lon = x } in p)
unfolding place_by
placed nl odd y x n lat lon sy sx ha hn hb =
    let place : ℕ → ℕ → Place = λ u v. record { odd = odd; lat = u; lon = v } in
    let zones : Degrees → ℕ = λ r. longitude_zones (nl r.num r.den) odd in
    let rounded : Degrees = angle (latitude_zones odd) (zone_of (latitude_zones odd) lat) (bin_of (latitude_zones odd) lat) in
    let band : zones rounded ≡ longitude_zones n odd = ap zones (rounded_again (latitude_zones odd) y lat (some_band odd) sy ha) ∙ ap (λ m. longitude_zones m odd) hn in
    ap (λ u. place u (sent_bin (bin_of (zones rounded) lon))) (sent_again (latitude_zones odd) y lat (some_band odd) sy ha)
    ∙ ap (λ m. place y (sent_bin (bin_of m lon))) band
    ∙ ap (place y) (sent_again (longitude_zones n odd) x lon (some_zone n odd) sx hb)

angle_of_decoded : (limit z y : ℕ) (j : ℤ) → IsAngle z y (decoded_angle limit z j y)
angle_of_decoded limit z y j = let d = decoded_angle-angle limit z y j in record { zone = d.0; is = d.1 }

-- where a pair has a position, it is encoded as its newest place, if the position at each parity is encoded as its place
pub newest_again : (encode : Degrees → Degrees → Bool → Place) (nl : ℤ → ℕ → ℕ) (position : Bool → Position) (even odd : Place) (a0 a1 : Degrees) (p : Position) (newest : Bool)
    → encode (position false).lat (position false).lon false ≡ even
    → (nl a0.num a0.den ≡ nl a1.num a1.den → encode (position true).lat (position true).lon true ≡ odd)
    → outcome nl (position newest) a0 a1 ≡ Some p → encode p.lat p.lon newest ≡ (if newest then odd else even)
newest_again encode nl position even odd a0 a1 p newest even_again odd_again h = by newest (is_latitude a0 && is_latitude a1 && (nl a0.num a0.den == nl a1.num a1.den)) refl h
  where
    by : (newest t : Bool) → (is_latitude a0 && is_latitude a1 && (nl a0.num a0.den == nl a1.num a1.den)) ≡ t → (if t then Some (position newest) else None) ≡ Some p → encode p.lat p.lon newest ≡ (if newest then odd else even)
    by newest false e s = cc
    by true true e s =
        let q : position true ≡ p = cc in
        let same = eqb-true (nl a0.num a0.den) (nl a1.num a1.den) (and_parts (is_latitude a0 && is_latitude a1) (nl a0.num a0.den == nl a1.num a1.den) e).1 in
        subst (λ (v : Position). encode v.lat v.lon true ≡ odd) q (odd_again same)
    by false true e s =
        let q : position false ≡ p = cc in
        subst (λ (v : Position). encode v.lat v.lon false ≡ even) q even_again

pub round_trip : (nl : ℤ → ℕ → ℕ) → RoundTrip nl
unfolding position_by
round_trip nl even odd newest_odd p he ho h =
    newest_again (place_by nl) nl position even odd lat0 lat1 p newest_odd
    (placed nl false even.lat even.lon n lat0 (position false).lon he.lat he.lon (angle_of_decoded 270 60 even.lat j) refl (angle_of_decoded 180 (longitude_zones n false) even.lon m)
    ∙ ap (λ b. let place : Place = record { odd = b; lat = even.lat; lon = even.lon } in place) (sym he.parity))
    (λ same. placed nl true odd.lat odd.lon n lat1 (position true).lon ho.lat ho.lon (angle_of_decoded 270 59 odd.lat j) (sym same) (angle_of_decoded 180 (longitude_zones n true) odd.lon m)
    ∙ ap (λ b. let place : Place = record { odd = b; lat = odd.lat; lon = odd.lon } in place) (sym ho.parity))
    h
  where
    j : ℤ
    j = zone_index 60 even.lat odd.lat

    lat0 : Degrees
    lat0 = decoded_angle 270 60 j even.lat

    lat1 : Degrees
    lat1 = decoded_angle 270 59 j odd.lat

    n : ℕ
    n = nl lat0.num lat0.den

    m : ℤ
    m = zone_index n even.lon odd.lon

    position : Bool → Position
    position newest = made (decoded_angle 180) nl even odd newest lat0 lat1
