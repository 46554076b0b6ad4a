-- The position of a pair of surface places is encoded as the newest of them.
use Rattle.std.proofs.Common.{◌≡◌, ℕ, ◌*◌, ◌<◌, ℤ, pos, ◌+ℤ◌, ◌-ℤ◌, ◌*ℤ◌, ap, ◌∙◌, refl, sym, arith, Bool, true, false}
use Rattle.std.proofs.lemmas.Int.{ints}
use Rattle.modes_fields.specs.declared.place.Place.{Place}
use Rattle.modes_cpr.proofs.Common.{floor, Degrees, Position, bins, latitude_zones, longitude_zones, zone_index, zone_of, sent_bin}
use Rattle.modes_cpr.proofs.SurfaceCommon.{surface_angle, decoded_near, without_turns, surface_position_by, fine_bin_of, surface_place_by, SurfaceRoundTrip}
use Rattle.modes_cpr.proofs.BinLemmas.{some_band, some_zone}
use Rattle.modes_cpr.proofs.PairLemmas.{made}
use Rattle.modes_cpr.proofs.SurfacePairLemmas.{longitude_near}
use Rattle.modes_cpr.proofs.RoundTripLemmas.{newest_again}
use Rattle.modes_cpr.proofs.SurfaceAngleLemmas.{zone_of-surface_angle, fine_bin_of-surface_angle, sent_bin-zones, decoded_near-angle, without_turns-angle}

-- the angle of bin y in one of z zones
record IsAngle (z y : ℕ) (a : Degrees) : Type 0 where
  zone : ℤ
  is : a ≡ surface_angle z zone (pos y)

sent_again : (z y : ℕ) (a : Degrees) → 0 < z → y < bins → IsAngle z y a → sent_bin (fine_bin_of z a) ≡ y
sent_again z y a some small h =
    ap (λ v. sent_bin (fine_bin_of z v)) h.is ∙ ap sent_bin (fine_bin_of-surface_angle z y h.zone some small) ∙ sent_bin-zones (h.zone -ℤ pos 4 *ℤ floor h.zone 4) y small

rounded_again : (z y : ℕ) (a : Degrees) → 0 < z → y < bins → IsAngle z y a → surface_angle z (pos 4 *ℤ zone_of z a) (fine_bin_of z a) ≡ a
rounded_again z y a some small h =
    ap (λ v. surface_angle z (pos 4 *ℤ zone_of z v) (fine_bin_of z v)) h.is
    ∙ ap (λ v. surface_angle z (pos 4 *ℤ v) (fine_bin_of z (surface_angle z h.zone (pos y)))) (zone_of-surface_angle z y h.zone some small)
    ∙ ap (surface_angle z (pos 4 *ℤ floor h.zone 4)) (fine_bin_of-surface_angle z y h.zone some small)
    ∙ (λ i. let f : Degrees = record { num = num (floor h.zone 4) i; den = z * bins } in f)
    ∙ sym h.is
  where
    num : (f : ℤ) → pos 90 *ℤ (pos 4 *ℤ f *ℤ pos bins +ℤ ((h.zone -ℤ pos 4 *ℤ f) *ℤ pos bins +ℤ pos y)) ≡ pos 90 *ℤ (h.zone *ℤ pos bins +ℤ pos y)
    num f = omega (arith, ints)

-- encoding the angles of two bins gives the bins
placed : (nl : ℤ → ℕ → ℕ) (odd : Bool) (y x n : ℕ) (lat lon : Degrees) → y < bins → x < bins
    → IsAngle (latitude_zones odd) y lat → nl lat.num lat.den ≡ n → IsAngle (longitude_zones n odd) x lon
    → surface_place_by nl lat lon odd ≡ (let p : Place = record { odd = odd; lat = y; lon = x } in p)
unfolding surface_place_by
placed nl odd y x n lat lon sy sx ha hn hb =
    let place : ℕ → ℕ → Place = λ u v. record { odd = odd; lat = u; lon = v } in
    let zones : Degrees → ℕ = λ r. longitude_zones (nl r.num r.den) odd in
    let rounded : Degrees = surface_angle (latitude_zones odd) (pos 4 *ℤ zone_of (latitude_zones odd) lat) (fine_bin_of (latitude_zones odd) lat) in
    let band : zones rounded ≡ longitude_zones n odd = ap zones (rounded_again (latitude_zones odd) y lat (some_band odd) sy ha) ∙ ap (λ m. longitude_zones m odd) hn in
    ap (λ u. place u (sent_bin (fine_bin_of (zones rounded) lon))) (sent_again (latitude_zones odd) y lat (some_band odd) sy ha)
    ∙ ap (λ m. place y (sent_bin (fine_bin_of m lon))) band
    ∙ ap (place y) (sent_again (longitude_zones n odd) x lon (some_zone n odd) sx hb)

angle_of_decoded : (r : Degrees) (z y : ℕ) (j : ℤ) → IsAngle z y (decoded_near r z j y)
angle_of_decoded r z y j = let d = decoded_near-angle r z y j in record { zone = d.0; is = d.1 }

angle_without_turns : (r : Degrees) (z y : ℕ) (j : ℤ) → IsAngle z y (without_turns (decoded_near r z j y))
angle_without_turns r z y j =
    let d = decoded_near-angle r z y j in
    let t = without_turns-angle z y d.0 in
    record { zone = t.0; is = ap without_turns d.1 ∙ t.1 }

pub round_trip : (nl : ℤ → ℕ → ℕ) → SurfaceRoundTrip nl
unfolding surface_position_by
round_trip nl reference even odd newest_odd p he ho h =
    newest_again (surface_place_by nl) nl position even odd lat0 lat1 p newest_odd
    (placed nl false even.lat even.lon n lat0 (position false).lon he.lat he.lon (angle_of_decoded reference.lat 60 even.lat j) refl (angle_without_turns reference.lon (longitude_zones n false) even.lon m)
    ∙ ap (λ b. let place : Place = record { odd = b; lat = even.lat; lon = even.lon } in place) (sym he.parity))
    (λ same. placed nl true odd.lat odd.lon n lat1 (position true).lon ho.lat ho.lon (angle_of_decoded reference.lat 59 odd.lat j) (sym same) (angle_without_turns reference.lon (longitude_zones n true) odd.lon m)
    ∙ ap (λ b. let place : Place = record { odd = b; lat = odd.lat; lon = odd.lon } in place) (sym ho.parity))
    h
  where
    j : ℤ
    j = zone_index 60 even.lat odd.lat

    lat0 : Degrees
    lat0 = decoded_near reference.lat 60 j even.lat

    lat1 : Degrees
    lat1 = decoded_near reference.lat 59 j odd.lat

    n : ℕ
    n = nl lat0.num lat0.den

    m : ℤ
    m = zone_index n even.lon odd.lon

    position : Bool → Position
    position newest = made (longitude_near reference.lon) nl even odd newest lat0 lat1
