-- What the code computes for the place of a point.
use Rattle.std.proofs.Common.{◌≡◌, ℕ, ◌*◌, ◌%◌, ◌<◌, ◌≤◌, ℤ, pos, ap, ◌∙◌, sym, subst, arith, unsigned_abs, Bool, w64, FitsSigned, to_z, of_z}
use Rattle.std.proofs.lemmas.Int.{ints, to_z-of_z}
use Rattle.modes_fields.specs.declared.place.Place.{Place}
use Rattle.modes_cpr.proofs.Common.{Degrees, bins, latitude_zones, longitude_zones, angle, zone_of, bin_of, sent_bin, rounded_latitude, place_by}
use Rattle.modes_cpr.proofs.FloorLemmas.{modulo_is}
use Rattle.modes_cpr.proofs.BinLemmas.{steps, steps-nearest}
use Rattle.modes_cpr.proofs.DecodedLemmas.{quarter-nearest}

pub sent_bin-pos : (y : ℕ) → y % bins ≡ sent_bin (pos y)
sent_bin-pos y = ap unsigned_abs (modulo_is (pos y) bins (omega arith))

-- the rounded latitude is a latitude
pub rounded_in_range : (odd : Bool) (lat : Degrees) → 0 < lat.den → unsigned_abs lat.num ≤ 90 * lat.den
    → unsigned_abs (rounded_latitude odd lat).num ≤ 90 * (rounded_latitude odd lat).den
unfolding steps
rounded_in_range odd lat some range =
    let q = quarter-nearest (latitude_zones odd) (steps (latitude_zones odd) lat) lat some range (steps-nearest (latitude_zones odd) lat some) in
    omega (arith, ints)

-- the rounded latitude, as the code computes it
pub rounded_is : (odd : Bool) (lat a : Degrees) (z y : ℕ) (k : ℤ) → z ≡ latitude_zones odd → FitsSigned w64 k → k ≡ zone_of z lat → pos y ≡ bin_of z lat
    → a ≡ angle z (to_z w64 (of_z w64 k)) (pos y) → a ≡ rounded_latitude odd lat
rounded_is odd lat a z y k z_is fits k_is y_is a_is =
    a_is ∙ (λ i. angle z ((to_z-of_z w64 k fits ∙ k_is) i) (y_is i)) ∙ ap (λ v. angle v (zone_of v lat) (bin_of v lat)) z_is

pub in_range_at : (a b : Degrees) → FitsSigned w64 a.num → a ≡ b → unsigned_abs b.num ≤ 90 * b.den → unsigned_abs (to_z w64 (of_z w64 a.num)) ≤ 90 * a.den
in_range_at a b fits e h =
    let h' : unsigned_abs a.num ≤ 90 * a.den = subst (λ (v : Degrees). unsigned_abs v.num ≤ 90 * v.den) (sym e) h in
    subst (λ (v : ℤ). unsigned_abs v ≤ 90 * a.den) (sym (to_z-of_z w64 a.num fits)) h'

-- the place, as the code computes it
pub place_is : (nl : ℤ → ℕ → ℕ) (odd : Bool) (lat lon a : Degrees) (z n g y x : ℕ) → z ≡ latitude_zones odd → a ≡ rounded_latitude odd lat
    → n ≡ nl a.num a.den → g ≡ longitude_zones n odd → pos y ≡ bin_of z lat → pos x ≡ bin_of g lon
    → (let p : Place = record { odd = odd; lat = y % bins; lon = x % bins } in p) ≡ place_by nl lat lon odd
unfolding place_by
place_is nl odd lat lon a z n g y x z_is a_is n_is g_is y_is x_is =
    let lat_is : y % bins ≡ sent_bin (bin_of (latitude_zones odd) lat) = sent_bin-pos y ∙ ap sent_bin (y_is ∙ ap (λ v. bin_of v lat) z_is) in
    let zones : g ≡ longitude_zones (nl (rounded_latitude odd lat).num (rounded_latitude odd lat).den) odd = g_is ∙ ap (λ v. longitude_zones v odd) (n_is ∙ ap (λ (v : Degrees). nl v.num v.den) a_is) in
    let lon_is : x % bins ≡ sent_bin (bin_of (longitude_zones (nl (rounded_latitude odd lat).num (rounded_latitude odd lat).den) odd) lon) = sent_bin-pos x ∙ ap sent_bin (x_is ∙ ap (λ v. bin_of v lon) zones) in
    (λ i. record { odd = odd; lat = lat_is i; lon = lon_is i })
