-- What the code computes for the surface place of a point.
use Rattle.std.proofs.Common.{◌≡◌, ℕ, ◌+◌, ◌*◌, ◌%◌, ◌<◌, ◌≤◌, ℤ, pos, ◌+ℤ◌, ◌*ℤ◌, ap, ◌∙◌, arith, unsigned_abs, Bool, w64, FitsSigned, to_z, of_z}
use Rattle.std.proofs.lemmas.Int.{ints}
use Rattle.std.proofs.Math.Nat.{mul-le-mul_left, le_of_mul-le-mul_left}
use borrow.Author.Differences.{up, down, sum_is_lem, product_is}
use Rattle.modes_fields.specs.declared.place.Place.{Place}
use Rattle.modes_cpr.proofs.Common.{Degrees, floor, modulo, bins, latitude_zones, longitude_zones, zone_of, sent_bin}
use Rattle.modes_cpr.proofs.SurfaceCommon.{surface_angle, fine_bins, fine_bin_of, rounded_surface_latitude, surface_place_by}
use Rattle.modes_cpr.proofs.FloorLemmas.{floor_is}
use Rattle.modes_cpr.proofs.BinLemmas.{IsNearest, IsSent}
use Rattle.modes_cpr.proofs.PlaceLemmas.{sent_bin-pos}

-- four times an angle: its bins in the airborne grid are those of the angle in the surface grid
abbrev pub four : Degrees → Degrees
four a = record { num = pos 4 *ℤ a.num; den = a.den }

-- the bins from 0 to the nearest bin of a
unfoldable pub fine_steps : ℕ → Degrees → ℤ
fine_steps z a = pos 4 *ℤ zone_of z a *ℤ pos bins +ℤ fine_bin_of z a

pub fine_steps-nearest : (z : ℕ) (a : Degrees) → 0 < a.den → IsNearest z (four a) (fine_steps z a)
unfolding fine_steps fine_bin_of zone_of
fine_steps-nearest z a some =
    let D = 360 * a.den in
    let k = zone_of z a in
    let b = fine_bin_of z a in
    let f = floor_is (pos (2 * fine_bins) *ℤ modulo (a.num *ℤ pos z) D +ℤ pos D) (2 * D) (omega arith) in
    let s = ap (λ v. a.den * v) (sum_is_lem (pos 4 *ℤ k *ℤ pos bins) b) in
    let t = ap (λ v. a.den * v) (product_is (pos 4 *ℤ k) (pos bins)).0 in
    let u = ap (λ v. a.den * v) (product_is (pos 4 *ℤ k) (pos bins)).1 in
    let t' = ap (λ v. a.den * v) (product_is (pos 4) k).0 in
    let u' = ap (λ v. a.den * v) (product_is (pos 4) k).1 in
    let n = ap (λ v. v * z) (product_is (pos 4) a.num).0 in
    let m = ap (λ v. v * z) (product_is (pos 4) a.num).1 in
    record { low = omega (arith, ints); high = omega (arith, ints) }

pub fine_steps-sent_bin : (z : ℕ) (a : Degrees) → IsSent (fine_steps z a) (pos 4 *ℤ zone_of z a +ℤ floor (fine_bin_of z a) bins) (sent_bin (fine_bin_of z a))
unfolding fine_steps
fine_steps-sent_bin z a =
    let f = floor_is (fine_bin_of z a) bins (omega arith) in
    record { up_is = omega (arith, ints); small = omega (arith, ints) }

-- K is at most the whole grid
pub record IsQuarterTurn (z : ℕ) (K : ℤ) : Type 0 where
  pub low : down K ≤ up K + z * bins
  pub high : up K ≤ down K + z * bins

-- a latitude is at most a quarter of the circle, which is the whole grid, and so is its nearest bin
pub quarter_turn-nearest : (z : ℕ) (K : ℤ) (a : Degrees) → 0 < a.den → unsigned_abs a.num ≤ 90 * a.den → IsNearest z (four a) K → IsQuarterTurn z K
quarter_turn-nearest z K a some range h =
    let d : up a.num ≤ down a.num + 90 * a.den = omega (arith, ints) in
    let u : down a.num ≤ up a.num + 90 * a.den = omega (arith, ints) in
    let zd = mul-le-mul_left z d in
    let zu = mul-le-mul_left z u in
    let n = ap (λ v. v * z) (product_is (pos 4) a.num).0 in
    let m = ap (λ v. v * z) (product_is (pos 4) a.num).1 in
    let e : 360 * a.den * (2 * up K) ≤ 360 * a.den * (2 * down K + 2 * (z * bins) + 1) = omega (arith, ints) in
    let f : 360 * a.den * (2 * down K) ≤ 360 * a.den * (2 * up K + 2 * (z * bins) + 1) = omega (arith, ints) in
    let den : 0 < 360 * a.den = omega arith in
    let e' = le_of_mul-le-mul_left e den in
    let f' = le_of_mul-le-mul_left f den in
    record { low = omega arith; high = omega arith }

-- the rounded latitude is a latitude
pub rounded_surface_in_range : (odd : Bool) (lat : Degrees) → 0 < lat.den → unsigned_abs lat.num ≤ 90 * lat.den
    → unsigned_abs (rounded_surface_latitude odd lat).num ≤ 90 * (rounded_surface_latitude odd lat).den
unfolding fine_steps
rounded_surface_in_range odd lat some range =
    let q = quarter_turn-nearest (latitude_zones odd) (fine_steps (latitude_zones odd) lat) lat some range (fine_steps-nearest (latitude_zones odd) lat some) in
    omega (arith, ints)

four_zones : (k : ℤ) → unsigned_abs k ≤ 60 → to_z w64 (of_z w64 (pos 4 *ℤ to_z w64 (of_z w64 k))) ≡ pos 4 *ℤ k
four_zones k few = omega (arith, ints)

-- the rounded latitude, as the code computes it
pub rounded_surface_is : (odd : Bool) (lat a : Degrees) (z y : ℕ) (k : ℤ) → z ≡ latitude_zones odd → unsigned_abs k ≤ 60 → FitsSigned w64 k → k ≡ zone_of z lat → pos y ≡ fine_bin_of z lat
    → a ≡ surface_angle z (to_z w64 (of_z w64 (pos 4 *ℤ to_z w64 (of_z w64 k)))) (pos y) → a ≡ rounded_surface_latitude odd lat
rounded_surface_is odd lat a z y k z_is few fits k_is y_is a_is =
    a_is ∙ (λ i. surface_angle z ((four_zones k few ∙ ap (λ v. pos 4 *ℤ v) k_is) i) (y_is i)) ∙ ap (λ v. surface_angle v (pos 4 *ℤ zone_of v lat) (fine_bin_of v lat)) z_is

-- the place, as the code computes it
pub surface_place_is : (nl : ℤ → ℕ → ℕ) (odd : Bool) (lat lon a : Degrees) (z n g y x : ℕ) → z ≡ latitude_zones odd → a ≡ rounded_surface_latitude odd lat
    → n ≡ nl a.num a.den → g ≡ longitude_zones n odd → pos y ≡ fine_bin_of z lat → pos x ≡ fine_bin_of g lon
    → (let p : Place = record { odd = odd; lat = y % bins; lon = x % bins } in p) ≡ surface_place_by nl lat lon odd
unfolding surface_place_by
surface_place_is nl odd lat lon a z n g y x z_is a_is n_is g_is y_is x_is =
    let lat_is : y % bins ≡ sent_bin (fine_bin_of (latitude_zones odd) lat) = sent_bin-pos y ∙ ap sent_bin (y_is ∙ ap (λ v. fine_bin_of v lat) z_is) in
    let zones : g ≡ longitude_zones (nl (rounded_surface_latitude odd lat).num (rounded_surface_latitude odd lat).den) odd = g_is ∙ ap (λ v. longitude_zones v odd) (n_is ∙ ap (λ (v : Degrees). nl v.num v.den) a_is) in
    let lon_is : x % bins ≡ sent_bin (fine_bin_of (longitude_zones (nl (rounded_surface_latitude odd lat).num (rounded_surface_latitude odd lat).den) odd) lon) = sent_bin-pos x ∙ ap sent_bin (x_is ∙ ap (λ v. fine_bin_of v lon) zones) in
    (λ i. record { odd = odd; lat = lat_is i; lon = lon_is i })
