-- The places of two points near one another give a position near the point of the newest.
use Rattle.std.proofs.Common.{◌≡◌, ℕ, zero, suc, ◌+◌, ◌-◌, ◌*◌, ◌<◌, ◌≤◌, ℤ, pos, ◌+ℤ◌, ◌-ℤ◌, ◌*ℤ◌, ap, ◌∙◌, refl, sym, subst, arith, unsigned_abs, Bool, true, false, Some, if◌then◌else◌, IsSomeAnd}
use Rattle.std.proofs.lemmas.Int.{ints}
use Rattle.std.proofs.Math.Nat.{mul-le-mul_left, mul-lt-mul_of_pos_left, lt_of_mul-lt-mul_left}
use borrow.Author.Differences.{up, down}
use Rattle.modes_fields.specs.declared.place.Place.{Place}
use Rattle.modes_cpr.proofs.Common.{floor, modulo, Degrees, Position, bins, latitude_zones, longitude_zones, decoded_angle, zone_index, position_by, zone_of, bin_of, sent_bin, place_by, IsZoneCount, IsPairable, IsPairableRound, IsWithinHalfBin, IsWithinHalfBinRound, zones_at, Moving}
use Rattle.modes_cpr.proofs.FloorLemmas.{modulo_one, modulo_shift}
use Rattle.modes_cpr.proofs.BinLemmas.{steps, IsNearest, IsSent, steps-nearest, steps-sent_bin, zone_index_is, even_zone, odd_zone}
use Rattle.modes_cpr.proofs.PairLemmas.{position_at, found}
use Rattle.modes_cpr.proofs.DecodedLemmas.{at_step, IsQuarter, quarter-nearest, latitude-decoded_angle, is_latitude-at_step, within-at_step, longitude-decoded_angle}

-- ---- the index of a zone, from the roundings of two points

-- in a common grid the roundings of the two points differ by less than half a zone
two_points : (z0 z1 m : ℕ) (a b : Degrees) (K0 K1 : ℤ) → 0 < a.den → 0 < z0 → m + (z0 + z1) ≡ 131072 → IsNearest z0 a K0 → IsNearest z1 b K1
    → 131072 * (z0 * z1 * (b.den * up a.num + a.den * down b.num)) ≤ 131072 * (z0 * z1 * (b.den * down a.num + a.den * up b.num)) + 180 * m * (a.den * b.den)
    → 2 * (z1 * up K0) + 2 * (z0 * down K1) < 2 * (z0 * up K1) + 2 * (z1 * down K0) + 131072
two_points z0 z1 m a b K0 K1 some band whole h0 h1 apart =
    let l0 = mul-le-mul_left (b.den * z1) h0.low in
    let l1 = mul-lt-mul_of_pos_left (mul-lt-mul_of_pos_left h1.high band) some in
    let w = ap (λ v. 360 * (a.den * b.den) * v) whole in
    let sum : 360 * (a.den * b.den) * (2 * (z1 * up K0) + 2 * (z0 * down K1)) < 360 * (a.den * b.den) * (2 * (z0 * up K1) + 2 * (z1 * down K0) + 131072) = omega (arith, l0, l1, apart, w) in
    lt_of_mul-lt-mul_left (360 * (a.den * b.den)) sum

-- the distance by inequalities of naturals
record IsApart (n m : ℕ) (a b : Degrees) : Type 0 where
  over : 131072 * (n * (b.den * up a.num + a.den * down b.num)) ≤ 131072 * (n * (b.den * down a.num + a.den * up b.num)) + 180 * m * (a.den * b.den)
  under : 131072 * (n * (b.den * down a.num + a.den * up b.num)) ≤ 131072 * (n * (b.den * up a.num + a.den * down b.num)) + 180 * m * (a.den * b.den)

apart : (n m : ℕ) (a b : Degrees) → 131072 * (n * unsigned_abs (a.num *ℤ pos b.den -ℤ b.num *ℤ pos a.den)) ≤ 180 * m * (a.den * b.den) → IsApart n m a b
apart n m a b h =
    let X = unsigned_abs (a.num *ℤ pos b.den -ℤ b.num *ℤ pos a.den) in
    let o : b.den * up a.num + a.den * down b.num ≤ b.den * down a.num + a.den * up b.num + X = omega (arith, ints) in
    let u : b.den * down a.num + a.den * up b.num ≤ b.den * up a.num + a.den * down b.num + X = omega (arith, ints) in
    let no = mul-le-mul_left n o in
    let nu = mul-le-mul_left n u in
    record { over = omega (arith, no, h); under = omega (arith, nu, h) }

-- so the index of a zone is found
pub index_moving : (z : ℕ) (a b : Degrees) (K0 K1 q0 q1 : ℤ) (y0 y1 : ℕ) → 0 < a.den → 0 < b.den → 0 < z → z ≤ 59
    → IsNearest (z + 1) a K0 → IsNearest z b K1 → IsSent K0 q0 y0 → IsSent K1 q1 y1 → IsPairable (z + 1) a b
    → zone_index (z + 1) y0 y1 ≡ pos (z + 1) *ℤ q1 -ℤ pos z *ℤ q0
index_moving z a b K0 K1 q0 q1 y0 y1 some_a some_b band most n0 n1 s0 s1 near =
    let m = 131072 - (z + 1 + z) in
    let less : z + 1 - 1 ≡ z = omega arith in
    let X = unsigned_abs (a.num *ℤ pos b.den -ℤ b.num *ℤ pos a.den) in
    let d = apart ((z + 1) * z) m a b (subst (λ v. 131072 * ((z + 1) * v * X) ≤ 180 * (131072 - (z + 1 + v)) * (a.den * b.den)) less near) in
    let over = two_points (z + 1) z m a b K0 K1 some_a (omega arith) (omega arith) n0 n1 d.over in
    let under = two_points z (z + 1) m b a K1 K0 some_b band (omega arith) n1 n0 (omega (arith, d.under)) in
    zone_index_is z K0 K1 q0 q1 y0 y1 s0 s1 over under

-- m leads to the zone of the newest longitude
pub longitude_moving : (N : ℕ) (newest : Bool) (a b : Degrees) (K0 K1 q0 q1 : ℤ) (x0 x1 : ℕ) → 0 < a.den → 0 < b.den → 1 ≤ N → N ≤ 59
    → IsNearest (longitude_zones N false) a K0 → IsNearest (longitude_zones N true) b K1 → IsSent K0 q0 x0 → IsSent K1 q1 x1 → IsPairable N a b
    → modulo (zone_index N x0 x1) (longitude_zones N newest) ≡ modulo (if newest then q1 else q0) (longitude_zones N newest)
longitude_moving zero newest a b K0 K1 q0 q1 x0 x1 some_a some_b least most n0 n1 s0 s1 near = absurd (omega arith)
longitude_moving (suc zero) true a b K0 K1 q0 q1 x0 x1 some_a some_b least most n0 n1 s0 s1 near = modulo_one (zone_index 1 x0 x1) ∙ sym (modulo_one q1)
longitude_moving (suc zero) false a b K0 K1 q0 q1 x0 x1 some_a some_b least most n0 n1 s0 s1 near = modulo_one (zone_index 1 x0 x1) ∙ sym (modulo_one q0)
longitude_moving (suc (suc k)) newest a b K0 K1 q0 q1 x0 x1 some_a some_b least most n0 n1 s0 s1 near = by newest
  where
    z : ℕ
    z = suc k

    whole : suc (suc k) ≡ z + 1
    whole = omega arith

    even : longitude_zones (suc (suc k)) false ≡ z + 1
    even = omega arith

    odd : longitude_zones (suc (suc k)) true ≡ z
    odd = omega arith

    found : zone_index (suc (suc k)) x0 x1 ≡ pos (z + 1) *ℤ q1 -ℤ pos z *ℤ q0
    found = ap (λ n. zone_index n x0 x1) whole ∙ index_moving z a b K0 K1 q0 q1 x0 x1 some_a some_b (omega arith) (omega arith) (subst (λ n. IsNearest n a K0) even n0) (subst (λ n. IsNearest n b K1) odd n1) s0 s1 (subst (λ n. IsPairable n a b) whole near)

    by : (newest : Bool) → modulo (zone_index (suc (suc k)) x0 x1) (longitude_zones (suc (suc k)) newest) ≡ modulo (if newest then q1 else q0) (longitude_zones (suc (suc k)) newest)
    by true = ap (modulo (zone_index (suc (suc k)) x0 x1)) odd ∙ ap (λ v. modulo v z) found ∙ odd_zone z q0 q1 (omega arith) ∙ ap (modulo q1) (sym odd)
    by false = ap (modulo (zone_index (suc (suc k)) x0 x1)) even ∙ ap (λ v. modulo v (z + 1)) found ∙ even_zone z q0 q1 ∙ ap (modulo q0) (sym even)

-- ---- whole turns

-- t turns on are t turns of zones on, at the same bin
nearest-turned : (z : ℕ) (a : Degrees) (K t : ℤ) → IsNearest z a K → IsNearest z (record { num = a.num +ℤ pos (360 * a.den) *ℤ t; den = a.den }) (K +ℤ pos (z * bins) *ℤ t)
nearest-turned z a K t h =
    let N = a.num +ℤ pos (360 * a.den) *ℤ t in
    let L = K +ℤ pos (z * bins) *ℤ t in
    let n : up N + down a.num + 360 * a.den * down t ≡ down N + up a.num + 360 * a.den * up t = omega (arith, ints) in
    let l : up L + down K + z * bins * down t ≡ down L + up K + z * bins * up t = omega (arith, ints) in
    let n' = ap (λ v. z * v) n in
    let l' = ap (λ v. a.den * v) l in
    record { low = omega (arith, n', l', h.low); high = omega (arith, n', l', h.high) }

sent-turned : (z y : ℕ) (K q t : ℤ) → IsSent K q y → IsSent (K +ℤ pos (z * bins) *ℤ t) (pos z *ℤ t +ℤ q) y
sent-turned z y K q t s =
    let L = K +ℤ pos (z * bins) *ℤ t in
    let Q = pos z *ℤ t +ℤ q in
    let l : up L + down K + z * bins * down t ≡ down L + up K + z * bins * up t = omega (arith, ints) in
    let p : up Q + down q + z * down t ≡ down Q + up q + z * up t = omega (arith, ints) in
    let u = s.up_is in
    record { up_is = omega (arith, l, p, u); small = s.small }

-- so round the circle too m leads to the zone of the newest longitude
longitude_round : (N : ℕ) (newest : Bool) (a b : Degrees) (K0 K1 q0 q1 : ℤ) (x0 x1 : ℕ) → 0 < a.den → 0 < b.den → 1 ≤ N → N ≤ 59
    → IsNearest (longitude_zones N false) a K0 → IsNearest (longitude_zones N true) b K1 → IsSent K0 q0 x0 → IsSent K1 q1 x1 → IsPairableRound N a b
    → modulo (zone_index N x0 x1) (longitude_zones N newest) ≡ modulo (if newest then q1 else q0) (longitude_zones N newest)
longitude_round N newest a b K0 K1 q0 q1 x0 x1 some_a some_b least most n0 n1 s0 s1 near =
    found newest ∙ unturned newest
  where
    z : ℕ
    z = longitude_zones N false

    t : ℤ
    t = near.0

    found : (newest : Bool) → modulo (zone_index N x0 x1) (longitude_zones N newest) ≡ modulo (if newest then q1 else (pos z *ℤ t +ℤ q0)) (longitude_zones N newest)
    found newest = longitude_moving N newest (record { num = a.num +ℤ pos (360 * a.den) *ℤ t; den = a.den }) b (K0 +ℤ pos (z * bins) *ℤ t) K1 (pos z *ℤ t +ℤ q0) q1 x0 x1 some_a some_b least most
        (nearest-turned z a K0 t n0) n1 (sent-turned z x0 K0 q0 t s0) s1 near.1

    unturned : (newest : Bool) → modulo (if newest then q1 else (pos z *ℤ t +ℤ q0)) (longitude_zones N newest) ≡ modulo (if newest then q1 else q0) (longitude_zones N newest)
    unturned true = refl
    unturned false = modulo_shift q0 t z (omega arith)

-- a point is near itself
pub pairable-self : (n : ℕ) (a : Degrees) → IsPairable n a a
pairable-self n a =
    let e : unsigned_abs (a.num *ℤ pos a.den -ℤ a.num *ℤ pos a.den) ≡ 0 = omega (arith, ints) in
    subst (λ v. 131072 * (n * (n - 1) * v) ≤ 180 * (131072 - (n + (n - 1))) * (a.den * a.den)) (sym e) (omega arith)

pub pairable-self_round : (n : ℕ) (a : Degrees) → IsPairableRound n a a
pairable-self_round n a =
    let e : a.num ≡ a.num +ℤ pos (360 * a.den) *ℤ pos 0 = omega (arith, ints) in
    (pos 0, subst (λ (v : ℤ). IsPairable n (record { num = v; den = a.den }) a) e (pairable-self n a))

-- ---- the law

pub moving : (nl : ℤ → ℕ → ℕ) → IsZoneCount nl → Moving nl
unfolding place_by steps
moving nl counts lat lon newest lats lons apart_lat equal apart_lon = subst (λ o. IsSomeAnd o P) (sym position) (within_lat newest, within_lon newest)
  where
    even : Place
    even = place_by nl (lat false) (lon false) false

    odd : Place
    odd = place_by nl (lat true) (lon true) true

    N : ℕ
    N = zones_at nl (lat false) false

    P : Position → Type 0
    P p = IsWithinHalfBin (latitude_zones newest) p.lat (lat newest) × IsWithinHalfBinRound (longitude_zones (zones_at nl (lat newest) newest) newest) p.lon (lon newest)

    zone : Bool → ℤ
    zone b = zone_of (latitude_zones b) (lat b) +ℤ floor (bin_of (latitude_zones b) (lat b)) bins

    near_lat : (b : Bool) → IsNearest (latitude_zones b) (lat b) (steps (latitude_zones b) (lat b))
    near_lat b = steps-nearest (latitude_zones b) (lat b) (lats b).whole

    sent_lat : (b : Bool) → IsSent (steps (latitude_zones b) (lat b)) (zone b) (sent_bin (bin_of (latitude_zones b) (lat b)))
    sent_lat b = steps-sent_bin (latitude_zones b) (lat b)

    quarter : (b : Bool) → IsQuarter (latitude_zones b) (steps (latitude_zones b) (lat b))
    quarter b = quarter-nearest (latitude_zones b) (steps (latitude_zones b) (lat b)) (lat b) (lats b).whole (lats b).range (near_lat b)

    j : ℤ
    j = zone_index 60 even.lat odd.lat

    j_is : j ≡ pos 60 *ℤ zone true -ℤ pos 59 *ℤ zone false
    j_is = index_moving 59 (lat false) (lat true) (steps 60 (lat false)) (steps 59 (lat true)) (zone false) (zone true) even.lat odd.lat (lats false).whole (lats true).whole (omega arith) (omega arith) (near_lat false) (near_lat true) (sent_lat false) (sent_lat true) apart_lat

    lat0 : decoded_angle 270 60 j even.lat ≡ at_step 60 (steps 60 (lat false))
    lat0 = latitude-decoded_angle 60 even.lat j (zone false) (steps 60 (lat false)) (omega arith) (sent_lat false) (quarter false) (ap (λ v. modulo v 60) j_is ∙ even_zone 59 (zone false) (zone true))

    lat1 : decoded_angle 270 59 j odd.lat ≡ at_step 59 (steps 59 (lat true))
    lat1 = latitude-decoded_angle 59 odd.lat j (zone true) (steps 59 (lat true)) (omega arith) (sent_lat true) (quarter true) (ap (λ v. modulo v 59) j_is ∙ odd_zone 59 (zone false) (zone true) (omega arith))

    m : ℤ
    m = zone_index N even.lon odd.lon

    position : position_by nl even odd newest ≡ Some (let p : Position = record {
      lat = if newest then at_step 59 (steps 59 (lat true)) else at_step 60 (steps 60 (lat false));
      lon = decoded_angle 180 (longitude_zones N newest) m (if newest then odd.lon else even.lon);
    } in p)
    position = position_at nl even odd newest (at_step 60 (steps 60 (lat false))) (at_step 59 (steps 59 (lat true))) lat0 lat1
        ∙ found nl _ _ _ (is_latitude-at_step 60 (steps 60 (lat false)) (quarter false)) (is_latitude-at_step 59 (steps 59 (lat true)) (quarter true)) equal

    within_lat : (b : Bool) → IsWithinHalfBin (latitude_zones b) (if b then at_step 59 (steps 59 (lat true)) else at_step 60 (steps 60 (lat false))) (lat b)
    within_lat true = within-at_step 59 (steps 59 (lat true)) (lat true) (near_lat true)
    within_lat false = within-at_step 60 (steps 60 (lat false)) (lat false) (near_lat false)

    -- the longitudes
    grid : Bool → ℕ
    grid b = longitude_zones (zones_at nl (lat b) b) b

    some_grid : (b : Bool) → 0 < grid b
    some_grid b = omega arith

    same : (b : Bool) → longitude_zones N b ≡ grid b
    same true = ap (λ n. longitude_zones n true) equal
    same false = refl

    band : Bool → ℤ
    band b = zone_of (grid b) (lon b) +ℤ floor (bin_of (grid b) (lon b)) bins

    near_lon : (b : Bool) → IsNearest (grid b) (lon b) (steps (grid b) (lon b))
    near_lon b = steps-nearest (grid b) (lon b) (lons b)

    sent_lon : (b : Bool) → IsSent (steps (grid b) (lon b)) (band b) (sent_bin (bin_of (grid b) (lon b)))
    sent_lon b = steps-sent_bin (grid b) (lon b)

    m_is : (b : Bool) → modulo m (grid b) ≡ modulo (if b then band true else band false) (grid b)
    m_is b = subst (λ n. modulo m n ≡ modulo (if b then band true else band false) n) (same b)
        (longitude_round N b (lon false) (lon true) (steps (grid false) (lon false)) (steps (grid true) (lon true)) (band false) (band true) even.lon odd.lon (lons false) (lons true) (counts.least _ _) (counts.most _ _)
        (near_lon false) (subst (λ n. IsNearest n (lon true) (steps (grid true) (lon true))) (sym (same true)) (near_lon true)) (sent_lon false) (sent_lon true) apart_lon)

    within_lon : (b : Bool) → IsWithinHalfBinRound (grid b) (decoded_angle 180 (longitude_zones N b) m (if b then odd.lon else even.lon)) (lon b)
    within_lon true = subst (λ n. IsWithinHalfBinRound (grid true) (decoded_angle 180 n m odd.lon) (lon true)) (sym (same true)) (longitude-decoded_angle (grid true) odd.lon m (band true) (steps (grid true) (lon true)) (lon true) (some_grid true) (near_lon true) (sent_lon true) (m_is true))
    within_lon false = longitude-decoded_angle (grid false) even.lon m (band false) (steps (grid false) (lon false)) (lon false) (some_grid false) (near_lon false) (sent_lon false) (m_is false)
