-- The bins that are sent for a point decode to the point, rounded to the nearest bin.
use Rattle.std.proofs.Common.{◌≡◌, ℕ, ◌+◌, ◌*◌, ◌^◌, ◌<◌, ◌≤◌, ℤ, pos, negsuc, neg_ℤ, ◌+ℤ◌, ◌-ℤ◌, ◌*ℤ◌, ◌≤ℤ◌, ◌<ℤ◌, ap, ◌∙◌, sym, subst, arith, unsigned_abs, Bool, true, false, cond, int_le}
use Rattle.std.proofs.lemmas.Int.{ints, by_lt_z}
use Rattle.std.proofs.lemmas.Bool.Decides.{nat_tests}
use Rattle.std.proofs.Math.Nat.{mul-le-mul_left, le_of_mul-le-mul_left}
use borrow.Author.Differences.{up, down, neg_is, product_is}
use Rattle.modes_cpr.proofs.Common.{floor, modulo, Degrees, bins, angle, wrapped_angle, decoded_angle, is_latitude, IsWithinHalfBin, IsWithinHalfBinRound}
use Rattle.modes_cpr.proofs.WholeNumberLemmas.{*ℤ-+ℤ}
use Rattle.modes_cpr.proofs.FloorLemmas.{floor_unique}
use Rattle.modes_cpr.proofs.BinLemmas.{IsNearest, IsSent}

-- K bins from 0 in a grid of z zones
abbrev pub at_step : ℕ → ℤ → Degrees
at_step z K = record { num = pos 360 *ℤ K; den = z * bins }

-- K is at most a quarter of the circle
pub record IsQuarter (z : ℕ) (K : ℤ) : Type 0 where
  pub low : 4 * down K ≤ 4 * up K + z * bins
  pub high : 4 * up K ≤ 4 * down K + z * bins

below_limit : (limit : ℕ) (n : ℤ) (den : ℕ) → n <ℤ pos (limit * den) → wrapped_angle limit (record { num = n; den = den }) ≡ (let f : Degrees = record { num = n; den = den } in f)
below_limit limit n den h =
    let t : int_le (pos (limit * den)) n ≡ false = sym (omega (arith, ints)) in
    let f : Degrees = record { num = n -ℤ pos (360 * den); den = den } in
    let g : Degrees = record { num = n; den = den } in
    ap (λ v. cond v f g) t

above_limit : (limit : ℕ) (n : ℤ) (den : ℕ) → pos (limit * den) ≤ℤ n → wrapped_angle limit (record { num = n; den = den }) ≡ (let f : Degrees = record { num = n -ℤ pos (360 * den); den = den } in f)
above_limit limit n den h =
    let t : int_le (pos (limit * den)) n ≡ true = sym (omega (arith, ints)) in
    let f : Degrees = record { num = n -ℤ pos (360 * den); den = den } in
    let g : Degrees = record { num = n; den = den } in
    ap (λ v. cond v f g) t

-- south of the equator the index is one turn too great, and the turn is taken away
pub latitude-decoded_angle : (z y : ℕ) (j q K : ℤ) → 0 < z → IsSent K q y → IsQuarter z K → modulo j z ≡ modulo q z → decoded_angle 270 z j y ≡ at_step z K
unfolding decoded_angle
latitude-decoded_angle z y j q K some s quarter same = by_lt_z K (pos 0) south north
  where
    fraction : ℤ → Degrees
    fraction v = record { num = v; den = z * bins }

    south : K <ℤ pos 0 → decoded_angle 270 z j y ≡ at_step z K
    south h =
        let t : floor q z ≡ negsuc 0 = floor_unique q z (negsuc 0) (record { low = omega (arith, ints); high = omega (arith, ints) }) in
        let m : modulo j z ≡ q +ℤ pos z = same ∙ ap (λ v. q -ℤ pos z *ℤ v) t ∙ omega (arith, ints) in
        let n : pos 360 *ℤ ((q +ℤ pos z) *ℤ pos bins +ℤ pos y) -ℤ pos (360 * (z * bins)) ≡ pos 360 *ℤ K = omega (arith, ints) in
        ap (λ v. wrapped_angle 270 (angle z v (pos y))) m ∙ above_limit 270 (pos 360 *ℤ ((q +ℤ pos z) *ℤ pos bins +ℤ pos y)) (z * bins) (omega (arith, ints)) ∙ ap fraction n

    north : pos 0 ≤ℤ K → decoded_angle 270 z j y ≡ at_step z K
    north h =
        let t : floor q z ≡ pos 0 = floor_unique q z (pos 0) (record { low = omega (arith, ints); high = omega (arith, ints) }) in
        let m : modulo j z ≡ q = same ∙ ap (λ v. q -ℤ pos z *ℤ v) t ∙ omega (arith, ints) in
        let n : pos 360 *ℤ (q *ℤ pos bins +ℤ pos y) ≡ pos 360 *ℤ K = omega (arith, ints) in
        ap (λ v. wrapped_angle 270 (angle z v (pos y))) m ∙ below_limit 270 (pos 360 *ℤ (q *ℤ pos bins +ℤ pos y)) (z * bins) (omega (arith, ints)) ∙ ap fraction n

pub is_latitude-at_step : (z : ℕ) (K : ℤ) → IsQuarter z K → is_latitude (at_step z K) ≡ true
is_latitude-at_step z K quarter =
    let c : unsigned_abs (pos 360 *ℤ K) ≤ 90 * (z * bins) = omega (arith, ints) in
    grind (arith, nat_tests)

pub within-at_step : (z : ℕ) (K : ℤ) (a : Degrees) → IsNearest z a K → IsWithinHalfBin z (at_step z K) a
within-at_step z K a h =
    let X = unsigned_abs (pos 360 *ℤ K *ℤ pos a.den -ℤ a.num *ℤ pos (z * bins)) in
    let l = ap (λ v. v * a.den) (product_is (pos 360) K).0 in
    let m = ap (λ v. v * a.den) (product_is (pos 360) K).1 in
    let c : 2 * X ≤ 360 * a.den = omega (arith, ints) in
    let e = mul-le-mul_left (z * bins) c in
    omega arith

-- a latitude is at most a quarter of the circle, and so is its nearest bin, since a quarter is a whole number of bins
pub quarter-nearest : (z : ℕ) (K : ℤ) (a : Degrees) → 0 < a.den → unsigned_abs a.num ≤ 90 * a.den → IsNearest z a K → IsQuarter z K
quarter-nearest z K a some range h =
    let d : up a.num ≤ down a.num + 90 * a.den = omega (arith, ints) in
    let u : down a.num ≤ up a.num + 90 * a.den = omega (arith, ints) in
    let zd = mul-le-mul_left z d in
    let zu = mul-le-mul_left z u in
    let e : 180 * a.den * (4 * up K) ≤ 180 * a.den * (4 * down K + z * bins + 2) = omega arith in
    let f : 180 * a.den * (4 * down K) ≤ 180 * a.den * (4 * up K + z * bins + 2) = omega arith in
    let den : 0 < 180 * a.den = omega arith in
    let e' = le_of_mul-le-mul_left e den in
    let f' = le_of_mul-le-mul_left f den in
    record { low = omega arith; high = omega arith }

-- t turns less on both sides
pub same_difference : (D : ℕ) (n t : ℤ) (a : Degrees)
    → (n -ℤ pos (360 * D) *ℤ t) *ℤ pos a.den -ℤ (a.num +ℤ pos (360 * a.den) *ℤ neg_ℤ t) *ℤ pos D
    ≡ n *ℤ pos a.den -ℤ a.num *ℤ pos D
same_difference D n t a =
    let L = n -ℤ pos (360 * D) *ℤ t in
    let R = a.num +ℤ pos (360 * a.den) *ℤ neg_ℤ t in
    let l : up L + 360 * D * up t + down n ≡ down L + 360 * D * down t + up n = omega (arith, ints) in
    let tt' = neg_is t in
    let s = ap (λ v. a.den * v) tt'.0 in
    let u = ap (λ v. a.den * v) tt'.1 in
    let r : up R + 360 * a.den * up t + down a.num ≡ down R + 360 * a.den * down t + up a.num = omega (arith, ints) in
    let ld = ap (λ v. v * a.den) l in
    let rz = ap (λ v. v * D) r in
    omega (arith, ints)

within-turned : (z : ℕ) (K t : ℤ) (a : Degrees) → IsNearest z a K
    → IsWithinHalfBinRound z (record { num = pos 360 *ℤ K -ℤ pos (360 * (z * bins)) *ℤ t; den = z * bins }) a
within-turned z K t a h =
    let w = within-at_step z K a h in
    let e = ap unsigned_abs (same_difference (z * bins) (pos 360 *ℤ K) t a) in
    (neg_ℤ t, subst (λ v. 2 ^ 18 * z * v ≤ 360 * (z * bins * a.den)) (sym e) w)

-- up to whole turns, the bins decode in a grid of z zones to the point, rounded to the nearest bin
pub longitude-decoded_angle : (z x : ℕ) (m p K : ℤ) (a : Degrees) → 0 < z → IsNearest z a K → IsSent K p x → modulo m z ≡ modulo p z
    → IsWithinHalfBinRound z (decoded_angle 180 z m x) a
unfolding decoded_angle
longitude-decoded_angle z x m p K a some h s same =
    subst (λ v. IsWithinHalfBinRound z (wrapped_angle 180 (angle z v (pos x))) a) (sym same) (by (int_le (pos (180 * (z * bins))) n))
  where
    f : ℤ
    f = floor p z

    n : ℤ
    n = pos 360 *ℤ ((p -ℤ pos z *ℤ f) *ℤ pos bins +ℤ pos x)

    fraction : ℤ → Degrees
    fraction v = record { num = v; den = z * bins }

    stays : n ≡ pos 360 *ℤ K -ℤ pos (360 * (z * bins)) *ℤ f
    stays = omega (arith, ints)

    turns : n -ℤ pos (360 * (z * bins)) ≡ pos 360 *ℤ K -ℤ pos (360 * (z * bins)) *ℤ (f +ℤ pos 1)
    turns = let e = *ℤ-+ℤ (pos (360 * (z * bins))) f (pos 1) in omega (arith, ints, stays)

    by : (t : Bool) → IsWithinHalfBinRound z (let g : Degrees = cond t (fraction (n -ℤ pos (360 * (z * bins)))) (fraction n) in g) a
    by true = subst (λ v. IsWithinHalfBinRound z (fraction v) a) (sym turns) (within-turned z K (f +ℤ pos 1) a h)
    by false = subst (λ v. IsWithinHalfBinRound z (fraction v) a) (sym stays) (within-turned z K f a h)
