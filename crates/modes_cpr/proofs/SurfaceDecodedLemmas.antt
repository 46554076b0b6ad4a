-- The bins that are sent for a point near a reference decode to the point, rounded to the nearest bin.
use Rattle.std.proofs.Common.{◌≡◌, ℕ, ◌+◌, ◌*◌, ◌^◌, ◌<◌, ◌≤◌, ℤ, pos, neg_ℤ, ◌+ℤ◌, ◌-ℤ◌, ◌*ℤ◌, ap, ◌∙◌, sym, subst, arith, unsigned_abs, true}
use Rattle.std.proofs.lemmas.Int.{ints}
use Rattle.std.proofs.lemmas.Bool.Decides.{nat_tests}
use Rattle.std.proofs.Math.Nat.{mul-le-mul_left, le_of_mul-le-mul_left}
use borrow.Author.Differences.{up, down, product_is}
use Rattle.modes_cpr.proofs.Common.{floor, modulo, Degrees, bins, is_latitude}
use Rattle.modes_cpr.proofs.SurfaceCommon.{surface_angle, nearest_to, quarters_to, decoded_near, without_turns, IsWithin44, IsWithinHalfSurfaceBin, IsWithinHalfSurfaceBinRound}
use Rattle.modes_cpr.proofs.WholeNumberLemmas.{*ℤ-+ℤ, *ℤ--ℤ, times_left}
use Rattle.modes_cpr.proofs.FloorLemmas.{floor_unique}
use Rattle.modes_cpr.proofs.BinLemmas.{IsNearest, IsSent}
use Rattle.modes_cpr.proofs.DecodedLemmas.{same_difference}
use Rattle.modes_cpr.proofs.SurfacePlaceLemmas.{four, IsQuarterTurn}

-- K bins from 0 in a surface grid of z zones
abbrev pub at_surface_step : ℕ → ℤ → Degrees
at_surface_step z K = record { num = pos 90 *ℤ K; den = z * bins }

-- which is less than 45 degrees from r
pub record IsNearStep (r : Degrees) (z : ℕ) (K : ℤ) : Type 0 where
  pub low : 90 * (r.den * down K) + z * bins * up r.num < 90 * (r.den * up K) + z * bins * down r.num + 45 * (z * bins * r.den)
  pub high : 90 * (r.den * up K) + z * bins * down r.num < 90 * (r.den * down K) + z * bins * up r.num + 45 * (z * bins * r.den)

-- whole quarters less are added again
quarters-shifted : (r : Degrees) (z : ℕ) (K h : ℤ) → IsNearStep r z K
    → quarters_to r (record { num = pos 90 *ℤ K -ℤ pos (90 * (z * bins)) *ℤ h; den = z * bins }) ≡ h
unfolding quarters_to
quarters-shifted r z K h near =
    let D = z * bins in
    let N = pos 90 *ℤ K -ℤ pos (90 * D) *ℤ h in
    let d = *ℤ--ℤ (pos r.den) (pos 90 *ℤ K) (pos (90 * D) *ℤ h) in
    let t = times_left r.den (90 * D) h in
    let u = times_left r.den 90 K in
    let n : N *ℤ pos r.den ≡ pos (r.den * 90) *ℤ K -ℤ pos (r.den * (90 * D)) *ℤ h = omega (arith, ints, d, t, u) in
    floor_unique (r.num *ℤ pos D -ℤ N *ℤ pos r.den +ℤ pos (45 * (D * r.den))) (90 * (D * r.den)) h (record {
      low = omega (arith, ints, n, near.low, near.high);
      high = omega (arith, ints, n, near.low, near.high);
    })

-- by its bins, and a zone that is right up to whole quarters
pub near-decoded : (r : Degrees) (z x : ℕ) (m p K g : ℤ) → IsSent K p x → modulo m z ≡ modulo p z → IsNearStep r z (K +ℤ pos (z * bins) *ℤ g)
    → decoded_near r z m x ≡ at_surface_step z (K +ℤ pos (z * bins) *ℤ g)
unfolding decoded_near
near-decoded r z x m p K g s same near =
    ap (λ v. nearest_to r (surface_angle z v (pos x))) same
    ∙ ap (λ v. nearest_to r (fraction v)) start
    ∙ (λ i. fraction (end i))
  where
    D : ℕ
    D = z * bins

    fraction : ℤ → Degrees
    fraction v = record { num = v; den = D }

    f : ℤ
    f = floor p z

    K' : ℤ
    K' = K +ℤ pos D *ℤ g

    start : pos 90 *ℤ ((p -ℤ pos z *ℤ f) *ℤ pos bins +ℤ pos x) ≡ pos 90 *ℤ K' -ℤ pos (90 * D) *ℤ (f +ℤ g)
    start =
        let e = *ℤ-+ℤ (pos (90 * D)) f g in
        omega (arith, ints, e, s.up_is)

    end : pos 90 *ℤ K' -ℤ pos (90 * D) *ℤ (f +ℤ g) +ℤ pos (90 * D) *ℤ quarters_to r (fraction (pos 90 *ℤ K' -ℤ pos (90 * D) *ℤ (f +ℤ g))) ≡ pos 90 *ℤ K'
    end = ap (λ v. pos 90 *ℤ K' -ℤ pos (90 * D) *ℤ (f +ℤ g) +ℤ pos (90 * D) *ℤ v) (quarters-shifted r z K' (f +ℤ g) near) ∙ omega (arith, ints)

pub is_latitude-at_surface_step : (z : ℕ) (K : ℤ) → IsQuarterTurn z K → is_latitude (at_surface_step z K) ≡ true
is_latitude-at_surface_step z K quarter =
    let c : unsigned_abs (pos 90 *ℤ K) ≤ 90 * (z * bins) = omega (arith, ints, quarter.low, quarter.high) in
    grind (arith, nat_tests)

-- K is the nearest whole number of bins to a, by inequalities of naturals
pub record IsClose (z : ℕ) (a : Degrees) (K : ℤ) : Type 0 where
  pub low : 90 * (a.den * up K) + z * bins * down a.num ≤ 90 * (a.den * down K) + z * bins * up a.num + 45 * a.den
  pub high : 90 * (a.den * down K) + z * bins * up a.num ≤ 90 * (a.den * up K) + z * bins * down a.num + 45 * a.den

pub close : (z : ℕ) (a : Degrees) (K : ℤ) → IsNearest z (four a) K → IsClose z a K
close z a K h =
    let n = ap (λ v. v * z) (product_is (pos 4) a.num).0 in
    let m = ap (λ v. v * z) (product_is (pos 4) a.num).1 in
    record { low = omega (arith, ints, n, m, h.low); high = omega (arith, ints, n, m, h.high) }

pub within-at_surface_step : (z : ℕ) (K : ℤ) (a : Degrees) → IsClose z a K → IsWithinHalfSurfaceBin z (at_surface_step z K) a
within-at_surface_step z K a h =
    let X = unsigned_abs (pos 90 *ℤ K *ℤ pos a.den -ℤ a.num *ℤ pos (z * bins)) in
    let l = ap (λ v. v * a.den) (product_is (pos 90) K).0 in
    let m = ap (λ v. v * a.den) (product_is (pos 90) K).1 in
    let c : 2 * X ≤ 90 * a.den = omega (arith, ints, l, m, h.low, h.high) in
    let e = mul-le-mul_left (z * bins) c in
    omega (arith, e)

-- a point at most 44 degrees from r is rounded to bins less than 45 degrees from it, as half a bin is less than one degree
pub near-step : (r : Degrees) (z : ℕ) (K : ℤ) (a : Degrees) → 0 < z → 0 < r.den → 0 < a.den → IsClose z a K → IsWithin44 a r → IsNearStep r z K
near-step r z K a band some_r some h w =
    let D = z * bins in
    let over : r.den * up a.num + a.den * down r.num ≤ r.den * down a.num + a.den * up r.num + 44 * (a.den * r.den) = omega (arith, ints, w) in
    let under : r.den * down a.num + a.den * up r.num ≤ r.den * up a.num + a.den * down r.num + 44 * (a.den * r.den) = omega (arith, ints, w) in
    let hl = mul-le-mul_left r.den h.low in
    let hh = mul-le-mul_left r.den h.high in
    let wo = mul-le-mul_left D over in
    let wu = mul-le-mul_left D under in
    let e : a.den * (90 * (r.den * up K) + D * down r.num) ≤ a.den * (90 * (r.den * down K) + D * up r.num + 45 * r.den + 44 * (D * r.den)) = omega (arith, hl, wo) in
    let f : a.den * (90 * (r.den * down K) + D * up r.num) ≤ a.den * (90 * (r.den * up K) + D * down r.num + 45 * r.den + 44 * (D * r.den)) = omega (arith, hh, wu) in
    let e' = le_of_mul-le-mul_left e some in
    let f' = le_of_mul-le-mul_left f some in
    let wide = mul-le-mul_left (r.den * bins) band in
    record { low = omega (arith, e', f', wide); high = omega (arith, e', f', wide) }

-- whole turns more are four times the grid
pub close-turned : (z : ℕ) (a : Degrees) (K t : ℤ) → IsClose z a K
    → IsClose z (record { num = a.num +ℤ pos (360 * a.den) *ℤ t; den = a.den }) (K +ℤ pos (z * bins) *ℤ (pos 4 *ℤ t))
close-turned z a K t h =
    let D = z * bins in
    let u = times_left D 4 t in
    let N = a.num +ℤ pos (360 * a.den) *ℤ t in
    let L = K +ℤ pos D *ℤ (pos 4 *ℤ t) in
    let n : up N + down a.num + 360 * a.den * down t ≡ down N + up a.num + 360 * a.den * up t = omega (arith, ints) in
    let l : up L + down K + 4 * D * down t ≡ down L + up K + 4 * D * up t = omega (arith, ints, u) in
    let n' = ap (λ v. D * v) n in
    let l' = ap (λ v. a.den * v) l in
    record { low = omega (arith, n', l', h.low, h.high); high = omega (arith, n', l', h.low, h.high) }

within-turned : (z : ℕ) (K t : ℤ) (a : Degrees) → IsClose z a K
    → IsWithinHalfSurfaceBinRound z (record { num = pos 90 *ℤ K -ℤ pos (360 * (z * bins)) *ℤ t; den = z * bins }) a
within-turned z K t a h =
    let w = within-at_surface_step z K a h in
    let e = ap unsigned_abs (same_difference (z * bins) (pos 90 *ℤ K) t a) in
    (neg_ℤ t, subst (λ v. 2 ^ 18 * z * v ≤ 90 * (z * bins * a.den)) (sym e) w)

-- up to whole turns, the bins decode in a grid of z zones to the point, rounded to the nearest bin
pub within-without_turns : (z : ℕ) (K t : ℤ) (a : Degrees) → IsClose z a K
    → IsWithinHalfSurfaceBinRound z (without_turns (at_surface_step z (K +ℤ pos (z * bins) *ℤ (pos 4 *ℤ t)))) a
unfolding without_turns
within-without_turns z K t a h =
    let D = z * bins in
    let L = K +ℤ pos D *ℤ (pos 4 *ℤ t) in
    let q = floor (pos 90 *ℤ L +ℤ pos (180 * D)) (2 * (180 * D)) in
    let fraction : ℤ → Degrees = λ v. record { num = v; den = D } in
    subst (λ v. IsWithinHalfSurfaceBinRound z (fraction v) a) (sym (turns q)) (within-turned z K (q -ℤ t) a h)
  where
    turns : (q : ℤ) → pos 90 *ℤ (K +ℤ pos (z * bins) *ℤ (pos 4 *ℤ t)) +ℤ pos (180 * (z * bins)) -ℤ pos (2 * (180 * (z * bins))) *ℤ q -ℤ pos (180 * (z * bins))
        ≡ pos 90 *ℤ K -ℤ pos (360 * (z * bins)) *ℤ (q -ℤ t)
    turns q =
        let u = times_left (z * bins) 4 t in
        let d = *ℤ--ℤ (pos (360 * (z * bins))) q t in
        omega (arith, ints, u, d)
