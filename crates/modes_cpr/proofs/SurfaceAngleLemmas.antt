-- The angle of a bin of a surface place is encoded as that bin.
use Rattle.std.proofs.Common.{◌≡◌, ℕ, ◌+◌, ◌*◌, ◌<◌, ℤ, pos, ◌+ℤ◌, ◌-ℤ◌, ◌*ℤ◌, ◌≤◌, ap, ◌∙◌, arith, unsigned_abs}
use Rattle.std.proofs.lemmas.Int.{ints}
use Rattle.std.proofs.Math.Nat.{mul-lt-mul_of_pos_left, mul-le-mul_left}
use borrow.Author.Differences.{up, down, product_is}
use Rattle.modes_cpr.proofs.Common.{floor, modulo, Degrees, bins, zone_of, sent_bin}
use Rattle.modes_cpr.proofs.SurfaceCommon.{surface_angle, decoded_near, quarters_to, without_turns, fine_bins, fine_bin_of}
use Rattle.modes_cpr.proofs.WholeNumberLemmas.{*ℤ-+ℤ, *ℤ--ℤ, times_right, times_left}
use Rattle.modes_cpr.proofs.FloorLemmas.{IsFloor, floor_is, floor_unique, modulo_shift}
use Rattle.modes_cpr.proofs.AngleLemmas.{sent_bin-small}

-- what is decoded is the angle of the same bin in some zone
pub decoded_near-angle : (r : Degrees) (z y : ℕ) (j : ℤ) → (k : ℤ) × (decoded_near r z j y ≡ surface_angle z k (pos y))
unfolding decoded_near
decoded_near-angle r z y j =
    let m = modulo j z in
    let q = quarters_to r (surface_angle z m (pos y)) in
    let e : pos 90 *ℤ (m *ℤ pos bins +ℤ pos y) +ℤ pos (90 * (z * bins)) *ℤ q ≡ pos 90 *ℤ ((m +ℤ pos z *ℤ q) *ℤ pos bins +ℤ pos y) = by m q in
    (m +ℤ pos z *ℤ q, (λ i. let f : Degrees = record { num = e i; den = z * bins } in f))
  where
    by : (m q : ℤ) → pos 90 *ℤ (m *ℤ pos bins +ℤ pos y) +ℤ pos (90 * (z * bins)) *ℤ q ≡ pos 90 *ℤ ((m +ℤ pos z *ℤ q) *ℤ pos bins +ℤ pos y)
    by m q = omega (arith, ints)

-- and so is what is left without whole turns
pub without_turns-angle : (z y : ℕ) (k : ℤ) → (h : ℤ) × (without_turns (surface_angle z k (pos y)) ≡ surface_angle z h (pos y))
unfolding without_turns
without_turns-angle z y k =
    let n = pos 90 *ℤ (k *ℤ pos bins +ℤ pos y) in
    let q = floor (n +ℤ pos (180 * (z * bins))) (2 * (180 * (z * bins))) in
    (k -ℤ pos 4 *ℤ (pos z *ℤ q), (λ i. let f : Degrees = record { num = by q i; den = z * bins } in f))
  where
    by : (q : ℤ) → pos 90 *ℤ (k *ℤ pos bins +ℤ pos y) +ℤ pos (180 * (z * bins)) -ℤ pos (2 * (180 * (z * bins))) *ℤ q -ℤ pos (180 * (z * bins)) ≡ pos 90 *ℤ ((k -ℤ pos 4 *ℤ (pos z *ℤ q)) *ℤ pos bins +ℤ pos y)
    by q = omega (arith, ints)

-- in units of 1/(2^17 z) of a zone
scaled : (z : ℕ) (k y : ℤ) → (surface_angle z k y).num *ℤ pos z ≡ pos (90 * (z * bins)) *ℤ k +ℤ pos (90 * z) *ℤ y
scaled z k y =
    let n : up (surface_angle z k y).num + 90 * bins * down k + 90 * down y ≡ down (surface_angle z k y).num + 90 * bins * up k + 90 * up y = omega (arith, ints) in
    let e = ap (λ v. v * z) n in
    let f = product_is (surface_angle z k y).num (pos z) in
    omega (arith, ints)

-- its zone of 360/z degrees has four of its zones of 90/z degrees
pub zone_of-surface_angle : (z y : ℕ) (k : ℤ) → 0 < z → y < bins → zone_of z (surface_angle z k (pos y)) ≡ floor k 4
unfolding zone_of
zone_of-surface_angle z y k some small =
    let e = scaled z k (pos y) in
    let m : z * y < z * bins = mul-lt-mul_of_pos_left small some in
    let f = floor_is k 4 (omega arith) in
    let low : 4 * up (floor k 4) + down k ≤ 4 * down (floor k 4) + up k = omega (arith, ints, f.low) in
    let high : up k + 4 * down (floor k 4) + 1 ≤ down k + 4 * up (floor k 4) + 4 = omega (arith, ints, f.high) in
    let zl = mul-le-mul_left z low in
    let zh = mul-le-mul_left z high in
    floor_unique ((surface_angle z k (pos y)).num *ℤ pos z) (360 * (z * bins)) (floor k 4) (record { low = omega (arith, ints); high = omega (arith, ints) })

bin_after_zones : (z y : ℕ) (w v : ℤ) → 0 < z → v ≡ pos (90 * (z * bins)) *ℤ w +ℤ pos (90 * z * y)
    → IsFloor (pos (2 * fine_bins) *ℤ v +ℤ pos (360 * (z * bins))) (2 * (360 * (z * bins))) (w *ℤ pos bins +ℤ pos y)
bin_after_zones z y w v some e =
    let d = *ℤ-+ℤ (pos (2 * (360 * (z * bins)))) (w *ℤ pos bins) (pos y) in
    let t = times_right (2 * (360 * (z * bins))) bins w in
    record { low = omega (arith, ints, e, d, t); high = omega (arith, ints, e, d, t) }

-- and its bin there is that bin after whole zones
pub fine_bin_of-surface_angle : (z y : ℕ) (k : ℤ) → 0 < z → y < bins → fine_bin_of z (surface_angle z k (pos y)) ≡ (k -ℤ pos 4 *ℤ floor k 4) *ℤ pos bins +ℤ pos y
unfolding fine_bin_of zone_of
fine_bin_of-surface_angle z y k some small =
    let e = scaled z k (pos y) in
    let f = floor k 4 in
    let q : floor ((surface_angle z k (pos y)).num *ℤ pos z) (360 * (z * bins)) ≡ f = zone_of-surface_angle z y k some small in
    let d = *ℤ--ℤ (pos (90 * (z * bins))) k (pos 4 *ℤ f) in
    let t = times_left (90 * (z * bins)) 4 f in
    let r : modulo ((surface_angle z k (pos y)).num *ℤ pos z) (360 * (z * bins)) ≡ pos (90 * (z * bins)) *ℤ (k -ℤ pos 4 *ℤ f) +ℤ pos (90 * z * y) = ap (λ v. (surface_angle z k (pos y)).num *ℤ pos z -ℤ pos (360 * (z * bins)) *ℤ v) q ∙ omega (arith, ints, e, d, t) in
    floor_unique _ (2 * (360 * (z * bins))) ((k -ℤ pos 4 *ℤ f) *ℤ pos bins +ℤ pos y) (bin_after_zones z y (k -ℤ pos 4 *ℤ f) _ some r)

-- whole zones aren't sent
pub sent_bin-zones : (k : ℤ) (y : ℕ) → y < bins → sent_bin (k *ℤ pos bins +ℤ pos y) ≡ y
sent_bin-zones k y small =
    let e : k *ℤ pos bins +ℤ pos y ≡ pos bins *ℤ k +ℤ pos y = omega (arith, ints) in
    ap sent_bin e ∙ ap unsigned_abs (modulo_shift (pos y) k bins (omega arith)) ∙ sent_bin-small y small
