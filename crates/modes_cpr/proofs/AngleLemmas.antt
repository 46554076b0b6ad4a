-- The angle of a bin is encoded as that bin.
use Rattle.std.proofs.Common.{◌≡◌, ℕ, ◌+◌, ◌*◌, ◌<◌, ℤ, pos, ◌+ℤ◌, ◌-ℤ◌, ◌*ℤ◌, ap, ◌∙◌, refl, arith, unsigned_abs, Bool, true, false, cond, int_le}
use Rattle.std.proofs.lemmas.Int.{ints}
use Rattle.std.proofs.Math.Nat.{mul-lt-mul_of_pos_left}
use borrow.Author.Differences.{up, down, product_is}
use Rattle.modes_cpr.proofs.Common.{floor, modulo, Degrees, bins, angle, decoded_angle, zone_of, bin_of, sent_bin}
use Rattle.modes_cpr.proofs.FloorLemmas.{floor_unique}

-- in units of 1/(2^17 z) of a zone
scaled : (z : ℕ) (k y : ℤ) → (angle z k y).num *ℤ pos z ≡ pos (360 * (z * bins)) *ℤ k +ℤ pos (360 * z) *ℤ y
scaled z k y =
    let n : up (angle z k y).num + 360 * bins * down k + 360 * down y ≡ down (angle z k y).num + 360 * bins * up k + 360 * up y = omega (arith, ints) in
    let e = ap (λ v. v * z) n in
    let f = product_is (angle z k y).num (pos z) in
    omega (arith, ints)

pub zone_of-angle : (z y : ℕ) (k : ℤ) → 0 < z → y < bins → zone_of z (angle z k (pos y)) ≡ k
unfolding zone_of
zone_of-angle z y k some small =
    let e = scaled z k (pos y) in
    let m : z * y < z * bins = mul-lt-mul_of_pos_left small some in
    floor_unique ((angle z k (pos y)).num *ℤ pos z) (360 * (z * bins)) k (record { low = omega (arith, ints); high = omega (arith, ints) })

pub bin_of-angle : (z y : ℕ) (k : ℤ) → 0 < z → y < bins → bin_of z (angle z k (pos y)) ≡ pos y
unfolding bin_of zone_of
bin_of-angle z y k some small =
    let e = scaled z k (pos y) in
    let q : floor ((angle z k (pos y)).num *ℤ pos z) (360 * (z * bins)) ≡ k = zone_of-angle z y k some small in
    let r : modulo ((angle z k (pos y)).num *ℤ pos z) (360 * (z * bins)) ≡ pos (360 * z * y) = ap (λ v. (angle z k (pos y)).num *ℤ pos z -ℤ pos (360 * (z * bins)) *ℤ v) q ∙ omega (arith, ints) in
    floor_unique _ (2 * (360 * (z * bins))) (pos y) (record { low = omega (arith, ints); high = omega (arith, ints) })

pub sent_bin-small : (y : ℕ) → y < bins → sent_bin (pos y) ≡ y
sent_bin-small y h =
    let q : floor (pos y) bins ≡ pos 0 = floor_unique (pos y) bins (pos 0) (record { low = omega (arith, ints); high = omega (arith, ints) }) in
    ap (λ v. unsigned_abs (pos y -ℤ pos bins *ℤ v)) q ∙ omega arith

-- what is decoded is the angle of the same bin in some zone
pub decoded_angle-angle : (limit z y : ℕ) (j : ℤ) → (k : ℤ) × (decoded_angle limit z j y ≡ angle z k (pos y))
unfolding decoded_angle
decoded_angle-angle limit z y j = by (int_le (pos (limit * (z * bins))) (angle z (modulo j z) (pos y)).num)
  where
    a : Degrees
    a = angle z (modulo j z) (pos y)

    by : (t : Bool) → (k : ℤ) × ((let f : Degrees = cond t (record { num = a.num -ℤ pos (360 * a.den); den = a.den }) a in f) ≡ angle z k (pos y))
    by true =
        let e : a.num -ℤ pos (360 * a.den) ≡ (angle z (modulo j z -ℤ pos z) (pos y)).num = omega (arith, ints) in
        (modulo j z -ℤ pos z, ap (λ v. let f : Degrees = record { num = v; den = z * bins } in f) e)
    by false = (modulo j z, refl)
