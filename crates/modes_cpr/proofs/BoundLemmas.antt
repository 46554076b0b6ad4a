-- Bounds of what the code computes.
use Rattle.std.proofs.Common.{◌≡◌, ℕ, ◌+◌, ◌-◌, ◌*◌, ◌^◌, ◌<◌, ◌≤◌, ℤ, pos, neg_ℤ, ◌+ℤ◌, ◌-ℤ◌, ◌*ℤ◌, ap, ◌∙◌, arith, unsigned_abs, w64, FitsSigned, to_z, of_z}
use Rattle.std.proofs.lemmas.Int.{ints, to_z-of_z, to_z_pos, fits_signed_mul}
use Rattle.std.proofs.lemmas.Nat.{mul-le}
use Rattle.std.proofs.Math.Nat.{mul-le-mul_left}
use borrow.Author.Differences.{up, down, neg_is}
use Rattle.modes_cpr.proofs.Common.{Degrees, zone_of}
use Rattle.modes_cpr.proofs.WholeNumberLemmas.{at_most_by}
use Rattle.modes_cpr.proofs.FloorLemmas.{floor_is}

-- num z, as the code computes it
pub product_is : (num : ℤ) (den z : ℕ) → FitsSigned w64 num → den < 2 ^ 32 → z ≤ 60 → unsigned_abs num ≤ 360 * den
    → to_z w64 (of_z w64 (to_z w64 (of_z w64 num) *ℤ to_z w64 z)) ≡ num *ℤ pos z
product_is num den z fits small few turn =
    let wide : FitsSigned w64 (num *ℤ pos z) = fits_signed_mul w64 num (pos z) (360 * den) 60 turn few (omega arith) in
    (λ i. to_z w64 (of_z w64 (to_z-of_z w64 num fits i *ℤ to_z_pos w64 z (omega arith) i))) ∙ to_z-of_z w64 (num *ℤ pos z) wide

-- a product of two small naturals, as the code computes it
small_product : (a b : ℕ) → a < 2 ^ 32 → b < 256 → to_z w64 (of_z w64 (to_z w64 a *ℤ to_z w64 b)) ≡ pos (a * b)
small_product a b p q =
    let m : a * b ≤ 2 ^ 32 * 256 = mul-le a b (2 ^ 32) 256 (omega arith) (omega arith) in
    (λ i. to_z w64 (of_z w64 (to_z_pos w64 a (omega arith) i *ℤ to_z_pos w64 b (omega arith) i))) ∙ to_z_pos w64 (a * b) (omega arith)

-- the number whose floor is the index of a zone, as the code computes it
pub apart_is : (even odd z : ℕ) → even < 2 ^ 32 → odd < 2 ^ 32 → z < 256
    → to_z w64 (of_z w64 (to_z w64 (of_z w64 (to_z w64 (of_z w64 (to_z w64 even *ℤ to_z w64 (z - 1))) -ℤ to_z w64 (of_z w64 (to_z w64 odd *ℤ to_z w64 z)))) +ℤ pos 65536))
    ≡ pos (even * (z - 1)) -ℤ pos (odd * z) +ℤ pos 65536
apart_is even odd z p q few =
    let m : even * (z - 1) ≤ 2 ^ 32 * 256 = mul-le even (z - 1) (2 ^ 32) 256 (omega arith) (omega arith) in
    let n : odd * z ≤ 2 ^ 32 * 256 = mul-le odd z (2 ^ 32) 256 (omega arith) (omega arith) in
    (λ i. to_z w64 (of_z w64 (to_z w64 (of_z w64 (small_product even (z - 1) p (omega arith) i -ℤ small_product odd z q few i)) +ℤ pos 65536)))
    ∙ omega (arith, ints)

-- an angle within a turn is in one of the zones from -z to z
pub zone_bound : (z : ℕ) (a : Degrees) → 0 < a.den → unsigned_abs a.num ≤ 360 * a.den → unsigned_abs (zone_of z a) ≤ z
unfolding zone_of
zone_bound z a some turn =
    let f = floor_is (a.num *ℤ pos z) (360 * a.den) (omega arith) in
    let over : up a.num ≤ down a.num + 360 * a.den = omega (arith, ints) in
    let under : down a.num ≤ up a.num + 360 * a.den = omega (arith, ints) in
    let o = mul-le-mul_left z over in
    let u = mul-le-mul_left z under in
    let n0 = ap (λ v. 360 * a.den * v) (neg_is (pos z)).0 in
    let n1 = ap (λ v. 360 * a.den * v) (neg_is (pos z)).1 in
    let high = at_most_by (360 * a.den) (zone_of z a) (pos z) (omega (arith, ints)) in
    let low = at_most_by (360 * a.den) (neg_ℤ (pos z)) (zone_of z a) (omega (arith, ints)) in
    omega (arith, ints)
