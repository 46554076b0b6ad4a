-- What the code computes to bring an angle nearest to a reference, and its bounds.
use Rattle.std.proofs.Common.{◌≡◌, ℕ, ◌*◌, ◌^◌, ◌<◌, ◌≤◌, ℤ, pos, ◌+ℤ◌, ◌-ℤ◌, ◌*ℤ◌, ◌≤ℤ◌, ◌<ℤ◌, ap, ◌∙◌, sym, subst, arith, unsigned_abs, w32, w64, FitsSigned, to_z, of_z}
use Rattle.std.proofs.lemmas.Int.{ints, to_z-of_z, to_z_pos, fits_signed_from_abs, unsigned_abs-mul}
use Rattle.std.proofs.lemmas.Nat.{mul-le}
use Rattle.modes_cpr.proofs.Common.{Degrees, floor}
use Rattle.modes_cpr.proofs.FloorLemmas.{floor_is}
use Rattle.modes_cpr.proofs.SurfaceCommon.{reference_angle, quarters_to}

pub product_bound : (coordinate : ℤ) (den : ℕ) → FitsSigned w32 coordinate → den < 2 ^ 25 → unsigned_abs (coordinate *ℤ pos den) ≤ 2 ^ 56
product_bound coordinate den small few =
    let most : unsigned_abs coordinate ≤ 2 ^ 31 = omega (arith, ints, small) in
    let m : unsigned_abs coordinate * den ≤ 2 ^ 31 * 2 ^ 25 = mul-le (unsigned_abs coordinate) den (2 ^ 31) (2 ^ 25) most (omega arith) in
    let e : unsigned_abs (coordinate *ℤ pos den) ≡ unsigned_abs coordinate * den = unsigned_abs-mul coordinate (pos den) in
    omega (arith, m, e)

-- a coordinate of a reference times a denominator, as the code computes it
pub scaled_is : (coordinate : ℤ) (den : ℕ) → FitsSigned w32 coordinate → den < 2 ^ 25
    → to_z w64 (of_z w64 (to_z w64 (of_z w64 (to_z w32 (of_z w32 coordinate))) *ℤ to_z w64 den)) ≡ coordinate *ℤ pos den
scaled_is coordinate den small few =
    let wide : FitsSigned w64 coordinate = omega (arith, ints, small) in
    let fits : FitsSigned w64 (coordinate *ℤ pos den) = fits_signed_from_abs w64 (coordinate *ℤ pos den) (omega (arith, product_bound coordinate den small few)) in
    let cast : to_z w64 (of_z w64 (to_z w32 (of_z w32 coordinate))) ≡ coordinate = ap (λ v. to_z w64 (of_z w64 v)) (to_z-of_z w32 coordinate small) ∙ to_z-of_z w64 coordinate wide in
    (λ i. to_z w64 (of_z w64 (cast i *ℤ to_z_pos w64 den (omega arith) i))) ∙ to_z-of_z w64 (coordinate *ℤ pos den) fits

-- the number whose floor counts quarters of a turn, as the code computes it
pub quarters_apart_is : (p num : ℤ) (den : ℕ) → unsigned_abs p ≤ 2 ^ 56 → unsigned_abs num < 2 ^ 39 → den < 2 ^ 25
    → to_z w64 (of_z w64 (to_z w64 (of_z w64 (to_z w64 (of_z w64 p) -ℤ to_z w64 (of_z w64 (to_z w64 (of_z w64 num) *ℤ pos 10000000)))) +ℤ to_z w64 (of_z w64 (pos 450000000 *ℤ to_z w64 den))))
    ≡ p -ℤ num *ℤ pos 10000000 +ℤ pos (45 * (den * 10000000))
quarters_apart_is p num den bound few_num few = omega (arith, ints)

module _ (coordinate : ℤ) (a : Degrees) (small : FitsSigned w32 coordinate) (some : 0 < a.den) (few : a.den < 2 ^ 25) (few_num : unsigned_abs a.num < 2 ^ 39) where
  pub few_quarters : a.den * unsigned_abs (quarters_to (reference_angle coordinate) a) < 2 ^ 40
  unfolding quarters_to
  few_quarters =
      let q = floor (coordinate *ℤ pos a.den -ℤ a.num *ℤ pos 10000000 +ℤ pos (45 * (a.den * 10000000))) (90 * (a.den * 10000000)) in
      let bound = product_bound coordinate a.den small few in
      let f = floor_is (coordinate *ℤ pos a.den -ℤ a.num *ℤ pos 10000000 +ℤ pos (45 * (a.den * 10000000))) (90 * (a.den * 10000000)) (omega arith) in
      let e : unsigned_abs (pos a.den *ℤ q) ≡ a.den * unsigned_abs q = unsigned_abs-mul (pos a.den) q in
      let low : (pos 900000000 *ℤ (pos a.den *ℤ q)) ≤ℤ (coordinate *ℤ pos a.den -ℤ a.num *ℤ pos 10000000 +ℤ pos (45 * (a.den * 10000000))) = omega (arith, ints, f.low) in
      let high : (coordinate *ℤ pos a.den -ℤ a.num *ℤ pos 10000000 +ℤ pos (45 * (a.den * 10000000))) <ℤ (pos 900000000 *ℤ (pos a.den *ℤ q) +ℤ pos (900000000 * a.den)) = omega (arith, ints, f.high) in
      omega (arith, ints, bound, low, high, e)

-- the quarters times the denominator, as the code computes it
module _ (q : ℤ) (den : ℕ) (some : 0 < den) (few : den < 2 ^ 25) (small : den * unsigned_abs q < 2 ^ 40) where
  pub turned_bound : unsigned_abs (pos den *ℤ q) < 2 ^ 40
  turned_bound = let e : unsigned_abs (pos den *ℤ q) ≡ den * unsigned_abs q = unsigned_abs-mul (pos den) q in omega (arith, e)

  factors : to_z w64 den *ℤ to_z w64 (of_z w64 q) ≡ pos den *ℤ q
  factors =
      let m : 1 * unsigned_abs q ≤ den * unsigned_abs q = mul-le 1 (unsigned_abs q) den (unsigned_abs q) (omega arith) (omega arith) in
      let narrow : FitsSigned w64 q = fits_signed_from_abs w64 q (omega (arith, m)) in
      (λ i. to_z_pos w64 den (omega arith) i *ℤ to_z-of_z w64 q narrow i)

  product : FitsSigned w64 (pos den *ℤ q)
  product = fits_signed_from_abs w64 (pos den *ℤ q) (omega (arith, turned_bound))

  pub turned_is : to_z w64 (of_z w64 (to_z w64 den *ℤ to_z w64 (of_z w64 q))) ≡ pos den *ℤ q
  turned_is = ap (λ v. to_z w64 (of_z w64 v)) factors ∙ to_z-of_z w64 (pos den *ℤ q) product

  pub turned_fits : FitsSigned w64 (to_z w64 den *ℤ to_z w64 (of_z w64 q))
  turned_fits = subst (FitsSigned w64) (sym factors) product

-- the angle with the quarters, as the code computes it
pub turned_num : (num v : ℤ) → unsigned_abs num < 2 ^ 39 → unsigned_abs v < 2 ^ 40
    → to_z w64 (of_z w64 (to_z w64 (of_z w64 num) +ℤ to_z w64 (of_z w64 (pos 90 *ℤ v)))) ≡ num +ℤ pos 90 *ℤ v
turned_num num v few small = omega (arith, ints)

pub turned_whole : (q : ℤ) (den : ℕ) → pos 90 *ℤ (pos den *ℤ q) ≡ pos (90 * den) *ℤ q
turned_whole q den = omega (arith, ints)

-- the remainder less half a turn, as the code computes it
pub unturned_num : (rest den : ℕ) → rest < 2 * (180 * den) → den < 2 ^ 32
    → to_z w64 (of_z w64 (to_z w64 rest -ℤ to_z w64 (180 * den))) ≡ pos rest -ℤ pos (180 * den)
unturned_num rest den small few = omega (arith, ints)

pub shifted_num : (num : ℤ) (den : ℕ) → unsigned_abs num < 2 ^ 60 → den < 2 ^ 32
    → to_z w64 (of_z w64 (to_z w64 (of_z w64 num) +ℤ to_z w64 (180 * den))) ≡ num +ℤ pos (180 * den)
shifted_num num den small few = omega (arith, ints)
