-- What division rounded down means, by inequalities alone.
use Rattle.std.proofs.Common.{◌≡◌, ℕ, ◌<◌, ℤ, pos, negsuc, ◌+ℤ◌, ◌-ℤ◌, ◌*ℤ◌, ◌≤ℤ◌, ◌<ℤ◌, ap, ◌∙◌, arith}
use Rattle.std.proofs.lemmas.Int.{ints}
use Rattle.std.specs.Int.{int_rem_euclid}
use Rattle.modes_cpr.specs.Floor.{floor, modulo}
use Rattle.modes_cpr.proofs.WholeNumberLemmas.{*ℤ-+ℤ, at_most_by}

-- b q ≤ a < b q + b
pub record IsFloor (a : ℤ) (b : ℕ) (q : ℤ) : Type 0 where
  pub low : (pos b *ℤ q) ≤ℤ a
  pub high : a <ℤ (pos b *ℤ q +ℤ pos b)

pub floor_is : (a : ℤ) (b : ℕ) → 0 < b → IsFloor a b (floor a b)
unfolding floor
floor_is (pos a) b h = record { low = omega (arith, ints); high = omega (arith, ints) }
floor_is (negsuc a) b h = record { low = omega (arith, ints); high = omega (arith, ints) }

pub floor_unique : (a : ℤ) (b : ℕ) (q : ℤ) → IsFloor a b q → floor a b ≡ q
floor_unique a b q h =
    let some : 0 < b = omega (arith, ints) in
    let f = floor_is a b some in
    let lo : floor a b ≤ℤ q = at_most_by b (floor a b) q (omega (arith, ints)) in
    let hi : q ≤ℤ floor a b = at_most_by b q (floor a b) (omega (arith, ints)) in
    omega (arith, ints)

-- multiples of b pass through the floor
pub floor_shift : (a k : ℤ) (b : ℕ) → 0 < b → floor (pos b *ℤ k +ℤ a) b ≡ k +ℤ floor a b
floor_shift a k b h =
    let f = floor_is a b h in
    let e = *ℤ-+ℤ (pos b) k (floor a b) in
    floor_unique (pos b *ℤ k +ℤ a) b (k +ℤ floor a b) (record { low = omega (arith, ints); high = omega (arith, ints) })

pub modulo_shift : (a k : ℤ) (b : ℕ) → 0 < b → modulo (pos b *ℤ k +ℤ a) b ≡ modulo a b
modulo_shift a k b h =
    let e = ap (λ q. pos b *ℤ q) (floor_shift a k b h) ∙ *ℤ-+ℤ (pos b) k (floor a b) in
    omega (arith, ints)

pub modulo_one : (v : ℤ) → modulo v 1 ≡ pos 0
modulo_one v =
    let q : floor v 1 ≡ v = floor_unique v 1 v (record { low = omega (arith, ints); high = omega (arith, ints) }) in
    ap (λ u. v -ℤ pos 1 *ℤ u) q ∙ omega (arith, ints)

-- std's remainder is a less the multiple
pub modulo_is : (a : ℤ) (b : ℕ) → 0 < b → int_rem_euclid a (pos b) ≡ modulo a b
unfolding floor
modulo_is (pos a) b h = omega (arith, ints)
modulo_is (negsuc a) b h = omega (arith, ints)
