-- Whole degrees and the part after the point, by two divisions in the place of one.
use Rattle.std.proofs.Common.{◌≡◌, ℕ, ◌+◌, ◌*◌, ◌/◌, ◌%◌, ◌<◌, ap, ◌∙◌, arith}
use Rattle.std.proofs.Math.Nat.{mod-add-div', add-mul-div_right, mod-lt}
use Rattle.std.proofs.Math.Arith.{digits_div, digits_mod}
use Rattle.std.proofs.lemmas.Nat.{div_below}

module _ (m d : ℕ) (positive : 0 < d) where
  part_below : m % d * 100000 / d < 100000
  part_below = div_below (m % d * 100000) d 100000 positive (omega (arith, mod-lt m positive))

  pub whole_and_part : m * 100000 / d ≡ m / d * 100000 + m % d * 100000 / d
  whole_and_part =
      let split : m * 100000 ≡ m % d * 100000 + m / d * 100000 * d = omega (arith, ap (λ n. n * 100000) (mod-add-div' m d)) in
      let divided = add-mul-div_right (m % d * 100000) (m / d * 100000) positive in
      let joined = ap (λ n. n / d) split ∙ divided in
      omega (arith, joined)

  pub whole_is : m * 100000 / d / 100000 ≡ m / d
  whole_is = ap (λ n. n / 100000) whole_and_part ∙ digits_div (m / d) part_below

  pub part_is : m * 100000 / d % 100000 ≡ m % d * 100000 / d
  part_is = ap (λ n. n % 100000) whole_and_part ∙ digits_mod (m / d) part_below
