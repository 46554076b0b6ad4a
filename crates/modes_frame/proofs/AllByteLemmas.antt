-- A test of every number of w bits.
use Rattle.std.proofs.Common.{◌≡◌, ℕ, zero, suc, ◌+◌, ◌*◌, ◌/◌, ◌^◌, ◌<◌, ◌&&◌, Bool, true, false, refl, ap, ◌∙◌, inl, inr, ◌⊎◌, arith}

unfoldable pub all_of_width : ℕ → (ℕ → Bool) → Bool
all_of_width zero p = p 0
all_of_width (suc w) p = all_of_width w (λ n. p (2 * n)) && all_of_width w (λ n. p (2 * n + 1))

and_first : (a b : Bool) → (a && b) ≡ true → a ≡ true
and_first true b e = refl
and_first false b e = e

and_second : (a b : Bool) → (a && b) ≡ true → b ≡ true
and_second true b e = e
and_second false b e = cc

even_or_odd : (n : ℕ) → (n ≡ 2 * (n / 2)) ⊎ (n ≡ 2 * (n / 2) + 1)
even_or_odd n = grind arith

pub all_of_width-at : (w : ℕ) (p : ℕ → Bool) → all_of_width w p ≡ true → (n : ℕ) → n < 2 ^ w → p n ≡ true
unfolding all_of_width
all_of_width-at zero p e n h = let z : n ≡ 0 = omega arith in ap p z ∙ e
all_of_width-at (suc w) p e n h =
    let half : n / 2 < 2 ^ w = omega arith in
    let even = all_of_width w (λ n. p (2 * n)) in
    let odd = all_of_width w (λ n. p (2 * n + 1)) in
    elim (even_or_odd n) [
      | inl is ↦ ap p is ∙ all_of_width-at w (λ n. p (2 * n)) (and_first even odd e) (n / 2) half
      | inr is ↦ ap p is ∙ all_of_width-at w (λ n. p (2 * n + 1)) (and_second even odd e) (n / 2) half
    ]
