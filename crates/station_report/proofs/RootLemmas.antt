-- The root of a number.
use Rattle.std.proofs.Common.{◌≡◌, ℕ, zero, suc, ◌+◌, ◌*◌, ◌<◌, ◌≤◌, Bool, true, false, le_antisymm, mul-le-mul, ⊎_elim, if◌then◌else◌, refl, arith, lit<, lit≤, nat_le}
use Rattle.std.proofs.lemmas.Bool.{leb-true, leb-false, cases_lt}
use Rattle.station_report.specs.Motion.{IsRoot, root}

-- n lies between the squares of s and of the number after it
record Between (n s : ℕ) : Type 0 where
  from : s * s ≤ n
  below : n < (s + 1) * (s + 1)

next : (n s : ℕ) → Between n s → (b : Bool) → nat_le ((s + 1) * (s + 1)) (suc n) ≡ b → Between (suc n) (if b then s + 1 else s)
next n s h true e = record { from = leb-true ((s + 1) * (s + 1)) (suc n) e; below = omega (arith, h.below) }
next n s h false e = record { from = omega (arith, h.from); below = leb-false ((s + 1) * (s + 1)) (suc n) e }

root_between : (n : ℕ) → Between n (root n)
unfolding root
root_between zero = record { from = lit≤ tt; below = lit< tt }
root_between (suc n) = next n (root n) (root_between n) (nat_le ((root n + 1) * (root n + 1)) (suc n)) refl

at_most : (n s r : ℕ) → n < (s + 1) * (s + 1) → r * r ≤ n → r ≤ s
at_most n s r below square =
    ⊎_elim (λ more. let squares : (s + 1) * (s + 1) ≤ r * r = mul-le-mul (omega arith) (omega arith) in absurd (omega arith)) (λ fits. fits) (cases_lt s r)

pub root_is : (n : ℕ) → IsRoot n (root n)
root_is n = let h = root_between n in record { within = h.from; greatest = λ r square. at_most n (root n) r h.below square }

-- no other number has these squares round n
pub root_of : (n s : ℕ) → s * s ≤ n → n < (s + 1) * (s + 1) → s ≡ root n
root_of n s from below =
    let h = root_between n in le_antisymm (at_most n (root n) s h.below from) (at_most n s (root n) below h.from)
