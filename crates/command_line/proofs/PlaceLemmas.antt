-- What the reading of a place needs.
use Rattle.std.proofs.Common.{◌≡◌, ◌≢◌, ◌≤◌, ◌^◌, ◌==◌, ℕ, suc, Bool, true, false, List, [], ◌∷◌, refl, arith, eqb-true}
use Rattle.std.specs.Str.Parse.{starts_with_minus}

-- seven digits write the most
pub ten_to : (digits : ℕ) → digits ≤ 7 → 10 ^ digits ≤ 10 ^ 7
ten_to (suc (suc (suc (suc (suc (suc (suc (suc n)))))))) few = absurd (omega (arith, few))
ten_to _ few = omega arith

other_byte : (b : Bool) (byte : ℕ) (rest : List ℕ) → (byte == 45) ≡ b → ((after : List ℕ) → byte ∷ rest ≢ 45 ∷ after) → b ≡ false
other_byte true byte rest is other = absurd (other rest (let same : byte ≡ 45 = eqb-true byte 45 is in cc))
other_byte false byte rest is other = refl

-- a text from which no minus sign can be taken begins with none
pub without_minus : (text : List ℕ) → ((rest : List ℕ) → text ≢ 45 ∷ rest) → starts_with_minus text ≡ false
without_minus [] other = refl
without_minus (byte ∷ rest) other = other_byte (byte == 45) byte rest refl other
