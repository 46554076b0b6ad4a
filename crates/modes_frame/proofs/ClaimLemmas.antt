-- What a claim says of its address.
use Rattle.std.proofs.Common.{◌≡◌, ◌≢◌, ℕ, ◌==◌, ◌*◌, ◌+◌, ◌<◌, ◌≤◌, ◌%◌, not, Bool, true, false, List, [], ◌∷◌, Result, Ok, IfOk, length, take, drop, cond, refl, sym, subst, arith, eqb-true, slice_index}
use Rattle.modes_frame.specs.Frames.{byte_bits, df_of, number_of, remainder_of}
use Rattle.modes_frame.specs.Claims.{address_field, control_field, is_overlaid_format, is_announced_format, has_parity, is_unassigned, claim_by, claim_of}
use Rattle.modes_frame.specs.declared.claims.Claim.{Claim}
use Rattle.modes_frame.specs.declared.claims.CheckFault.{CheckFault}
use Rattle.modes_frame.proofs.AllByteLemmas.{all_of_width, all_of_width-at}
use Rattle.modes_frame.proofs.NumberLemmas.{number-three}

-- it is in the second, third and fourth byte
pub address_field-is : (a b c d : ℕ) (rest : List ℕ) → b < 256 → c < 256 → d < 256
    → address_field (a ∷ b ∷ c ∷ d ∷ rest) ≡ b * 65536 + c * 256 + d
unfolding address_field byte_bits
address_field-is a b c d rest lb lc ld = number-three b c d lb lc ld

control_of_all : all_of_width 8 (λ b. number_of (take 3 (drop 5 (byte_bits b))) == b % 8) ≡ true
unfolding all_of_width byte_bits
control_of_all = refl

-- the control field is what is left of the first byte
pub control_field-is : (a : ℕ) (rest : List ℕ) → a < 256 → control_field (a ∷ rest) ≡ a % 8
unfolding control_field byte_bits
control_field-is a rest la =
    eqb-true (number_of (take 3 (drop 5 (byte_bits a)))) (a % 8)
    (all_of_width-at 8 (λ b. number_of (take 3 (drop 5 (byte_bits b))) == b % 8) control_of_all a la)

-- and of a frame
pub control_field-bytes : (bytes : List ℕ) → 1 ≤ length bytes → slice_index bytes 0 < 256 → slice_index bytes 0 % 8 ≡ control_field bytes
control_field-bytes [] few la = absurd (omega arith)
control_field-bytes (a ∷ rest) few la = sym (control_field-is a rest la)

-- ---- what is true of every claim

either : (P : Claim → Type 0) (b : Bool) (r s : Result Claim CheckFault) → (b ≡ true → IfOk r P) → (b ≡ false → IfOk s P) → IfOk (cond b r s) P
either P true r s p q = p refl
either P false r s p q = q refl

module _ (P : Claim → Type 0) (df control remainder address : ℕ)
    (of_remainder : P (record { address = remainder; overlaid = true }))
    (of_address : is_unassigned address ≡ false → P (record { address = address; overlaid = not (remainder == 0) })) where
  claim_by-holds : IfOk (claim_by df control remainder address) P
  claim_by-holds =
      either P (is_overlaid_format df) _ _ (λ _. of_remainder)
      (λ _. either P (is_announced_format df control) _ _
      (λ _. either P (has_parity df remainder) _ _ (λ _. either P (is_unassigned address) _ _ (λ _. tt) of_address) (λ _. tt))
      (λ _. tt))

abbrev pub IsAssigned : Claim → Type 0
IsAssigned c = c.overlaid ≡ false → (c.address ≢ 0) × (c.address ≢ 0xFFFFFF)

neither : (address : ℕ) → is_unassigned address ≡ false → (address ≢ 0) × (address ≢ 0xFFFFFF)
neither address h = grind arith

-- a claim that is not overlaid is of an assigned address
pub claim-assigned : (bytes : List ℕ) → IfOk (claim_of bytes) IsAssigned
unfolding claim_of
claim-assigned bytes = claim_by-holds IsAssigned (df_of bytes) (control_field bytes) (remainder_of bytes) (address_field bytes)
    (λ h. absurd (cc)) (λ e _. neither (address_field bytes) e)

-- the same, where the claim is known by an equation
pub claim-assigned-at : (bytes : List ℕ) (c : Claim) → claim_of bytes ≡ Ok c → c.overlaid ≡ false → (c.address ≢ 0) × (c.address ≢ 0xFFFFFF)
claim-assigned-at bytes c e = subst (λ r. IfOk r IsAssigned) e (claim-assigned bytes)

-- the second, third and fourth byte of a frame, and the address that they write
pub address_field-bytes : (bytes : List ℕ) → 4 ≤ length bytes → slice_index bytes 1 < 256 → slice_index bytes 2 < 256 → slice_index bytes 3 < 256
    → slice_index bytes 1 * 65536 + slice_index bytes 2 * 256 + slice_index bytes 3 ≡ address_field bytes
address_field-bytes (a ∷ b ∷ c ∷ d ∷ rest) few lb lc ld = sym (address_field-is a b c d rest lb lc ld)
address_field-bytes _ few lb lc ld = absurd (omega arith)
