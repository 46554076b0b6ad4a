-- The bits of a list of bytes.
use Rattle.std.proofs.Common.{◌≡◌, ℕ, ◌+◌, ◌-◌, ◌*◌, ◌/◌, ◌%◌, ◌^◌, ◌<◌, ◌≤◌, ◌==◌, false, List, [], ◌∷◌, length, get_or, take, bit_and, refl, ap, sym, ◌∙◌, arith, zero, suc, length-take-le}
use Rattle.std.proofs.lemmas.List.Concat.{get_or-flat_map}
use Rattle.std.proofs.lemmas.Nat.Bits.{shr_and_one}
use Rattle.modes_frame.specs.Frames.{byte_bits, bits_of, bit_of}

pub length-bits_of : (bytes : List ℕ) → length (bits_of bytes) ≡ 8 * length bytes
unfolding byte_bits
length-bits_of [] = refl
length-bits_of (b ∷ bs) = omega (arith, length-bits_of bs)

length-byte_bits : (b : ℕ) → length (byte_bits b) ≡ 8
unfolding byte_bits
length-byte_bits b = refl

-- bit j of a byte, counted from 0
get_or-byte_bits : (b j : ℕ) → j < 8 → get_or (byte_bits b) j false ≡ (b / 2 ^ (7 - j) % 2 == 1)
unfolding byte_bits
get_or-byte_bits b (suc (suc (suc (suc (suc (suc (suc zero))))))) h = let e : b ≡ b / 1 = omega arith in ap (λ n. n % 2 == 1) e
get_or-byte_bits b (suc (suc (suc (suc (suc (suc (suc (suc j)))))))) h = absurd (omega (arith, h))
get_or-byte_bits b _ h = refl

-- bit n is in byte (n - 1) / 8
pub bit_of-bits_of : (bytes : List ℕ) (n : ℕ) → 1 ≤ n → n ≤ 8 * length bytes
    → bit_of n (bits_of bytes) ≡ (bit_and (get_or bytes ((n - 1) / 8) 0 / 2 ^ (7 - (n - 1) % 8)) 1 == 1)
unfolding bit_of
bit_of-bits_of bytes n first last =
    let i = (n - 1) / 8 in
    let j = (n - 1) % 8 in
    let within : i < length bytes = omega (arith, last) in
    let small : j < 8 = omega arith in
    let before : length (bits_of (take i bytes)) ≡ 8 * i = length-bits_of (take i bytes) ∙ ap (λ l. 8 * l) (length-take-le i bytes (omega arith)) in
    let place : n - 1 ≡ length (bits_of (take i bytes)) + j = omega (arith, before) in
    ap (λ k. get_or (bits_of bytes) k false) place
    ∙ get_or-flat_map byte_bits bytes i j 0 false within (omega (arith, length-byte_bits (get_or bytes i 0)))
    ∙ get_or-byte_bits (get_or bytes i 0) j small
    ∙ ap (λ v. v == 1) (sym (shr_and_one (get_or bytes i 0) (7 - j)))
