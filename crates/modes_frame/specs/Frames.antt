-- Frames, their bits and their parity (ICAO Annex 10 Volume IV, 3.1.2.3).
use Rattle.std.specs.Prelude.{◌≡◌, ℕ, ◌+◌, ◌-◌, ◌*◌, ◌/◌, ◌%◌, ◌==◌, nat_le, nat_lt, Bool, false, List, [], ◌∷◌, ◌++◌, fold, length, take, if◌then◌else◌, bit_xor, replicate}
use Rattle.std.specs.List.{flat_map}
use Rattle.std.proofs.Common.{get_or}

-- the bits of a byte: the highest is sent first
unfoldable pub byte_bits : ℕ → List Bool
byte_bits b = (b / 128 % 2 == 1) ∷ (b / 64 % 2 == 1) ∷ (b / 32 % 2 == 1) ∷ (b / 16 % 2 == 1)
    ∷ (b / 8 % 2 == 1) ∷ (b / 4 % 2 == 1) ∷ (b / 2 % 2 == 1) ∷ (b % 2 == 1) ∷ []

-- the bits of bytes, in the order in which they are sent
abbrev pub bits_of : List ℕ → List Bool
bits_of bytes = flat_map byte_bits bytes

-- bit n, where the first is bit 1
unfoldable pub bit_of : ℕ → List Bool → Bool
bit_of n bits = get_or bits (n - 1) false

-- the rest with the next bit brought down
abbrev pub brought_down : ℕ → Bool → ℕ
brought_down rest bit = 2 * rest + (if bit then 1 else 0)

-- the number that bits write, the most significant bit first
abbrev pub number_of : List Bool → ℕ
number_of bits = fold brought_down 0 bits

-- the downlink format DF: the number in bits 1 to 5 (3.1.2.3.2.1.2)
unfoldable pub df_of : List ℕ → ℕ
df_of bytes = number_of (take 5 (bits_of bytes))

-- 56 bits with DF below 16, or 112 bits with DF 16 and above (3.1.2.3.1)
abbrev pub IsFrame : List ℕ → Type 0
IsFrame bytes = length bytes ≡ (if nat_lt (df_of bytes) 16 then 7 else 14)

-- the generator polynomial's coefficients below x^24: those of x^23 to x^12, x^10, x^3 and 1 (3.1.2.3.3.1.2)
abbrev pub generator : ℕ
generator = 0xFFF409

-- a rest, less the generator where it has x^24 in it
abbrev pub reduced_rest : ℕ → ℕ
reduced_rest n = if nat_le 16777216 n then bit_xor (n - 16777216) generator else n

-- one step of the long division: the next bit is brought down, and the generator taken away where it fits
unfoldable pub divide : ℕ → Bool → ℕ
divide rest bit = reduced_rest (brought_down rest bit)

-- what is left of bits, as a polynomial whose highest coefficient is bit 1, after division by the generator
abbrev pub remainder_of : List ℕ → ℕ
remainder_of bytes = fold divide 0 (bits_of bytes)

-- the parity of bytes: what is left of them with 24 zero bits after them (3.1.2.3.3.1.2)
unfoldable pub parity_of : List ℕ → ℕ
parity_of bytes = fold divide 0 (bits_of bytes ++ replicate 24 false)
