-- The number that bits write.
use Rattle.std.proofs.Common.{◌≡◌, ℕ, suc, ◌+◌, ◌*◌, ◌^◌, ◌<◌, ◌==◌, Bool, true, false, List, [], ◌∷◌, ◌++◌, fold, length, refl, ap, sym, ◌∙◌, arith, eqb-true}
use Rattle.std.proofs.Math.Nat.{two-pow-succ}
use Rattle.std.proofs.lemmas.List.Sums.{fold-append}
use Rattle.modes_frame.specs.Frames.{byte_bits, brought_down, number_of}
use Rattle.modes_frame.proofs.AllByteLemmas.{all_of_width, all_of_width-at}

pub length-byte_bits : (b : ℕ) → length (byte_bits b) ≡ 8
unfolding byte_bits
length-byte_bits b = refl

doubled : (l n : ℕ) → (2 * l + 0) * 2 ^ n ≡ l * 2 ^ suc n
doubled l n = let p = two-pow-succ n in grind arith

doubled_more : (l n rest : ℕ) → (2 * l + 1) * 2 ^ n + rest ≡ l * 2 ^ suc n + (1 * 2 ^ n + rest)
doubled_more l n rest = let p = two-pow-succ n in grind arith

-- the number of more bits, after a number
pub number-after : (bits : List Bool) (l : ℕ) → fold brought_down l bits ≡ l * 2 ^ length bits + number_of bits
number-after [] l = omega arith
number-after (true ∷ bits) l = number-after bits (2 * l + 1) ∙ doubled_more l (length bits) (number_of bits) ∙ ap (λ n. l * 2 ^ length (true ∷ bits) + n) (sym (number-after bits 1))
number-after (false ∷ bits) l = number-after bits (2 * l + 0) ∙ ap (λ n. n + number_of bits) (doubled l (length bits))

number-byte_all : all_of_width 8 (λ b. number_of (byte_bits b) == b) ≡ true
unfolding all_of_width byte_bits
number-byte_all = refl

-- the bits of a byte write it
pub number-byte : (b : ℕ) → b < 256 → number_of (byte_bits b) ≡ b
number-byte b h = eqb-true (number_of (byte_bits b)) b (all_of_width-at 8 (λ b. number_of (byte_bits b) == b) number-byte_all b h)

-- three bytes after one another
pub number-three : (a b c : ℕ) → a < 256 → b < 256 → c < 256 → number_of (byte_bits a ++ (byte_bits b ++ byte_bits c)) ≡ a * 65536 + b * 256 + c
number-three a b c la lb lc =
    fold-append brought_down 0 (byte_bits a) (byte_bits b ++ byte_bits c)
    ∙ fold-append brought_down (number_of (byte_bits a)) (byte_bits b) (byte_bits c)
    ∙ ap (λ n. fold brought_down (fold brought_down n (byte_bits b)) (byte_bits c)) (number-byte a la)
    ∙ ap (λ n. fold brought_down n (byte_bits c)) (number-after (byte_bits b) a ∙ ap (λ n. a * 2 ^ n + number_of (byte_bits b)) (length-byte_bits b) ∙ ap (λ n. a * 2 ^ 8 + n) (number-byte b lb))
    ∙ number-after (byte_bits c) (a * 2 ^ 8 + b)
    ∙ ap (λ n. (a * 2 ^ 8 + b) * 2 ^ n + number_of (byte_bits c)) (length-byte_bits c)
    ∙ ap (λ n. (a * 2 ^ 8 + b) * 2 ^ 8 + n) (number-byte c lc)
    ∙ (omega arith)
