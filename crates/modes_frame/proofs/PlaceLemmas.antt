-- Parity as a sum over the places of bytes.
use Rattle.std.proofs.Common.{◌≡◌, ℕ, zero, suc, ◌+◌, ◌-◌, ◌*◌, ◌^◌, ◌<◌, ◌≤◌, ◌==◌, Bool, true, false, List, [], ◌∷◌, ◌++◌, fold, length, replicate, refl, ap, sym, ◌∙◌, arith, eqb-true, subst, append-nil, get_or, take, drop, take-append-drop, length-append, bit_xor}
use Rattle.std.specs.Int.Bits.{xor_zero_r}
use Rattle.std.proofs.lemmas.List.{append_assoc, length-replicate, length-drop, replicate-append-replicate}
use Rattle.std.proofs.lemmas.List.Sums.{fold-append}
use Rattle.std.proofs.lemmas.Grind.{flat_map-append}
use Rattle.modes_frame.proofs.AllByteLemmas.{all_of_width, all_of_width-at}
use Rattle.modes_frame.proofs.BitLemmas.{length-bits_of}
use Rattle.modes_frame.proofs.NumberLemmas.{number-three}
use Rattle.modes_frame.proofs.ParityLemmas.{byte-is, divided-xor, parity-is, remainder-lt, table-at, undivided}
use Rattle.modes_frame.proofs.Common.{byte_bits, bits_of, number_of, divide, remainder_of, parity_of, TABLE, BEFORE_1, BEFORE_2, BEFORE_3, BEFORE_4, BEFORE_5, BEFORE_6, BEFORE_7, BEFORE_8, BEFORE_9, BEFORE_10}

-- ---- the first byte

-- a byte is the rest with which the division of the others begins
first-divided : (byte : ℕ) (bytes : List ℕ) → byte < 256 → parity_of (byte ∷ bytes) ≡ fold divide byte (bits_of bytes ++ replicate 24 false)
unfolding parity_of
first-divided byte bytes h =
    ap (λ bits. fold divide 0 bits) (append_assoc (byte_bits byte) (bits_of bytes) (replicate 24 false))
    ∙ fold-append divide 0 (byte_bits byte) (bits_of bytes ++ replicate 24 false)
    ∙ ap (λ n. fold divide n (bits_of bytes ++ replicate 24 false)) (byte-is byte h)

zero-bits : (n : ℕ) → bits_of (replicate n 0) ≡ replicate (8 * n) false
unfolding byte_bits
zero-bits zero = refl
zero-bits (suc n) =
    ap (λ bits. replicate 8 false ++ bits) (zero-bits n) ∙ replicate-append-replicate 8 (8 * n) false
    ∙ ap (λ m. replicate m false) (let e : 8 + 8 * n ≡ 8 * suc n = omega arith in e)

-- a byte before bytes of zeros
alone-divided : (after byte : ℕ) → byte < 256 → parity_of (byte ∷ replicate after 0) ≡ fold divide byte (replicate (8 * after + 24) false)
alone-divided after byte h =
    first-divided byte (replicate after 0) h
    ∙ ap (λ bits. fold divide byte (bits ++ replicate 24 false)) (zero-bits after)
    ∙ ap (λ bits. fold divide byte bits) (replicate-append-replicate (8 * after) 24 false)

bits-counted : (bytes : List ℕ) → length (bits_of bytes ++ replicate 24 false) ≡ 8 * length bytes + 24
bits-counted bytes =
    length-append (bits_of bytes) (replicate 24 false)
    ∙ (λ i. length-bits_of bytes i + length-replicate 24 false i)

-- the parity of bytes is that of the first, in its place, XOR that of the others
pub parity-first : (byte : ℕ) (bytes : List ℕ) → byte < 256
    → parity_of (byte ∷ bytes) ≡ bit_xor (parity_of (byte ∷ replicate (length bytes) 0)) (parity_of bytes)
unfolding parity_of
parity-first byte bytes h =
    let bits = bits_of bytes ++ replicate 24 false in
    first-divided byte bytes h
    ∙ ap (λ n. fold divide n bits) (sym (xor_zero_r byte))
    ∙ divided-xor bits byte 0 (omega arith) (omega arith)
    ∙ ap (λ n. bit_xor n (fold divide 0 bits)) (ap (λ k. fold divide byte (replicate k false)) (bits-counted bytes) ∙ sym (alone-divided (length bytes) byte h))

pub parity-none : parity_of [] ≡ 0
unfolding parity_of divide
parity-none = refl

-- ---- the last three bytes

-- they are XORed to the parity of the bytes before them
pub remainder-split : (bytes last : List ℕ) → length last ≡ 3 → remainder_of (bytes ++ last) ≡ bit_xor (parity_of bytes) (number_of (bits_of last))
remainder-split bytes last three =
    let rest = remainder_of bytes in
    let bits = bits_of last in
    let few : length bits ≡ 24 = length-bits_of last ∙ ap (λ n. 8 * n) three in
    ap (λ all. fold divide 0 all) (flat_map-append byte_bits bytes last) ∙ fold-append divide 0 (bits_of bytes) bits
    ∙ ap (λ n. fold divide n bits) (sym (xor_zero_r rest))
    ∙ divided-xor bits rest 0 (remainder-lt bytes) (omega arith)
    ∙ (λ i. bit_xor (fold divide rest (replicate (few i) false)) (undivided bits 0 (subst (λ (n : ℕ). (0 + 1) * 2 ^ n ≤ 2 ^ 24) (sym few) (omega arith)) i))
    ∙ ap (λ n. bit_xor n (number_of bits)) (sym (parity-is bytes))

pub remainder-at : (bytes : List ℕ) (n : ℕ) → length bytes ≡ n + 3 → bit_xor (parity_of (take n bytes)) (number_of (bits_of (drop n bytes))) ≡ remainder_of bytes
remainder-at bytes n count =
    let left : length bytes - n ≡ 3 = omega arith in
    sym (remainder-split (take n bytes) (drop n bytes) (length-drop n bytes ∙ left))
    ∙ ap remainder_of (take-append-drop n bytes)

-- zeros before the bytes change nothing
pub remainder-after_zeros : (n : ℕ) (bytes : List ℕ) → remainder_of (replicate n 0 ++ bytes) ≡ remainder_of bytes
unfolding byte_bits divide
remainder-after_zeros zero bytes = refl
remainder-after_zeros (suc n) bytes = remainder-after_zeros n bytes

-- the number that they write
pub number-of_three : (bytes : List ℕ) → length bytes ≡ 3 → get_or bytes 0 0 < 256 → get_or bytes 1 0 < 256 → get_or bytes 2 0 < 256
    → get_or bytes 0 0 * 65536 + get_or bytes 1 0 * 256 + get_or bytes 2 0 ≡ number_of (bits_of bytes)
number-of_three (a ∷ b ∷ c ∷ []) three la lb lc =
    sym (ap (λ bits. number_of (byte_bits a ++ (byte_bits b ++ bits))) (append-nil (byte_bits c)) ∙ number-three a b c la lb lc)
number-of_three _ three la lb lc = absurd (omega arith)

-- ---- the tables

-- the parity of each byte with n bytes of zeros after it
abbrev pub IsTable : ℕ → List ℕ → Type 0
IsTable n table = (k : ℕ) → k < 256 → get_or table k 0 ≡ parity_of (k ∷ replicate n 0)

-- each entry is that of the table `after`, with eight more zero bits
abbrev follows : List ℕ → List ℕ → Bool
follows after table = all_of_width 8 (λ k. get_or table k 0 == fold divide (get_or after k 0) (replicate 8 false))

eight-more : (n k : ℕ) → k < 256 → fold divide (parity_of (k ∷ replicate n 0)) (replicate 8 false) ≡ parity_of (k ∷ replicate (n + 1) 0)
eight-more n k h =
    ap (λ m. fold divide m (replicate 8 false)) (alone-divided n k h)
    ∙ sym (fold-append divide k (replicate (8 * n + 24) false) (replicate 8 false))
    ∙ ap (λ bits. fold divide k bits) (replicate-append-replicate (8 * n + 24) 8 false)
    ∙ ap (λ m. fold divide k (replicate m false)) (let e : 8 * n + 24 + 8 ≡ 8 * (n + 1) + 24 = omega arith in e)
    ∙ sym (alone-divided (n + 1) k h)

table-before : (n : ℕ) (after table : List ℕ) → IsTable n after → follows after table ≡ true → IsTable (n + 1) table
table-before n after table known all k h =
    eqb-true _ _ (all_of_width-at 8 (λ k. get_or table k 0 == fold divide (get_or after k 0) (replicate 8 false)) all k h)
    ∙ ap (λ m. fold divide m (replicate 8 false)) (known k h)
    ∙ eight-more n k h

table-0 : IsTable 0 TABLE
unfolding all_of_width parity_of divide byte_bits
table-0 = table-at TABLE refl

pub table-1 : IsTable 1 BEFORE_1
unfolding all_of_width divide
table-1 = table-before 0 TABLE BEFORE_1 table-0 refl

pub table-2 : IsTable 2 BEFORE_2
unfolding all_of_width divide
table-2 = table-before 1 BEFORE_1 BEFORE_2 table-1 refl

pub table-3 : IsTable 3 BEFORE_3
unfolding all_of_width divide
table-3 = table-before 2 BEFORE_2 BEFORE_3 table-2 refl

pub table-4 : IsTable 4 BEFORE_4
unfolding all_of_width divide
table-4 = table-before 3 BEFORE_3 BEFORE_4 table-3 refl

pub table-5 : IsTable 5 BEFORE_5
unfolding all_of_width divide
table-5 = table-before 4 BEFORE_4 BEFORE_5 table-4 refl

pub table-6 : IsTable 6 BEFORE_6
unfolding all_of_width divide
table-6 = table-before 5 BEFORE_5 BEFORE_6 table-5 refl

pub table-7 : IsTable 7 BEFORE_7
unfolding all_of_width divide
table-7 = table-before 6 BEFORE_6 BEFORE_7 table-6 refl

pub table-8 : IsTable 8 BEFORE_8
unfolding all_of_width divide
table-8 = table-before 7 BEFORE_7 BEFORE_8 table-7 refl

pub table-9 : IsTable 9 BEFORE_9
unfolding all_of_width divide
table-9 = table-before 8 BEFORE_8 BEFORE_9 table-8 refl

pub table-10 : IsTable 10 BEFORE_10
unfolding all_of_width divide
table-10 = table-before 9 BEFORE_9 BEFORE_10 table-9 refl
