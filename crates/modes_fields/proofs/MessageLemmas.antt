-- Words of a frame's bytes and of ME against the numbered bits.
use Rattle.std.proofs.Common.{◌≡◌, ℕ, zero, suc, ◌+◌, ◌-◌, ◌*◌, ◌/◌, ◌%◌, ◌^◌, ◌<◌, ◌≤◌, ◌==◌, Bool, true, false, List, [], ◌∷◌, ◌++◌, length, take, drop, get_or, bit_and, if◌then◌else◌, refl, ap, sym, subst, ◌∙◌, arith, length-drop}
use Rattle.std.proofs.lemmas.List.{length-take-le, drop-take, take-take}
use Rattle.std.proofs.lemmas.Nat.{and_mask, one_shl}
use Rattle.std.proofs.lemmas.Nat.Bits.{shr_and_one}
use Rattle.modes_frame.specs.Frames.{byte_bits, bits_of, bit_of}
use Rattle.modes_fields.specs.Bits.{number, field, code_bits, me_of}
use Rattle.modes_frame.proofs.BitLemmas.{length-bits_of}
use Rattle.modes_fields.proofs.NumberLemmas.{number-lt, field-part, field_of_code, code_bits-number}

-- ---- the bits of some of the bytes

pub drop-bits_of : (k : ℕ) (bytes : List ℕ) → drop (8 * k) (bits_of bytes) ≡ bits_of (drop k bytes)
unfolding byte_bits
drop-bits_of zero bytes = refl
drop-bits_of (suc k) [] =
    let more : 8 * suc k ≡ suc (7 + 8 * k) = omega arith in
    ap (λ n. drop n (bits_of [])) more
drop-bits_of (suc k) (b ∷ bs) =
    let more : 8 * suc k ≡ suc (suc (suc (suc (suc (suc (suc (suc (8 * k)))))))) = omega arith in
    ap (λ n. drop n (bits_of (b ∷ bs))) more ∙ drop-bits_of k bs

pub take-bits_of : (k : ℕ) (bytes : List ℕ) → take (8 * k) (bits_of bytes) ≡ bits_of (take k bytes)
unfolding byte_bits
take-bits_of zero bytes = refl
take-bits_of (suc k) [] =
    let more : 8 * suc k ≡ suc (7 + 8 * k) = omega arith in
    ap (λ n. take n (bits_of [])) more
take-bits_of (suc k) (b ∷ bs) =
    let more : 8 * suc k ≡ suc (suc (suc (suc (suc (suc (suc (suc (8 * k)))))))) = omega arith in
    ap (λ n. take n (bits_of (b ∷ bs))) more ∙ ap (λ l. byte_bits b ++ l) (take-bits_of k bs)

-- ---- bits 20 to 32

pub code13_by_word : (frame : List ℕ) (word : ℕ) → 4 ≤ length frame → word ≡ number (bits_of (take 4 frame))
    → bit_and word 8191 ≡ field 20 32 (bits_of frame)
unfolding field
code13_by_word frame word long is =
    let front = bits_of (take 4 frame) in
    let front_is : front ≡ take 32 (bits_of frame) = sym (take-bits_of 4 frame) in
    let front_len : length front ≡ 32 = length-bits_of (take 4 frame) ∙ ap (λ n. 8 * n) (length-take-le 4 frame long) in
    let whole : number front / 1 ≡ number front = omega arith in
    and_mask word 13
    ∙ ap (λ n. n % 8192) is
    ∙ sym (ap (λ n. n % 8192) whole)
    ∙ sym (ap (λ n. number front / 2 ^ (n - 32) % 8192) front_len)
    ∙ sym (field-part front 20 32 (omega arith) (omega arith) (omega (arith, front_len)))
    ∙ ap (λ l. number (take 13 (drop 19 l))) front_is
    ∙ ap (λ l. number (take 13 l)) (drop-take 19 13 (bits_of frame))
    ∙ ap number (take-take 13 13 (drop 19 (bits_of frame)) (omega arith))

-- ---- ME

me_bytes : List ℕ → List ℕ
me_bytes frame = take 7 (drop 4 frame)

bits_of-me_bytes : (frame : List ℕ) → bits_of (me_bytes frame) ≡ me_of frame
unfolding me_of me_bytes
bits_of-me_bytes frame = sym (take-bits_of 7 (drop 4 frame)) ∙ ap (λ l. take 56 l) (sym (drop-bits_of 4 frame))

length-bits_of-me_bytes : (frame : List ℕ) → length frame ≡ 14 → length (bits_of (me_bytes frame)) ≡ 56
unfolding me_bytes
length-bits_of-me_bytes frame long =
    let rest_long : 7 ≤ length (drop 4 frame) = omega (arith, length-drop 4 frame, long) in
    length-bits_of (take 7 (drop 4 frame)) ∙ ap (λ n. 8 * n) (length-take-le 7 (drop 4 frame) rest_long)

pub me_word-lt : (frame : List ℕ) (word : ℕ) → length frame ≡ 14 → word ≡ number (bits_of (take 7 (drop 4 frame))) → word < 2 ^ 56
unfolding me_bytes
me_word-lt frame word long is =
    let P : ℕ → Type 0 = λ n. number (bits_of (me_bytes frame)) < 2 ^ n in
    let below : number (bits_of (me_bytes frame)) < 2 ^ 56 = subst P (length-bits_of-me_bytes frame long) (number-lt (bits_of (me_bytes frame))) in
    let Q : ℕ → Type 0 = λ n. n < 2 ^ 56 in
    subst Q (sym is) below

pub me_by_word : (frame : List ℕ) (word : ℕ) → length frame ≡ 14 → word ≡ number (bits_of (take 7 (drop 4 frame))) → code_bits 56 word ≡ me_of frame
unfolding me_bytes
me_by_word frame word long is =
    ap (λ n. code_bits 56 n) is
    ∙ ap (λ w. code_bits w (number (bits_of (me_bytes frame)))) (sym (length-bits_of-me_bytes frame long))
    ∙ code_bits-number (bits_of (me_bytes frame))
    ∙ bits_of-me_bytes frame

-- ---- parts of ME

pub me_field_by_word : (word first last : ℕ) → word < 2 ^ 56 → 1 ≤ first → first ≤ last → last ≤ 56
    → bit_and (word / 2 ^ (56 - last)) (1 * 2 ^ (last + 1 - first) % 2 ^ 64 - 1) ≡ field first last (code_bits 56 word)
me_field_by_word word first last small some order within =
    let width = last + 1 - first in
    ap (λ m. bit_and (word / 2 ^ (56 - last)) (m - 1)) (one_shl width 64 (omega arith))
    ∙ and_mask (word / 2 ^ (56 - last)) width
    ∙ sym (field_of_code 56 word first last small some order within)

pub get_or-code_bits : (w code k : ℕ) → k < w → get_or (code_bits w code) k false ≡ (code / 2 ^ (w - 1 - k) % 2 == 1)
unfolding code_bits
get_or-code_bits zero code k h = absurd (omega (arith, h))
get_or-code_bits (suc w) code zero h =
    let place : w ≡ suc w - 1 - zero = omega arith in
    ap (λ n. code / 2 ^ n % 2 == 1) place
get_or-code_bits (suc w) code (suc k) h =
    let place : w - 1 - k ≡ suc w - 1 - suc k = omega arith in
    get_or-code_bits w code k (omega (arith, h)) ∙ ap (λ n. code / 2 ^ n % 2 == 1) place

pub me_bit_by_word : (word n : ℕ) → 1 ≤ n → n ≤ 56 → (bit_and (word / 2 ^ (56 - n)) 1 == 1) ≡ bit_of n (code_bits 56 word)
unfolding bit_of
me_bit_by_word word n some within =
    let place : 56 - 1 - (n - 1) ≡ 56 - n = omega (arith, some, within) in
    ap (λ v. v == 1) (shr_and_one word (56 - n))
    ∙ ap (λ k. word / 2 ^ k % 2 == 1) (sym place)
    ∙ sym (get_or-code_bits 56 word (n - 1) (omega (arith, some, within)))

-- ---- codes of 13 bits

bit_worth : (x : ℕ) → x < 2 → x ≡ (if x == 1 then 1 else 0)
bit_worth zero h = refl
bit_worth (suc zero) h = refl
bit_worth (suc (suc x)) h = absurd (omega (arith, h))

pub code_bit_by_word : (code n : ℕ) → 1 ≤ n → n ≤ 13 → bit_and (code / 2 ^ (13 - n)) 1 ≡ (if bit_of n (code_bits 13 code) then 1 else 0)
unfolding bit_of
code_bit_by_word code n some within =
    let place : 13 - 1 - (n - 1) ≡ 13 - n = omega (arith, some, within) in
    let bit_is : (code / 2 ^ (13 - n) % 2 == 1) ≡ get_or (code_bits 13 code) (n - 1) false =
    ap (λ k. code / 2 ^ k % 2 == 1) (sym place) ∙ sym (get_or-code_bits 13 code (n - 1) (omega (arith, some, within))) in
    shr_and_one code (13 - n)
    ∙ bit_worth (code / 2 ^ (13 - n) % 2) (omega arith)
    ∙ ap (λ (b : Bool). if b then 1 else 0) bit_is

pub octal_by_bits : (four two one : Bool) → 4 * (if four then 1 else 0) + 2 * (if two then 1 else 0) + (if one then 1 else 0) ≡ number (four ∷ two ∷ one ∷ [])
unfolding number
octal_by_bits true true true = refl
octal_by_bits true true false = refl
octal_by_bits true false true = refl
octal_by_bits true false false = refl
octal_by_bits false true true = refl
octal_by_bits false true false = refl
octal_by_bits false false true = refl
octal_by_bits false false false = refl
