-- Numbers in lanes: the values of digits, and the bytes of their pairs.
use Rattle.std.proofs.Common.{◌≡◌, ℕ, zero, suc, get_or, ◌/◌, ◌+◌, ◌-◌, ◌*◌, ◌%◌, ◌^◌, ◌<◌, ◌≤◌, ◌⊎◌, ◌==◌, nat_lt, Bool, true, false, cond, List, [], ◌∷◌, ◌++◌, Option, Some, None, Ok, length, take, drop, map, replicate, bit_and, bit_or, Fits, w8, arith, rules, refl, ap, ap₂, sym, ◌∙◌, subst, inl, inr, eqb-true, unwrap_or, le-ltb, lt-ltb, ltb-false}
use Rattle.std.specs.Simd.Lanes.{Each1, chunk, mask_l, sel_l, top, zip2}
use Rattle.std.proofs.lemmas.Simd.{length-chunk, tops_compared}
use Rattle.std.proofs.lemmas.Nat.{and_mask, le_or_l, le_or_r, or_shifted, shl_whole}
use Rattle.hex.specs.Hex.{decode_pairs, hex_digit_value, pair_value}
use Rattle.std.proofs.lemmas.List.{length-map, length-replicate}
use Rattle.std.proofs.Math.Seq.{drop-append_seam}
use Rattle.hex.proofs.HexLemmas.{decode_pairs-ok}
use Rattle.hex.proofs.Pairs.{cons_byte, decode_pairs-ok_pair}
use Rattle.modes_frame.specs.Frames.{IsFrame, df_of}
use Rattle.modes_frame.specs.Kept.{bytes_in, bytes_of, value_of, with_zeros}
use Rattle.modes_frame.proofs.FormatLemmas.{format-is}
use Rattle.modes_frame.proofs.AllByteLemmas.{all_of_width, all_of_width-at}

abbrev pub Small : ℕ → Type 0
Small value = value < 16

pub zero_or_one : (n : ℕ) → n ≤ 1 → (n ≡ 0) ⊎ (n ≡ 1)
zero_or_one n h = grind (arith, h)

-- ---- lists of a known length

-- what must be shown of the lists of n numbers, number by number
abbrev pub OfLength : ℕ → (List ℕ → Type 0) → Type 0
OfLength zero P = P []
OfLength (suc n) P = (x : ℕ) → OfLength n (λ xs. P (x ∷ xs))

pub of_length : (n : ℕ) (P : List ℕ → Type 0) → OfLength n P → (xs : List ℕ) → length xs ≡ n → P xs
of_length zero P h [] e = h
of_length zero P h (x ∷ xs) e = absurd (omega (arith, e))
of_length (suc n) P h [] e = absurd (omega (arith, e))
of_length (suc n) P h (x ∷ xs) e = of_length n (λ ys. P (x ∷ ys)) (h x) xs (omega (arith, e))

-- ---- the values of digits

selected-maps : (p f g : ℕ → ℕ) (v : List ℕ) → sel_l (map (top 7) (map p v)) (map f v) (map g v) ≡ map (λ x. cond (top 7 (p x)) (f x) (g x)) v
selected-maps p f g [] = refl
selected-maps p f g (x ∷ v) = ap (λ r. cond (top 7 (p x)) (f x) (g x) ∷ r) (selected-maps p f g v)

-- lanes that were chosen between two vectors computed lane by lane from v
pub selected : (p f g : ℕ → ℕ) (v : List ℕ) {ms xs ys : List ℕ} → ms ≡ map p v → xs ≡ map f v → ys ≡ map g v
    → sel_l (map (top 7) ms) xs ys ≡ map (λ x. cond (top 7 (p x)) (f x) (g x)) v
selected p f g v a b c = rw (a, b, c) (selected-maps p f g v)

pub values-are : (f : ℕ → ℕ) → all_of_width 8 (λ x. f x == value_of x) ≡ true → (v : List ℕ) → Each1 (Fits w8) v → map f v ≡ map value_of v
values-are f same [] fits = refl
values-are f same (x ∷ v) fits =
    ap₂ (λ y ys. y ∷ ys) (eqb-true (f x) (value_of x) (all_of_width-at 8 (λ n. f n == value_of n) same x fits.0.fits)) (values-are f same v fits.1)

-- ---- all are digits

-- 2 ^ k times a number
abbrev doubled : ℕ → ℕ → ℕ
doubled zero q = q
doubled (suc k) q = 2 * doubled k q

none_set : (k q : ℕ) (bits : List Bool) → mask_l bits ≡ doubled k q → Each1 (λ bit. bit ≡ false) (take k bits)
none_set zero q bits h = tt
none_set (suc k) q [] h = tt
none_set (suc k) q (true ∷ bits) h = absurd (omega (arith, h))
none_set (suc k) q (false ∷ bits) h = (refl, none_set k q bits (omega (arith, h)))

small-lane : (x y : ℕ) → nat_lt 15 (bit_or x y) ≡ false → Small x × Small y
small-lane x y h =
    let both = ltb-false 15 (bit_or x y) h in
    (omega (arith, both, le_or_l x y), omega (arith, both, le_or_r x y))

small-lanes : (k n : ℕ) (xs ys : List ℕ) → k ≤ n → length xs ≡ n → length ys ≡ n
    → Each1 (λ bit. bit ≡ false) (take k (zip2 nat_lt (replicate n 15) (zip2 bit_or xs ys))) → Each1 Small (take k xs) × Each1 Small (take k ys)
small-lanes zero n xs ys le ex ey h = (tt, tt)
small-lanes (suc k) zero xs ys le ex ey h = absurd (omega (arith, le))
small-lanes (suc k) (suc n) [] ys le ex ey h = absurd (omega (arith, ex))
small-lanes (suc k) (suc n) (x ∷ xs) [] le ex ey h = absurd (omega (arith, ey))
small-lanes (suc k) (suc n) (x ∷ xs) (y ∷ ys) le ex ey h =
    let here = small-lane x y h.0 in
    let rest = small-lanes k n xs ys (omega (arith, le)) (omega (arith, ex)) (omega (arith, ey)) h.1 in
    ((here.0, rest.0), (here.1, rest.1))

-- the test of both: no bit of the first 14 is set where one is above 15
pub small-both : (xs ys : List ℕ) → length xs ≡ 16 → length ys ≡ 16
    → bit_and (mask_l (map (top 7) (zip2 (λ a b. cond (nat_lt a b) 255 0) (replicate 16 15) (zip2 bit_or xs ys))) % 2 ^ 64) 16383 ≡ 0
    → Each1 Small (take 14 xs) × Each1 Small (take 14 ys)
small-both xs ys ex ey h =
    let bits = zip2 nat_lt (replicate 16 15) (zip2 bit_or xs ys) in
    let same : mask_l (map (top 7) (zip2 (λ a b. cond (nat_lt a b) 255 0) (replicate 16 15) (zip2 bit_or xs ys))) ≡ mask_l bits =
    ap mask_l (tops_compared w8 nat_lt (replicate 16 15) (zip2 bit_or xs ys)) in
    let low : mask_l bits % 2 ^ 64 % 2 ^ 14 ≡ 0 = sym (and_mask (mask_l bits % 2 ^ 64) 14) ∙ ap (λ m. bit_and (m % 2 ^ 64) 16383) (sym same) ∙ h in
    small-lanes 14 16 xs ys (omega arith) ex ey (none_set 14 (mask_l bits / 16384) bits (omega (arith, low)))

-- ---- bytes of pairs

-- the same by bits
abbrev pub merged : List ℕ → List ℕ
merged [] = []
merged (high ∷ []) = []
merged (high ∷ low ∷ values) = bit_or (high * 16 % 256) low ∷ merged values

-- two values as one byte
byte-of : (high low : ℕ) → high < 16 → low < 16 → bit_or (high * 16 % 256) low ≡ high * 16 + low
byte-of high low hs ls = ap (λ n. bit_or n low) (shl_whole high 4 4 8 hs (omega arith)) ∙ or_shifted high 4 low ls

pub merged-is : (values : List ℕ) → Each1 Small values → merged values ≡ bytes_of values
merged-is [] h = refl
merged-is (high ∷ []) h = refl
merged-is (high ∷ low ∷ values) h = ap₂ (λ y ys. y ∷ ys) (byte-of high low h.0 h.1.0) (merged-is values h.1.1)

pub each-append : (xs ys : List ℕ) → Each1 Small xs → Each1 Small ys → Each1 Small (xs ++ ys)
each-append [] ys h k = k
each-append (x ∷ xs) ys h k = (h.0, each-append xs ys h.1 k)

-- the values of a short or a long frame
pub small-values : (longer : ℕ) → longer ≤ 1 → (front back : List ℕ) → length front ≡ 16 → Each1 Small (take 14 front) → Each1 Small (take 14 back)
    → Each1 Small (drop (14 - 14 * longer) (take 14 front ++ take 14 back))
small-values longer le front back size h k =
    let P : ℕ → Type 0 = λ n. Each1 Small (drop (14 - 14 * n) (take 14 front ++ take 14 back)) in
    elim (zero_or_one longer le) [
      | inl is ↦ subst P (sym is) (of_length 16 (λ xs. Each1 Small (drop 14 (take 14 xs ++ take 14 back))) (λ a b c d e f g h i j k' l m n o p. k) front size)
      | inr is ↦ subst P (sym is) (each-append (take 14 front) (take 14 back) h k)
    ]

value-below : (byte : ℕ) (v : Option ℕ) → unwrap_or v 16 < 16 → v ≡ Some (unwrap_or v 16)
value-below byte None h = absurd (omega (arith, h))
value-below byte (Some v) h = refl

pair-known : (a b i h l : ℕ) → hex_digit_value a ≡ Some h → hex_digit_value b ≡ Some l → pair_value a b i ≡ Ok (h * 16 + l)
pair-known a b i h l ha lb = rw (ha, lb) refl

-- digits are decoded to the bytes of their values
pub decoded-of : (i : ℕ) (digits : List ℕ) → length digits % 2 ≡ 0 → Each1 Small (map value_of digits) → decode_pairs i digits ≡ Ok (bytes_of (map value_of digits))
unfolding decode_pairs
decoded-of i [] even h = refl
decoded-of i (a ∷ []) even h = absurd (omega (arith, even))
decoded-of i (a ∷ b ∷ digits) even h =
    let known = pair-known a b i (value_of a) (value_of b) (value-below a (hex_digit_value a) h.0) (value-below b (hex_digit_value b) h.1.0) in
    decode_pairs-ok_pair i a b (value_of a * 16 + value_of b) digits known
    ∙ ap (cons_byte (value_of a * 16 + value_of b)) (decoded-of (i + 2) digits (omega (arith, even)) h.1.1)

first-byte : (values : List ℕ) → 2 ≤ length values → Each1 Small values
    → (get_or (bytes_of values) 0 0 ≡ get_or values 0 0 * 16 + get_or values 1 0) × Small (get_or values 0 0) × Small (get_or values 1 0)
first-byte [] two h = absurd (omega (arith, two))
first-byte (high ∷ []) two h = absurd (omega (arith, two))
first-byte (high ∷ low ∷ values) two h = (refl, h.0, h.1.0)

-- the format of a first byte has as many bytes as its first digit says
counted : (longer count df high low : ℕ) → longer ≤ 1 → count ≡ 7 + 7 * longer → df ≡ (high * 16 + low) / 8 → Small low → longer ≡ high / 8
    → count ≡ cond (nat_lt df 16) 7 14
counted longer count df high low one half format small by =
    elim (zero_or_one longer one) [
      | inl is ↦ omega (arith, half, is) ∙ sym (ap (λ t. cond t 7 14) (lt-ltb df 16 (omega (arith, format, is, by, small))))
      | inr is ↦ omega (arith, half, is) ∙ sym (ap (λ t. cond t 7 14) (le-ltb df 16 (omega (arith, format, is, by, small))))
    ]

-- ---- the two halves of a line

-- the values of both halves are those of the digits
abbrev Lined : ℕ → List ℕ → Type 0
Lined n line =
    let digits = take (14 + 14 * n) (drop 1 line) in
    (drop (14 - 14 * n) (take 14 (map value_of (chunk 1 16 line)) ++ take 14 (map value_of (chunk (length line - 16) 16 line))) ≡ map value_of digits)
    × (get_or (map value_of digits) 0 0 ≡ value_of (get_or line 1 0))

lined-short : OfLength 17 (Lined 0)
lined-short = λ x0 x1 x2 x3 x4 x5 x6 x7 x8 x9 x10 x11 x12 x13 x14 x15 x16. (refl, refl)

lined-long : OfLength 31 (Lined 1)
lined-long = λ x0 x1 x2 x3 x4 x5 x6 x7 x8 x9 x10 x11 x12 x13 x14 x15 x16 x17 x18 x19 x20 x21 x22 x23 x24 x25 x26 x27 x28 x29 x30. (refl, refl)

lined : (n : ℕ) → n ≤ 1 → (line : List ℕ) → length line ≡ 17 + 14 * n → Lined n line
lined n le line size =
    elim (zero_or_one n le) [
      | inl is ↦ subst (λ k. Lined k line) (sym is) (of_length 17 (Lined 0) lined-short line (omega (arith, size, is)))
      | inr is ↦ subst (λ k. Lined k line) (sym is) (of_length 31 (Lined 1) lined-long line (omega (arith, size, is)))
    ]

module _ (longer : ℕ) (one : longer ≤ 1) (line front back : List ℕ) (size : length line ≡ 17 + 14 * longer)
    (is_front : front ≡ map value_of (chunk 1 16 line)) (is_back : back ≡ map value_of (chunk (length line - 16) 16 line))
    (small_front : Each1 Small (take 14 front)) (small_back : Each1 Small (take 14 back)) where
  abbrev digits : List ℕ
  digits = take (14 + 14 * longer) (drop 1 line)

  abbrev values : List ℕ
  values = drop (14 - 14 * longer) (take 14 front ++ take 14 back)

  are-values : values ≡ map value_of digits
  are-values = rw (is_front, is_back) (lined longer one line size).0

  count : length digits ≡ 14 + 14 * longer
  count = search (arith, rules)

  small : Each1 Small values
  small =
      let long : length front ≡ 16 = ap length is_front ∙ length-map (chunk 1 16 line) value_of ∙ length-chunk 1 16 line (omega (arith, size)) in
      small-values longer one front back long small_front small_back

  decoded : decode_pairs 0 digits ≡ Ok (bytes_of values)
  decoded = decoded-of 0 digits (omega (arith, count)) (subst (Each1 Small) are-values small) ∙ ap (λ vs. Ok (bytes_of vs)) (sym are-values)

  half : length (bytes_of values) ≡ 7 + 7 * longer
  half = let twice = (decode_pairs-ok 0 digits (bytes_of values) decoded).1 in omega (arith, twice, count)

  -- with zeros before them the bytes are found again
  found : bytes_in (7 + 7 * longer) (with_zeros (bytes_of values)) ≡ bytes_of values
  found =
      let bytes = bytes_of values in
      let zeros : length (replicate (16 - length bytes) 0) ≡ 16 - (7 + 7 * longer) = length-replicate (16 - length bytes) 0 ∙ omega (arith, half) in
      subst (λ n. drop n (with_zeros bytes) ≡ bytes) zeros (drop-append_seam (replicate (16 - length bytes) 0) bytes)

  fits : (Small (value_of (get_or line 1 0)) → longer ≡ value_of (get_or line 1 0) / 8) → IsFrame (bytes_of values)
  fits first =
      let bytes = bytes_of values in
      let two : 2 ≤ length values = omega (arith, ap length are-values, length-map digits value_of, count) in
      let at = first-byte values two small in
      let begins : get_or values 0 0 ≡ value_of (get_or line 1 0) = ap (λ vs. get_or vs 0 0) are-values ∙ (lined longer one line size).1 in
      let by : longer ≡ get_or values 0 0 / 8 = first (subst Small begins at.1) ∙ ap (λ v. v / 8) (sym begins) in
      let format : df_of bytes ≡ get_or bytes 0 0 / 8 = sym (format-is bytes (omega (arith, at.0, at.1, at.2))) in
      counted longer (length bytes) (df_of bytes) (get_or values 0 0) (get_or values 1 0) one half (format ∙ ap (λ v. v / 8) at.0) at.2 by

  -- the lanes are what is kept of a frame, and the digits write its bytes
  pub enclosed : (padded : List ℕ) → padded ≡ with_zeros (bytes_of values) → (Small (value_of (get_or line 1 0)) → longer ≡ value_of (get_or line 1 0) / 8)
      → let bytes = bytes_in (7 + 7 * longer) padded in (padded ≡ with_zeros bytes) × (decode_pairs 0 digits ≡ Ok bytes) × IsFrame bytes
  enclosed padded is first =
      let same : bytes_in (7 + 7 * longer) padded ≡ bytes_of values = ap (bytes_in (7 + 7 * longer)) is ∙ found in
      (is ∙ ap with_zeros (sym same), decoded ∙ ap Ok (sym same), subst IsFrame (sym same) (fits first))
