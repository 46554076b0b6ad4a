-- Numbers are read back from their digits.
use Rattle.std.proofs.Common.{◌≡◌, ℕ, suc, ◌+◌, ◌-◌, ◌*◌, ◌/◌, ◌%◌, ◌^◌, ◌<◌, ◌≤◌, if◌then◌else◌, List, [], ◌∷◌, ◌++◌, length, ℤ, pos, negsuc, neg_ℤ, unsigned_abs, ap, ◌∙◌, arith, decimal, ne_eqb}
use Rattle.std.specs.Fmt.{signed_decimal}
use Rattle.std.specs.List.{AllByRecursion}
use Rattle.std.proofs.lemmas.Bool.Decides.{nat_tests}
use Rattle.std.proofs.lemmas.Fmt.{decimal_by_steps, decimal_nonempty}
use Rattle.std.proofs.lemmas.List.Sums.{fold-append}
use Rattle.station_report.specs.Text.{hex_digit, address_text, squawk_text, five_digits}
use Rattle.table_laws.specs.Reading.{read_number, read_octal, read_hex, hex_value, read_signed}

-- ---- digits

abbrev pub IsDecimal : ℕ → Type 0
IsDecimal c = (48 ≤ c) × (c ≤ 57)

abbrev pub AreDecimals : List ℕ → Type 0
AreDecimals = AllByRecursion IsDecimal

pub each_append : (P : ℕ → Type 0) (xs ys : List ℕ) → AllByRecursion P xs → AllByRecursion P ys → AllByRecursion P (xs ++ ys)
each_append P [] ys h k = k
each_append P (x ∷ xs) ys h k = (h.0, each_append P xs ys h.1 k)

pub decimal_digits : (n : ℕ) → n < 2 ^ 64 → AreDecimals (decimal n)
decimal_digits =
    decimal_by_steps (λ m ds. AreDecimals ds) (λ m small. ((omega arith, omega arith), tt))
    (λ m ds large h. each_append IsDecimal ds ((48 + m % 10) ∷ []) h ((omega arith, omega arith), tt))

pub read_number-push : (ds : List ℕ) (c : ℕ) → read_number (ds ++ c ∷ []) ≡ 10 * read_number ds + (c - 48)
unfolding read_number
read_number-push ds c = fold-append (λ n c. 10 * n + (c - 48)) 0 ds (c ∷ [])

pub read_number-decimal : (n : ℕ) → n < 2 ^ 64 → read_number (decimal n) ≡ n
unfolding read_number
read_number-decimal =
    decimal_by_steps (λ m ds. read_number ds ≡ m) (λ m small. omega arith)
    (λ m ds large h. read_number-push ds (48 + m % 10) ∙ omega (arith, h))

-- ---- with a sign

pub read_digits : (ds : List ℕ) → 0 < length ds → AreDecimals ds → read_signed ds ≡ pos (read_number ds)
read_digits [] some h = absurd (omega arith)
read_digits (c ∷ cs) some h =
    let digit = h.0 in
    ap (λ t. if t then neg_ℤ (pos (read_number cs)) else pos (read_number (c ∷ cs))) (ne_eqb c 45 (λ e. omega (arith, digit.0, e)))

pub read_signed-signed : (z : ℤ) → unsigned_abs z < 2 ^ 63 → read_signed (signed_decimal z) ≡ z
read_signed-signed (pos n) small = read_digits (decimal n) (decimal_nonempty n (omega arith)) (decimal_digits n (omega arith)) ∙ ap pos (read_number-decimal n (omega arith))
read_signed-signed (negsuc n) small = ap (λ m. neg_ℤ (pos m)) (read_number-decimal (suc n) (omega arith))

-- ---- of other bases

module _ (digit : ℕ → ℕ) (back : (d : ℕ) → d < 16 → hex_value (digit d) ≡ d) where
  six : (a b c d e f : ℕ) → a < 16 → b < 16 → c < 16 → d < 16 → e < 16 → f < 16
      → read_hex (digit a ∷ digit b ∷ digit c ∷ digit d ∷ digit e ∷ digit f ∷ []) ≡ 16 * (16 * (16 * (16 * (16 * a + b) + c) + d) + e) + f
  unfolding read_hex
  six a b c d e f la lb lc ld le lf =
      let step : ℕ → ℕ → ℕ = λ n v. 16 * n + v in
      (λ i. step (step (step (step (step (step 0 (back a la i)) (back b lb i)) (back c lc i)) (back d ld i)) (back e le i)) (back f lf i))
      ∙ omega arith

  pub read_six : (a : ℕ) → a < 2 ^ 24
      → read_hex (digit (a / 1048576 % 16) ∷ digit (a / 65536 % 16) ∷ digit (a / 4096 % 16) ∷ digit (a / 256 % 16) ∷ digit (a / 16 % 16) ∷ digit (a % 16) ∷ []) ≡ a
  read_six a small =
      six (a / 1048576 % 16) (a / 65536 % 16) (a / 4096 % 16) (a / 256 % 16) (a / 16 % 16) (a % 16) (omega arith) (omega arith) (omega arith) (omega arith) (omega arith) (omega arith)
      ∙ omega arith

upper_back : (d : ℕ) → d < 16 → hex_value (hex_digit d) ≡ d
upper_back d small = grind (arith, nat_tests)

pub read_hex-address : (a : ℕ) → a < 2 ^ 24 → read_hex (address_text a) ≡ a
unfolding address_text
read_hex-address a small = read_six hex_digit upper_back a small

pub read_octal-squawk : (code : ℕ) → code < 4096 → read_octal (squawk_text code) ≡ code
unfolding squawk_text read_octal
read_octal-squawk code small = omega arith

-- ---- five more digits

pub digits-five : (n : ℕ) → AreDecimals (five_digits n)
unfolding five_digits
digits-five n = ((omega arith, omega arith), ((omega arith, omega arith), ((omega arith, omega arith), ((omega arith, omega arith), ((omega arith, omega arith), tt)))))

pub read_number-five : (ds : List ℕ) (part : ℕ) → part < 100000 → read_number (ds ++ five_digits part) ≡ 100000 * read_number ds + part
unfolding five_digits read_number
read_number-five ds part small =
    fold-append (λ n c. 10 * n + (c - 48)) 0 ds (five_digits part)
    ∙ omega arith
