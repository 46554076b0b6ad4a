-- What is printed as a number is a number of JSON, and plain texts have no escapes.
use Rattle.std.proofs.Common.{◌≡◌, ◌≢◌, ℕ, zero, suc, ◌+◌, ◌/◌, ◌%◌, ◌^◌, ◌<◌, ◌≤◌, ◌==◌, ◌&&◌, Bool, true, false, cond, List, [], ◌∷◌, ◌++◌, length, drop, get_or, codes, Some, None, ℤ, pos, negsuc, unsigned_abs, option_and_then, decimal, refl, sym, ap, ap₂, ◌∙◌, arith, append_assoc, append-nil, le-leb, ne_eqb, drop_at, subst}
use Rattle.std.specs.Char.{is_ascii_digit}
use Rattle.std.specs.Fmt.{signed_decimal}
use Rattle.std.specs.Int.{is_negative}
use Rattle.std.specs.List.{AllByRecursion, prefix_len}
use Rattle.std.proofs.lemmas.Bool.{and_from}
use Rattle.std.proofs.lemmas.Fmt.{decimal_digit, first_decimal}
use Rattle.json.specs.Print.{IsNumber, escape}
use Rattle.json.specs.Word.{head, after_digits, after_whole, after_fraction, after_exponent, after_number}
use Rattle.json.proofs.Printed.Decimals.{IsNumber-signed_decimal}
use Rattle.json.proofs.Printed.Strings.{escape_byte_plain}
use Rattle.modes_cpr.specs.declared.points.Degrees.{Degrees}
use Rattle.modes_cpr.specs.declared.points.Position.{Position}
use Rattle.station_report.specs.Json.{three_digits, seconds, tenths}
use Rattle.station_report.specs.Text.{five_digits, hundred_thousandths, degrees_sign, degrees_text, latitude_text, longitude_text}
use Rattle.table_laws.specs.Ranges.{IsWithin, IsOnEarth}
use Rattle.table_laws.proofs.NumberLemmas.{AreDecimals, decimal_digits, digits-five}
use Rattle.table_laws.proofs.WidthLemmas.{hundred_thousandths-lt, within_more}

-- ---- digits

run : (ds rest : List ℕ) → AreDecimals ds → prefix_len is_ascii_digit rest ≡ 0 → prefix_len is_ascii_digit (ds ++ rest) ≡ length ds
run [] rest h none = none
run (d ∷ ds) rest h none =
    ap (λ b. cond b (1 + prefix_len is_ascii_digit (ds ++ rest)) 0) (and_from _ _ (le-leb 48 d h.0.0) (le-leb d 57 h.0.1)) ∙ omega (arith, run ds rest h.1 none)

digits_then : (ds rest : List ℕ) → AreDecimals ds → 0 < length ds → prefix_len is_ascii_digit rest ≡ 0 → after_digits (ds ++ rest) ≡ Some rest
digits_then ds rest h some none =
    ap (λ n. cond (n == 0) None (Some (drop n (ds ++ rest)))) (run ds rest h none)
    ∙ ap (λ b. cond b None (Some (drop (length ds) (ds ++ rest)))) (ne_eqb (length ds) 0 (λ e. omega arith))
    ∙ ap Some (drop_at ds rest (length ds) refl)

-- ---- a whole number before other bytes

pub record PassesWhole (text rest : List ℕ) : Type 0 where
  pub passes : after_whole (text ++ rest) ≡ Some rest
  pub no_minus : (head (text ++ rest) == 45) ≡ false

positive_then : (ds rest : List ℕ) → AreDecimals ds → 48 < get_or ds 0 0 → prefix_len is_ascii_digit rest ≡ 0 → PassesWhole ds rest
positive_then [] rest h first none = absurd (omega arith)
positive_then (d ∷ ds) rest h first none = record {
  passes = ap (λ b. cond b (Some (ds ++ rest)) (after_digits (d ∷ ds ++ rest))) (ne_eqb d 48 (λ e. omega arith)) ∙ digits_then (d ∷ ds) rest h (omega arith) none;
  no_minus = ne_eqb d 45 (λ e. omega arith);
}

decimal_then : (n : ℕ) (rest : List ℕ) → n < 2 ^ 64 → prefix_len is_ascii_digit rest ≡ 0 → PassesWhole (decimal n) rest
decimal_then zero rest small none = subst (λ ds. PassesWhole ds rest) (sym (decimal_digit 0 (omega arith))) (record { passes = refl; no_minus = refl })
decimal_then (suc n) rest small none = positive_then (decimal (suc n)) rest (decimal_digits (suc n) small) (first_decimal (suc n) (omega arith) small) none

-- ---- with decimals

module _ (whole : ℕ) (ds : List ℕ) (small : whole < 2 ^ 64) (h : AreDecimals ds) (some : 0 < length ds) where
  rest_passes : option_and_then after_exponent (option_and_then after_fraction (after_whole (decimal whole ++ 46 ∷ ds))) ≡ Some []
  rest_passes =
      ap (λ o. option_and_then after_exponent (option_and_then after_fraction o)) (decimal_then whole (46 ∷ ds) small refl).passes
      ∙ ap (option_and_then after_exponent) (ap after_digits (sym (append-nil ds)) ∙ digits_then ds [] h some refl)

  pub IsNumber-point : IsNumber (decimal whole ++ 46 ∷ ds)
  unfolding after_number
  IsNumber-point =
      ap (λ b. option_and_then after_exponent (option_and_then after_fraction (after_whole (cond b (drop 1 (decimal whole ++ 46 ∷ ds)) (decimal whole ++ 46 ∷ ds))))) (decimal_then whole (46 ∷ ds) small refl).no_minus
      ∙ rest_passes

  pub IsNumber-minus_point : IsNumber (45 ∷ (decimal whole ++ 46 ∷ ds))
  unfolding after_number
  IsNumber-minus_point = rest_passes

  pub IsNumber-signed_point : (negative is_zero : Bool) → IsNumber (degrees_sign negative is_zero ++ decimal whole ++ codes "." ++ ds)
  IsNumber-signed_point true true = subst IsNumber (sym (append_assoc (decimal whole) (46 ∷ []) ds)) IsNumber-point
  IsNumber-signed_point true false = subst IsNumber (sym (ap (λ l. 45 ∷ l) (append_assoc (decimal whole) (46 ∷ []) ds))) IsNumber-minus_point
  IsNumber-signed_point false is_zero = subst IsNumber (sym (append_assoc (decimal whole) (46 ∷ []) ds)) IsNumber-point

pub IsNumber-tenths : (n : ℕ) → n < 2 ^ 64 → IsNumber (tenths n)
unfolding tenths
IsNumber-tenths n small =
    let last : AreDecimals ((48 + n % 10) ∷ []) = ((omega arith, omega arith), tt) in
    IsNumber-signed_point (n / 10) ((48 + n % 10) ∷ []) (omega arith) last (omega arith) false false

pub IsNumber-seconds : (n : ℕ) → n < 2 ^ 65 → IsNumber (seconds n)
unfolding seconds three_digits
IsNumber-seconds n small =
    let last : AreDecimals (three_digits n) = ((omega arith, omega arith), ((omega arith, omega arith), ((omega arith, omega arith), tt))) in
    IsNumber-signed_point (n / 1000) (three_digits n) (omega arith) last (omega arith) false false

length-five : (n : ℕ) → 0 < length (five_digits n)
unfolding five_digits
length-five n = omega arith

degrees_number : (angle : Degrees) → IsWithin 180 angle → IsNumber (degrees_text angle)
unfolding degrees_text
degrees_number angle h =
    let n = hundred_thousandths angle in
    let small : n < 18000001 = hundred_thousandths-lt angle h in
    IsNumber-signed_point (n / 100000) (five_digits (n % 100000)) (omega (arith, small)) (digits-five (n % 100000)) (length-five (n % 100000)) (is_negative angle.num) (n / 100000 == 0 && n % 100000 == 0)

pub IsNumber-latitude : (position : Position) → IsOnEarth position → IsNumber (latitude_text position)
IsNumber-latitude position h = degrees_number position.lat (within_more position.lat h.lat)

pub IsNumber-longitude : (position : Position) → IsOnEarth position → IsNumber (longitude_text position)
IsNumber-longitude position h = degrees_number position.lon h.lon

pub IsNumber-feet : (feet : ℤ) → unsigned_abs feet < 2 ^ 63 → IsNumber (signed_decimal feet)
IsNumber-feet (pos n) small = IsNumber-signed_decimal (pos n) (omega arith)
IsNumber-feet (negsuc n) small = IsNumber-signed_decimal (negsuc n) (omega arith)

pub IsNumber-level : IsNumber (codes "-49.5")
unfolding after_number
IsNumber-level = refl

-- ---- plain texts

abbrev pub IsPlainByte : ℕ → Type 0
IsPlainByte c = (c ≢ 34) × (c ≢ 92) × (32 ≤ c)

pub plain_text : (text : List ℕ) → AllByRecursion IsPlainByte text → escape text ≡ text
plain_text [] h = refl
plain_text (c ∷ cs) h = let byte = h.0 in ap₂ (λ a b. a ++ b) (escape_byte_plain c byte.0 byte.1 byte.2) (plain_text cs h.1)
