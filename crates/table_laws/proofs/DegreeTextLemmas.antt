-- Degrees are read back from their texts.
use Rattle.std.proofs.Common.{◌≡◌, ℕ, ◌+◌, ◌*◌, ◌/◌, ◌%◌, ◌<◌, ◌≤◌, ◌==◌, ◌&&◌, not, Bool, true, false, if◌then◌else◌, List, [], ◌∷◌, ◌++◌, length, codes, pos, neg_ℤ, refl, ap, ap₂, sym, ◌∙◌, arith, decimal, ne_eqb, length-append, append_assoc, append-nil, filter, eqb-true}
use Rattle.std.specs.Int.{is_negative}
use Rattle.std.proofs.lemmas.Bool.{and_parts}
use Rattle.std.proofs.lemmas.Fmt.{decimal_nonempty}
use Rattle.std.proofs.lemmas.List.Elements.{filter-append}
use Rattle.modes_cpr.specs.declared.points.Degrees.{Degrees}
use Rattle.modes_cpr.specs.declared.points.Position.{Position}
use Rattle.station_report.specs.Text.{five_digits, hundred_thousandths, degrees_sign, parts_text, degrees_text, latitude_text, longitude_text}
use Rattle.table_laws.specs.Ranges.{IsWithin, IsOnEarth}
use Rattle.table_laws.specs.Reading.{shown_degrees, shown_latitude, shown_longitude, read_number, read_signed, read_units}
use Rattle.table_laws.proofs.NumberLemmas.{IsDecimal, AreDecimals, each_append, decimal_digits, digits-five, read_digits, read_number-decimal, read_number-five}
use Rattle.table_laws.proofs.TextLemmas.{IsNoSpace, StartsAs, IsReadAs, starts_weaker, starts_before, decimal_starts, long_is_no_dash}
use Rattle.table_laws.proofs.WidthLemmas.{hundred_thousandths-lt, within_more}

abbrev pub is_no_point : ℕ → Bool
is_no_point c = not (c == 46)

pub digits_stay : (ds : List ℕ) → AreDecimals ds → filter is_no_point ds ≡ ds
digits_stay [] h = refl
digits_stay (c ∷ cs) h =
    let digit = h.0 in
    ap (λ t. if not t then c ∷ filter is_no_point cs else filter is_no_point cs) (ne_eqb c 46 (λ e. omega (arith, digit.0, e)))
    ∙ ap (λ l. c ∷ l) (digits_stay cs h.1)

sign_stays : (negative is_zero : Bool) → filter is_no_point (degrees_sign negative is_zero) ≡ degrees_sign negative is_zero
sign_stays true true = refl
sign_stays true false = refl
sign_stays false is_zero = refl

module _ (whole part : ℕ) (few : whole < 1000) (small : part < 100000) where
  digits : List ℕ
  digits = decimal whole ++ five_digits part

  each_digit : AreDecimals (decimal whole ++ five_digits part)
  each_digit = each_append IsDecimal (decimal whole) (five_digits part) (decimal_digits whole (omega arith)) (digits-five part)

  some_digit : 0 < length (decimal whole ++ five_digits part)
  some_digit = let some = decimal_nonempty whole (omega arith) in omega (arith, some, length-append (decimal whole) (five_digits part))

  number_back : read_number (decimal whole ++ five_digits part) ≡ 100000 * whole + part
  number_back = read_number-five (decimal whole) part small ∙ ap (λ n. 100000 * n + part) (read_number-decimal whole (omega arith))

  -- without its point
  pointless : (negative : Bool) → filter is_no_point (parts_text negative whole part) ≡ degrees_sign negative (whole == 0 && part == 0) ++ (decimal whole ++ five_digits part)
  pointless negative =
      let sign = degrees_sign negative (whole == 0 && part == 0) in
      filter-append is_no_point (sign ++ decimal whole ++ codes ".") (five_digits part)
      ∙ ap₂ (λ a b. a ++ b) (filter-append is_no_point (sign ++ decimal whole) (codes ".") ∙ ap (λ a. a ++ []) (filter-append is_no_point sign (decimal whole))) (digits_stay (five_digits part) (digits-five part))
      ∙ ap₂ (λ a b. a ++ b ++ [] ++ five_digits part) (sign_stays negative (whole == 0 && part == 0)) (digits_stay (decimal whole) (decimal_digits whole (omega arith)))
      ∙ simp (append_assoc, append-nil)

  signed_by : (negative is_zero : Bool) → (is_zero ≡ true → 100000 * whole + part ≡ 0)
      → read_signed (degrees_sign negative is_zero ++ (decimal whole ++ five_digits part)) ≡ (if negative then neg_ℤ (pos (100000 * whole + part)) else pos (100000 * whole + part))
  signed_by true true zero =
      let none = zero refl in
      read_digits _ some_digit each_digit ∙ ap pos number_back ∙ ap pos none ∙ ap (λ n. neg_ℤ (pos n)) (sym none)
  signed_by true false zero = ap (λ n. neg_ℤ (pos n)) number_back
  signed_by false is_zero zero = read_digits _ some_digit each_digit ∙ ap pos number_back

  nothing : (whole == 0 && part == 0) ≡ true → 100000 * whole + part ≡ 0
  nothing e =
      let both = and_parts (whole == 0) (part == 0) e in
      let w = eqb-true whole 0 both.0 in
      let p = eqb-true part 0 both.1 in
      omega arith

  pub parts_back : (negative : Bool) → read_units (parts_text negative whole part) ≡ (if negative then neg_ℤ (pos (100000 * whole + part)) else pos (100000 * whole + part))
  parts_back negative = ap read_signed (pointless negative) ∙ signed_by negative (whole == 0 && part == 0) nothing

  starts_by : (negative is_zero : Bool) → StartsAs IsNoSpace (degrees_sign negative is_zero ++ decimal whole)
  starts_by true true = starts_weaker IsDecimal IsNoSpace (λ c d e. let low = d.0 in omega (arith, e)) (decimal whole) (decimal_starts whole (omega arith))
  starts_by true false = λ e. omega (arith, e)
  starts_by false is_zero = starts_weaker IsDecimal IsNoSpace (λ c d e. let low = d.0 in omega (arith, e)) (decimal whole) (decimal_starts whole (omega arith))

  pub parts_start : (negative : Bool) → StartsAs IsNoSpace (parts_text negative whole part)
  parts_start negative =
      let sign = degrees_sign negative (whole == 0 && part == 0) in
      starts_before IsNoSpace (sign ++ decimal whole ++ codes ".") (five_digits part)
      (starts_before IsNoSpace (sign ++ decimal whole) (codes ".") (starts_by negative (whole == 0 && part == 0)))

  pub parts_long : (negative : Bool) → 2 ≤ length (parts_text negative whole part)
  unfolding five_digits
  parts_long negative = omega (arith, length-append (degrees_sign negative (whole == 0 && part == 0) ++ decimal whole ++ codes ".") (five_digits part))

degrees_back : (angle : Degrees) → IsWithin 180 angle → IsReadAs (degrees_text angle) read_units (shown_degrees angle)
unfolding degrees_text
degrees_back angle h =
    let n = hundred_thousandths angle in
    let small : n < 18000001 = hundred_thousandths-lt angle h in
    let negative = is_negative angle.num in
    let few : n / 100000 < 1000 = omega (arith, small) in
    let below : n % 100000 < 100000 = omega arith in
    let whole : 100000 * (n / 100000) + n % 100000 ≡ n = omega arith in
    record {
      plain = parts_start (n / 100000) (n % 100000) few below negative;
      no_dash = long_is_no_dash (parts_text negative (n / 100000) (n % 100000)) (parts_long (n / 100000) (n % 100000) few below negative);
      gives = parts_back (n / 100000) (n % 100000) few below negative ∙ ap (λ m. if negative then neg_ℤ (pos m) else pos m) whole;
    }

pub latitude_back : (position : Position) → IsOnEarth position → IsReadAs (latitude_text position) read_units (shown_latitude position)
latitude_back position h = degrees_back position.lat (within_more position.lat h.lat)

pub longitude_back : (position : Position) → IsOnEarth position → IsReadAs (longitude_text position) read_units (shown_longitude position)
longitude_back position h = degrees_back position.lon h.lon
