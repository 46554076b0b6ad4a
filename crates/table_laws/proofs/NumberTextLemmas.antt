-- The numbers and texts of JSON are read back.
use Rattle.std.proofs.Common.{◌≡◌, ◌≢◌, ℕ, ◌+◌, ◌-◌, ◌*◌, ◌/◌, ◌%◌, ◌^◌, ◌<◌, ◌==◌, ◌&&◌, not, Bool, true, false, if◌then◌else◌, List, [], ◌∷◌, ◌++◌, length, codes, ℤ, pos, unsigned_abs, refl, ap, ap₂, ◌∙◌, arith, decimal, filter, ne_eqb, append_assoc, append-nil, length-append}
use Rattle.std.specs.Fmt.{signed_decimal}
use Rattle.std.specs.Int.{is_negative}
use Rattle.std.specs.List.{AllByRecursion}
use Rattle.std.proofs.lemmas.Bool.Decides.{nat_tests}
use Rattle.std.proofs.lemmas.Fmt.{decimal_nonempty}
use Rattle.std.proofs.lemmas.List.Elements.{filter-append}
use Rattle.std.proofs.lemmas.List.Sums.{fold-append}
use Rattle.modes_cpr.specs.declared.points.Degrees.{Degrees}
use Rattle.modes_cpr.specs.declared.points.Position.{Position}
use Rattle.station_report.specs.Json.{low_hex_digit, low_address, three_digits, seconds, tenths}
use Rattle.station_report.specs.Text.{five_digits, hundred_thousandths, degrees_sign, parts_text, degrees_text, latitude_text, longitude_text}
use Rattle.table_laws.specs.Ranges.{IsWithin, IsOnEarth}
use Rattle.table_laws.specs.Reading.{read_number, read_hex, hex_value, read_signed, shown_latitude, shown_longitude}
use Rattle.table_laws.specs.JsonLine.{after_point, Spells}
use Rattle.table_laws.proofs.NumberLemmas.{IsDecimal, AreDecimals, each_append, decimal_digits, read_digits, read_number-push, read_number-decimal, read_signed-signed, read_six}
use Rattle.table_laws.proofs.TextLemmas.{IsNumeric, each_weaker, signed_numeric}
use Rattle.table_laws.proofs.DegreeTextLemmas.{is_no_point, digits_stay, latitude_back, longitude_back}
use Rattle.table_laws.proofs.WidthLemmas.{hundred_thousandths-lt, within_more}

-- ---- the point

abbrev IsNoPoint : ℕ → Type 0
IsNoPoint c = c ≢ 46

after_point-is : (front back : List ℕ) → AllByRecursion IsNoPoint front → after_point (front ++ 46 ∷ back) ≡ back
after_point-is [] back h = refl
after_point-is (c ∷ cs) back h = ap (λ t. if t then cs ++ 46 ∷ back else after_point (cs ++ 46 ∷ back)) (ne_eqb c 46 h.0) ∙ after_point-is cs back h.1

no_point : (text : List ℕ) → AllByRecursion IsNoPoint text → after_point text ≡ []
no_point [] h = refl
no_point (c ∷ cs) h = ap (λ t. if t then cs else after_point cs) (ne_eqb c 46 h.0) ∙ no_point cs h.1

pointless_stays : (text : List ℕ) → AllByRecursion IsNoPoint text → filter is_no_point text ≡ text
pointless_stays [] h = refl
pointless_stays (c ∷ cs) h = ap (λ t. if not t then c ∷ filter is_no_point cs else filter is_no_point cs) (ne_eqb c 46 h.0) ∙ ap (λ l. c ∷ l) (pointless_stays cs h.1)

digit_no_point : (c : ℕ) → IsDecimal c → c ≢ 46
digit_no_point c h e = let low = h.0 in omega (arith, e)

decimal_no_point : (n : ℕ) → n < 2 ^ 64 → AllByRecursion IsNoPoint (decimal n)
decimal_no_point n small = each_weaker IsDecimal IsNoPoint digit_no_point (decimal n) (decimal_digits n small)

signed_no_point : (z : ℤ) → unsigned_abs z < 2 ^ 63 → AllByRecursion IsNoPoint (signed_decimal z)
signed_no_point z small = each_weaker IsNumeric IsNoPoint (λ c h. h.3) (signed_decimal z) (signed_numeric z small)

-- ---- whole numbers

pub whole_spelled : (z : ℤ) → unsigned_abs z < 2 ^ 63 → Spells (signed_decimal z) z 0
whole_spelled z small = record {
  read = ap read_signed (pointless_stays (signed_decimal z) (signed_no_point z small)) ∙ read_signed-signed z small;
  places = ap length (no_point (signed_decimal z) (signed_no_point z small));
}

pub natural_spelled : (n : ℕ) → n < 2 ^ 64 → Spells (decimal n) (pos n) 0
natural_spelled n small = record {
  read = ap read_signed (digits_stay (decimal n) (decimal_digits n small)) ∙ read_digits (decimal n) (decimal_nonempty n small) (decimal_digits n small) ∙ ap pos (read_number-decimal n small);
  places = ap length (no_point (decimal n) (decimal_no_point n small));
}

-- ---- numbers with decimals

module _ (whole : ℕ) (ds : List ℕ) (units : ℕ) (small : whole < 2 ^ 64) (h : AreDecimals ds) (is : read_number (decimal whole ++ ds) ≡ units) where
  without : filter is_no_point (decimal whole ++ codes "." ++ ds) ≡ decimal whole ++ ds
  without =
      filter-append is_no_point (decimal whole ++ codes ".") ds
      ∙ ap₂ (λ a b. a ++ b)
      (filter-append is_no_point (decimal whole) (codes ".") ∙ ap (λ a. a ++ []) (digits_stay (decimal whole) (decimal_digits whole small)) ∙ append-nil (decimal whole))
      (digits_stay ds h)

  some : 0 < length (decimal whole ++ ds)
  some = let one = decimal_nonempty whole small in omega (arith, one, length-append (decimal whole) ds)

  pub pointed_spelled : Spells (decimal whole ++ codes "." ++ ds) (pos units) (length ds)
  pointed_spelled = record {
    read = ap read_signed without ∙ read_digits (decimal whole ++ ds) some (each_append IsDecimal (decimal whole) ds (decimal_digits whole small) h) ∙ ap pos is;
    places = ap length (ap after_point (append_assoc (decimal whole) (codes ".") ds) ∙ after_point-is (decimal whole) ds (decimal_no_point whole small));
  }

pub tenths_spelled : (n : ℕ) → n < 2 ^ 64 → Spells (tenths n) (pos n) 1
unfolding tenths
tenths_spelled n small =
    let back = read_number-decimal (n / 10) (omega arith) in
    pointed_spelled (n / 10) ((48 + n % 10) ∷ []) n (omega arith) ((omega arith, omega arith), tt) (read_number-push (decimal (n / 10)) (48 + n % 10) ∙ omega (arith, back))

read_three : (ds : List ℕ) (n : ℕ) → read_number (ds ++ three_digits n) ≡ 1000 * read_number ds + n % 1000
unfolding three_digits read_number
read_three ds n = fold-append (λ n c. 10 * n + (c - 48)) 0 ds (three_digits n) ∙ omega arith

pub seconds_spelled : (n : ℕ) → n < 2 ^ 65 → Spells (seconds n) (pos n) 3
unfolding seconds three_digits
seconds_spelled n small =
    let back = read_number-decimal (n / 1000) (omega arith) in
    let last : AreDecimals (three_digits n) = ((omega arith, omega arith), ((omega arith, omega arith), ((omega arith, omega arith), tt))) in
    pointed_spelled (n / 1000) (three_digits n) n (omega arith) last (read_three (decimal (n / 1000)) n ∙ omega (arith, back))

-- ---- degrees

sign_no_point : (negative is_zero : Bool) → AllByRecursion IsNoPoint (degrees_sign negative is_zero)
sign_no_point true true = tt
sign_no_point true false = ((λ e. omega (arith, e)), tt)
sign_no_point false is_zero = tt

length-five : (n : ℕ) → length (five_digits n) ≡ 5
unfolding five_digits
length-five n = refl

five_places : (negative : Bool) (whole part : ℕ) → whole < 2 ^ 64 → length (after_point (parts_text negative whole part)) ≡ 5
five_places negative whole part small =
    let sign = degrees_sign negative (whole == 0 && part == 0) in
    let front = each_append IsNoPoint sign (decimal whole) (sign_no_point negative (whole == 0 && part == 0)) (decimal_no_point whole small) in
    ap length (ap after_point (append_assoc (sign ++ decimal whole) (codes ".") (five_digits part)) ∙ after_point-is (sign ++ decimal whole) (five_digits part) front) ∙ length-five part

degrees_places : (angle : Degrees) → IsWithin 180 angle → length (after_point (degrees_text angle)) ≡ 5
unfolding degrees_text
degrees_places angle h =
    let n = hundred_thousandths angle in
    let small : n < 18000001 = hundred_thousandths-lt angle h in
    five_places (is_negative angle.num) (n / 100000) (n % 100000) (omega (arith, small))

pub latitude_spelled : (position : Position) → IsOnEarth position → Spells (latitude_text position) (shown_latitude position) 5
latitude_spelled position h = record { read = (latitude_back position h).gives; places = degrees_places position.lat (within_more position.lat h.lat) }

pub longitude_spelled : (position : Position) → IsOnEarth position → Spells (longitude_text position) (shown_longitude position) 5
longitude_spelled position h = record { read = (longitude_back position h).gives; places = degrees_places position.lon h.lon }

-- ---- addresses

lower_back : (d : ℕ) → d < 16 → hex_value (low_hex_digit d) ≡ d
lower_back d small = grind (arith, nat_tests)

pub read_hex-low : (a : ℕ) → a < 2 ^ 24 → read_hex (low_address a) ≡ a
unfolding low_address
read_hex-low a small = read_six low_hex_digit lower_back a small
