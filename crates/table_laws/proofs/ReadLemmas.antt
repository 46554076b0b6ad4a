-- A row is read back from its line.
use Rattle.std.proofs.Common.{◌≡◌, ◌≢◌, ℕ, ◌-◌, ◌/◌, ◌^◌, ◌<◌, Bool, true, false, if◌then◌else◌, List, [], ◌∷◌, Option, Some, None, IfSome, ℤ, unsigned_abs, refl, ap, sym, ◌∙◌, arith, decimal, ne_eqb, All, Contains}
use Rattle.std.specs.Fmt.{signed_decimal}
use Rattle.std.proofs.lemmas.Int.{ints}
use Rattle.std.proofs.lemmas.List.Elements.{All-weaker, All-contains}
use Rattle.modes_fields.specs.Characters.{without_end_spaces}
use Rattle.station_journal.specs.declared.aircraft.Aircraft.{Aircraft}
use Rattle.station_journal.proofs.Common.{IsLegal, Log, clock_of, table_of}
use Rattle.station_report.specs.Text.{right, or_dash, altitude_text, squawk_text, velocity_text, latitude_text, longitude_text, row_text}
use Rattle.table_laws.specs.Ranges.{IsAltitude, IsRate, IsVelocity, IsOnEarth, IsInRange}
use Rattle.table_laws.specs.Reading.{shown_velocity, shown_latitude, shown_longitude, shown_row, is_on_ground, after_spaces, starts_with, read_field, read_number, read_octal, read_hex, read_signed, read_units, read_velocity, read_altitude, read_row}
use Rattle.table_laws.proofs.NumberLemmas.{IsDecimal, read_number-decimal, read_hex-address, read_octal-squawk, read_signed-signed}
use Rattle.table_laws.proofs.TextLemmas.{IsNoSpace, StartsAs, IsReadAs, IsNumeric, after_spaces-right, read_right, mapped_itself, starts_weaker, decimal_starts, signed_starts, signed_is_no_dash, read_callsign}
use Rattle.table_laws.proofs.VelocityTextLemmas.{velocity_back}
use Rattle.table_laws.proofs.DegreeTextLemmas.{latitude_back, longitude_back}
use Rattle.table_laws.proofs.RowLemmas.{rows_in_range}
use Rattle.table_laws.proofs.ColumnLemmas.{laid_out}

-- ---- squawks and rates

numeric_plain : (c : ℕ) → IsNumeric c → c ≢ 32
numeric_plain c h e = let low = h.0 in omega (arith, e)

signed_back : (z : ℤ) → unsigned_abs z < 2 ^ 63 → IsReadAs (signed_decimal z) read_signed z
signed_back z small = record {
  plain = starts_weaker IsNumeric IsNoSpace numeric_plain (signed_decimal z) (signed_starts z small);
  no_dash = signed_is_no_dash z small;
  gives = read_signed-signed z small;
}

rate_back : (feet : ℤ) → IsRate feet → IsReadAs (signed_decimal feet) read_signed feet
rate_back feet h = signed_back feet (omega (arith, h))

read_rate : (o : Option ℤ) → IfSome o IsRate → read_field read_signed (after_spaces (right 6 (or_dash signed_decimal o))) ≡ o
read_rate o h = read_right IsRate signed_decimal read_signed (λ z. z) 6 rate_back o h ∙ mapped_itself o

squawk_back : (code : ℕ) → code < 4096 → IsReadAs (squawk_text code) read_octal code
unfolding squawk_text
squawk_back code small = record { plain = λ e. omega (arith, e); no_dash = refl; gives = read_octal-squawk code small }

read_squawk : (o : Option ℕ) → IfSome o (λ code. code < 4096) → read_field read_octal (after_spaces (right 4 (or_dash squawk_text o))) ≡ o
read_squawk o h = read_right (λ code. code < 4096) squawk_text read_octal (λ code. code) 4 squawk_back o h ∙ mapped_itself o

-- ---- altitudes

altitude_small : (feet : ℤ) → IsAltitude feet → unsigned_abs feet < 2 ^ 63
altitude_small feet h = let least = h.least in let most = h.most in omega (arith, ints)

altitude_back : (feet : ℤ) → IsAltitude feet → IsReadAs (signed_decimal feet) read_signed feet
altitude_back feet h = signed_back feet (altitude_small feet h)

starts_other : (text : List ℕ) → StartsAs (λ c. c ≢ 103) text → starts_with 103 text ≡ false
starts_other [] h = refl
starts_other (c ∷ cs) h = ne_eqb c 103 h

numeric_other : (c : ℕ) → IsNumeric c → c ≢ 103
numeric_other c h e = let most = h.1 in omega (arith, e)

-- an altitude doesn't begin as that of an aircraft on the ground
no_ground : (o : Option ℤ) → IfSome o IsAltitude → starts_with 103 (after_spaces (right 6 (or_dash signed_decimal o))) ≡ false
no_ground None h = refl
no_ground (Some feet) h =
    let starts = signed_starts feet (altitude_small feet h) in
    ap (starts_with 103) (after_spaces-right 6 (signed_decimal feet) (starts_weaker IsNumeric IsNoSpace numeric_plain (signed_decimal feet) starts))
    ∙ starts_other (signed_decimal feet) (starts_weaker IsNumeric (λ c. c ≢ 103) numeric_other (signed_decimal feet) starts)

read_feet : (o : Option ℤ) → IfSome o IsAltitude → read_altitude (after_spaces (right 6 (or_dash signed_decimal o))) ≡ o
read_feet o h =
    ap (λ t. if t then None else read_field read_signed (after_spaces (right 6 (or_dash signed_decimal o)))) (no_ground o h)
    ∙ read_right IsAltitude signed_decimal read_signed (λ z. z) 6 altitude_back o h ∙ mapped_itself o

ground_is : (on_ground : Option Bool) (altitude : Option ℤ) → IfSome altitude IsAltitude → starts_with 103 (after_spaces (right 6 (altitude_text on_ground altitude))) ≡ is_on_ground on_ground
ground_is (Some true) altitude h = refl
ground_is (Some false) altitude h = no_ground altitude h
ground_is None altitude h = no_ground altitude h

altitude_is : (on_ground : Option Bool) (altitude : Option ℤ) → IfSome altitude IsAltitude
    → read_altitude (after_spaces (right 6 (altitude_text on_ground altitude))) ≡ (if is_on_ground on_ground then None else altitude)
altitude_is (Some true) altitude h = refl
altitude_is (Some false) altitude h = read_feet altitude h
altitude_is None altitude h = read_feet altitude h

-- ---- ages

read_age : (age : ℕ) → age < 2 ^ 64 → read_number (after_spaces (right 3 (decimal age))) ≡ age
read_age age small =
    ap read_number (after_spaces-right 3 (decimal age) (starts_weaker IsDecimal IsNoSpace (λ c h e. let low = h.0 in omega (arith, e)) (decimal age) (decimal_starts age small)))
    ∙ read_number-decimal age small

-- ---- rows

pub row_back : (now : ℕ) (row : Aircraft) → IsInRange now row → read_row (row_text now row) ≡ shown_row now row
row_back now row h =
    let at = laid_out now row h in
    let recent = h.recent in
    let address = ap read_hex at.address ∙ read_hex-address row.address h.address in
    let callsign = ap (λ text. read_field (λ t. t) (without_end_spaces text)) at.callsign ∙ read_callsign row.callsign h.callsign in
    let on_ground = ap (λ text. starts_with 103 (after_spaces text)) at.altitude ∙ ground_is row.on_ground row.altitude h.altitude in
    let altitude = ap (λ text. read_altitude (after_spaces text)) at.altitude ∙ altitude_is row.on_ground row.altitude h.altitude in
    let squawk = ap (λ text. read_field read_octal (after_spaces text)) at.squawk ∙ read_squawk row.squawk h.squawk in
    let velocity = ap (λ text. read_field read_velocity (after_spaces text)) at.velocity ∙ read_right IsVelocity velocity_text read_velocity shown_velocity 12 velocity_back row.velocity h.velocity in
    let vertical = ap (λ text. read_field read_signed (after_spaces text)) at.vertical ∙ read_rate row.vertical h.vertical in
    let latitude = ap (λ text. read_field read_units (after_spaces text)) at.latitude ∙ read_right IsOnEarth latitude_text read_units shown_latitude 10 latitude_back row.position h.position in
    let longitude = ap (λ text. read_field read_units (after_spaces text)) at.longitude ∙ read_right IsOnEarth longitude_text read_units shown_longitude 10 longitude_back row.position h.position in
    let age = ap (λ text. read_number (after_spaces text)) at.age ∙ read_age ((now - row.heard) / 1000) (omega arith) in
    λ i. record {
      address = address i;
      callsign = callsign i;
      on_ground = on_ground i;
      altitude = altitude i;
      squawk = squawk i;
      velocity = velocity i;
      vertical = vertical i;
      latitude = latitude i;
      longitude = longitude i;
      age = age i;
    }

pub rows_back : (log : Log) → IsLegal log → All (λ row. read_row (row_text (clock_of log) row) ≡ shown_row (clock_of log) row) (table_of log)
rows_back log legal =
    All-weaker (IsInRange (clock_of log)) (λ row. read_row (row_text (clock_of log) row) ≡ shown_row (clock_of log) row) (λ row is. row_back (clock_of log) row is) (table_of log) (rows_in_range log legal)

-- rows with the same line show the same
pub same_lines : (log other : Log) → IsLegal log → IsLegal other → (row row' : Aircraft) → Contains (table_of log) row → Contains (table_of other) row'
    → row_text (clock_of log) row ≡ row_text (clock_of other) row' → shown_row (clock_of log) row ≡ shown_row (clock_of other) row'
same_lines log other legal legal' row row' here there same =
    sym (All-contains (λ r. read_row (row_text (clock_of log) r) ≡ shown_row (clock_of log) r) (table_of log) row (rows_back log legal) here)
    ∙ ap read_row same
    ∙ All-contains (λ r. read_row (row_text (clock_of other) r) ≡ shown_row (clock_of other) r) (table_of other) row' (rows_back other legal') there
