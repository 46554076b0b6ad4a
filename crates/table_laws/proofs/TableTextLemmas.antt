-- The rows of a table are read back from its text.
use Rattle.std.proofs.Common.{◌≡◌, ◌≢◌, ℕ, zero, suc, ◌-◌, ◌^◌, ◌<◌, ◌≤◌, if◌then◌else◌, List, [], ◌∷◌, ◌++◌, length, codes, refl, ap, ap₂, ◌∙◌, arith, append_assoc, length-append, ne_eqb, decimal, flat_map, map}
use Rattle.std.specs.List.{AllByRecursion}
use Rattle.std.proofs.lemmas.List.{drop_at, take_at, length-map}
use Rattle.std.proofs.lemmas.List.Elements.{recursion_from_All}
use Rattle.station_journal.specs.declared.aircraft.Aircraft.{Aircraft}
use Rattle.station_journal.proofs.Common.{IsLegal, Log, clock_of, past_of, table_of, AllOver, IsRising}
use Rattle.station_journal.proofs.TableLemmas.{rising_table}
use Rattle.station_report.specs.Text.{first_line, header, row_text, text}
use Rattle.table_laws.specs.Ranges.{IsInRange}
use Rattle.table_laws.specs.Reading.{shown_row, read_row, after_line, row_lines, read_table}
use Rattle.table_laws.proofs.NumberLemmas.{IsDecimal, each_append, decimal_digits}
use Rattle.table_laws.proofs.TextLemmas.{each_weaker}
use Rattle.table_laws.proofs.ColumnLemmas.{laid_out}
use Rattle.table_laws.proofs.ReadLemmas.{row_back}
use Rattle.table_laws.proofs.RowLemmas.{rows_in_range}

-- ---- the first two lines

abbrev IsNoFeed : ℕ → Type 0
IsNoFeed c = c ≢ 10

after_line-is : (line rest : List ℕ) → AllByRecursion IsNoFeed line → after_line (line ++ 10 ∷ rest) ≡ rest
after_line-is [] rest h = refl
after_line-is (c ∷ cs) rest h = ap (λ t. if t then cs ++ 10 ∷ rest else after_line (cs ++ 10 ∷ rest)) (ne_eqb c 10 h.0) ∙ after_line-is cs rest h.1

no_feed : (n : ℕ) → n < 2 ^ 64 → AllByRecursion IsNoFeed (decimal n)
no_feed n small = each_weaker IsDecimal IsNoFeed (λ c h e. let low = h.0 in omega (arith, e)) (decimal n) (decimal_digits n small)

counted : (now count : ℕ) (rest : List ℕ) → now < 2 ^ 64 → count < 2 ^ 64 → after_line (first_line now count ++ rest) ≡ rest
unfolding first_line
counted now count rest small few =
    ap after_line (append_assoc (codes "now " ++ decimal now ++ codes " aircraft " ++ decimal count) (10 ∷ []) rest)
    ∙ after_line-is (codes "now " ++ decimal now ++ codes " aircraft " ++ decimal count) rest
    (each_append IsNoFeed (codes "now " ++ decimal now ++ codes " aircraft ") (decimal count)
    (each_append IsNoFeed (codes "now " ++ decimal now) (codes " aircraft ")
    (each_append IsNoFeed (codes "now ") (decimal now) now_word (no_feed now small)) aircraft_word) (no_feed count few))
  where
    now_word : AllByRecursion IsNoFeed (codes "now ")
    now_word = ((λ e. omega (arith, e)), ((λ e. omega (arith, e)), ((λ e. omega (arith, e)), ((λ e. omega (arith, e)), tt))))

    aircraft_word : AllByRecursion IsNoFeed (codes " aircraft ")
    aircraft_word = ((λ e. omega (arith, e)), ((λ e. omega (arith, e)), ((λ e. omega (arith, e)), ((λ e. omega (arith, e)), ((λ e. omega (arith, e)), ((λ e. omega (arith, e)), ((λ e. omega (arith, e)), ((λ e. omega (arith, e)), ((λ e. omega (arith, e)), ((λ e. omega (arith, e)), tt))))))))))

headed : (rest : List ℕ) → after_line (header ++ rest) ≡ rest
unfolding header
headed rest = refl

-- ---- the rows

module _ (now : ℕ) where
  size_of : (row : Aircraft) → IsInRange now row → length (row_text now row) ≡ 74
  size_of row h = (laid_out now row h).size

  some_byte : (text rest : List ℕ) (n : ℕ) → length text ≡ 74 → row_lines (suc n) (text ++ rest) ≡ text ∷ row_lines n rest
  some_byte [] rest n size = absurd (omega arith)
  some_byte (c ∷ cs) rest n size = ap₂ (λ a b. a ∷ row_lines n b) (take_at (c ∷ cs) rest 74 size) (drop_at (c ∷ cs) rest 74 size)

  lines_back : (rows : List Aircraft) (n : ℕ) → AllByRecursion (IsInRange now) rows → length rows ≤ n → row_lines n (flat_map (row_text now) rows) ≡ map (row_text now) rows
  lines_back [] zero h fits = refl
  lines_back [] (suc n) h fits = refl
  lines_back (row ∷ rows) zero h fits = absurd (omega arith)
  lines_back (row ∷ rows) (suc n) h fits =
      some_byte (row_text now row) (flat_map (row_text now) rows) n (size_of row h.0)
      ∙ ap (λ l. row_text now row ∷ l) (lines_back rows n h.1 (omega arith))

  shown_back : (rows : List Aircraft) → AllByRecursion (IsInRange now) rows → map read_row (map (row_text now) rows) ≡ map (shown_row now) rows
  shown_back [] h = refl
  shown_back (row ∷ rows) h = ap₂ (λ a b. a ∷ b) (row_back now row h.0) (shown_back rows h.1)

  long_enough : (rows : List Aircraft) → AllByRecursion (IsInRange now) rows → length rows ≤ length (flat_map (row_text now) rows)
  long_enough [] h = omega arith
  long_enough (row ∷ rows) h = omega (arith, size_of row h.0, long_enough rows h.1, length-append (row_text now row) (flat_map (row_text now) rows))

  table_back : (rows : List Aircraft) → AllByRecursion (IsInRange now) rows → now < 2 ^ 64 → length rows < 2 ^ 64 → read_table (text rows now) ≡ map (shown_row now) rows
  table_back rows h small few =
      let lines = flat_map (row_text now) rows in
      let front = first_line now (length rows) in
      let rest : after_line (after_line (text rows now)) ≡ lines =
      ap (λ t. after_line (after_line t)) (append_assoc front header lines) ∙ ap after_line (counted now (length rows) (header ++ lines) small few) ∙ headed lines in
      let fits : length rows ≤ length (text rows now) = omega (arith, long_enough rows h, length-append (front ++ header) lines) in
      ap (λ t. map read_row (row_lines (length (text rows now)) t)) rest
      ∙ ap (map read_row) (lines_back rows (length (text rows now)) h fits)
      ∙ shown_back rows h

-- ---- how many rows there are

-- rising numbers from k on that are below n
few_rising : (n k : ℕ) (xs : List ℕ) → AllByRecursion (λ a. a < n) xs → AllOver k xs → IsRising xs → length xs ≤ n - suc k
few_rising n k [] below over up = omega arith
few_rising n k (x ∷ xs) below over up =
    let rest = few_rising n x xs below.1 up.0 up.1 in
    let here = over.0 in
    let small = below.0 in
    omega arith

few_numbers : (n : ℕ) (xs : List ℕ) → AllByRecursion (λ a. a < n) xs → IsRising xs → length xs ≤ n
few_numbers n [] below up = omega arith
few_numbers n (x ∷ xs) below up =
    let rest = few_rising n x xs below.1 up.0 up.1 in
    let small = below.0 in
    omega arith

addresses_below : (now : ℕ) (rows : List Aircraft) → AllByRecursion (IsInRange now) rows → AllByRecursion (λ a. a < 2 ^ 24) (map (λ (r : Aircraft). r.address) rows)
addresses_below now [] h = tt
addresses_below now (row ∷ rows) h = (h.0.address, addresses_below now rows h.1)

pub table_read : (log : Log) → IsLegal log → clock_of log < 2 ^ 64 → read_table (text (table_of log) (clock_of log)) ≡ map (shown_row (clock_of log)) (table_of log)
table_read log legal small =
    let rows = table_of log in
    let each = recursion_from_All (IsInRange (clock_of log)) rows (rows_in_range log legal) in
    let most = few_numbers (2 ^ 24) (map (λ (r : Aircraft). r.address) rows) (addresses_below (clock_of log) rows each) (rising_table log.limits.site log.base (past_of log)) in
    table_back (clock_of log) rows each small (omega (arith, most, length-map rows (λ (r : Aircraft). r.address)))
