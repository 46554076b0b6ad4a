-- What an accepted command line gives `run`, by the rules of its options: one line for each whose value has bounds (`given_values`).
use Rattle.std.proofs.Common.{rules, ◌≡◌, ◌∙◌, ◌≤◌, ◌≤ℤ◌, inl, inr, ℕ, Bool, true, false, List, [], ◌∷◌, Option, Some, None, IfSome, refl, sym, ap, ap₂, subst, arith, length, codes, cond, drop, filter, find, neg_ℤ, pos, slice_get, unwrap_or, option_and_then, option_map, if◌then◌else◌, bytes_eq}
use Rattle.std.proofs.lemmas.Option.{IfSome_then}
use Rattle.std.proofs.lemmas.Int.{ints}
use Rattle.std.specs.Option.{option_map_or}
use Rattle.std.specs.Str.Parse.{IsNumeral, digits_value, starts_with_minus, without_leading_plus}
use Rattle.clap.specs.Facts.{explicit_source}
use Rattle.clap.specs.Faults.{check_fault}
use Rattle.clap.specs.Kinds.{range_kinds, value_kinds, values_kinds}
use Rattle.clap.specs.Simple.{filled, with_index}
use Rattle.clap.specs.Takes.{is_given}
use Rattle.clap.specs.Walk.{row_text, values_or_missing}
use Rattle.clap.specs.Words.{Row, Rule, Text, fault_of, one_of, read_as, subcommand_of, without_minus}
use Rattle.clap.specs.declared.builder.value_parser.Reading.TheVariants.{AsWritten, WithoutMinus}
use Rattle.clap.specs.declared.builder.value_parser.ValueParser.TheVariants.{Signed}
use Rattle.clap.proofs.ValueTestLemmas.{accepts-Accepts}
use Rattle.command_line.specs.Command.{IsFlagText, IsGiven, IsNumberUpTo, WordNames, flag_rule, number_rule, path, station}
use Rattle.command_line.proofs.LineLemmas.{run_rows, run_shape}
use Rattle.command_line.proofs.RowLemmas.{AreRowsOf, IsRowOf, row_found}
use Rattle.command_line.proofs.WalkedLemmas.{both_empty, not_none}

-- the rule of an option once its command is built
abbrev option : Rule → Rule
option rule = with_index 1 (filled rule)

-- ---- the texts of a row, by the kind of its option

-- the text that is read of a row has P
abbrev Reads : (Text → Type 0) → Row → Type 0
Reads P r = (v : Text) × (row_text r ≡ Some v) × P v

no_minus : (v : Text) → starts_with_minus v ≡ false → without_minus v ≡ v
no_minus [] e = refl
no_minus (x ∷ xs) e = ap (λ (b : Bool). unwrap_or (if b then Some xs else None) (x ∷ xs)) e

-- a number from 1 on has no minus sign
signed : (b : Bool) (most : ℕ) (v : Text)
    → (let ds = cond b (drop 1 v) (without_leading_plus v) in
    let z = cond b (neg_ℤ (pos (digits_value 10 ds))) (pos (digits_value 10 ds)) in
    IsNumeral 10 ds × (pos 1 ≤ℤ z) × (z ≤ℤ pos most))
    → (b ≡ false) × IsNumberUpTo most v
signed true most v fits = let least = fits.1 in absurd (omega (arith, ints, least))
signed false most v fits = let least = fits.1 in let most_is = fits.2 in (refl, record { numeral = fits.0; least = omega (arith, ints, least); most = omega (arith, ints, most_is) })

number_used : (id : Text) (most : ℕ) (required : Bool) (r : Row) (given : List Text) → r.reading ≡ WithoutMinus → range_kinds 1 1 (length given) ≡ []
    → (let values = values_or_missing (option (number_rule id most required)) given in (r.values ≡ values) × (values_kinds false (Signed (pos 1) (pos most)) values ≡ []))
    → Reads (IsNumberUpTo most) r
number_used id most required r [] how counted values = absurd (not_none _ _ counted)
number_used id most required r (v ∷ vs) how counted values =
    let read : row_text r ≡ Some (without_minus v) = ap₂ {C = Option Text} (λ how vs. option_map (read_as how) (slice_get vs 0)) how values.0 in
    let first = (both_empty (value_kinds false (Signed (pos 1) (pos most)) v) _ values.1).0 in
    let fits = accepts-Accepts false (Signed (pos 1) (pos most)) v (grind (arith, first)) in
    let facts = signed (starts_with_minus v) most v (fits.0, fits.2, fits.3) in
    (v, read ∙ ap Some (no_minus v facts.0), facts.1)

number_text : (id : Text) (most : ℕ) (required : Bool) (r : Row) → IsRowOf (option (number_rule id most required)) r → Reads (IsNumberUpTo most) r
number_text id most required r h = elim h.2 [
  | inl taken ↦ number_used id most required r taken.0 h.1 taken.1 (taken.2, taken.3)
  | inr bare ↦ let none = bare.0 in let some = bare.1 in absurd (grind (arith, none, some))
]

flag_reads : (text : Text) (r : Row) → r.reading ≡ AsWritten → r.values ≡ text ∷ [] → IsFlagText text → Reads IsFlagText r
flag_reads text r how values is = (text, ap₂ {C = Option Text} (λ how vs. option_map (read_as how) (slice_get vs 0)) how values, is)

flag_used : (id : Text) (r : Row) (given : List Text) → r.reading ≡ AsWritten → range_kinds 0 0 (length given) ≡ [] → r.values ≡ values_or_missing (option (flag_rule id)) given → Reads IsFlagText r
flag_used id r [] how counted values = flag_reads (codes "true") r how values (inl refl)
flag_used id r (v ∷ vs) how counted values = absurd (grind (arith, counted))

flag_text : (id : Text) (r : Row) → IsRowOf (option (flag_rule id)) r → Reads IsFlagText r
flag_text id r h = elim h.2 [
  | inl taken ↦ flag_used id r taken.0 h.1 taken.1 taken.2
  | inr missing ↦ flag_reads (codes "false") r h.1 missing.0 (inr refl)
]

-- 1 to 8 values
abbrev HasFewValues : Row → Type 0
HasFewValues r = (1 ≤ length r.values) × (length r.values ≤ 8)

path_used : (r : Row) (given : List Text) → range_kinds 1 8 (length given) ≡ [] → r.values ≡ values_or_missing (option path) given → HasFewValues r
path_used r [] counted values = absurd (not_none _ _ counted)
path_used r (v ∷ vs) counted values =
    let few : length (v ∷ vs) ≤ 8 = grind (arith, counted) in
    rw values (omega arith, few)

path_values : (r : Row) → IsRowOf (option path) r → HasFewValues r
path_values r h = elim h.2 [
  | inl taken ↦ path_used r taken.0 taken.1 taken.2
  | inr bare ↦ let none = bare.0 in let some = bare.1 in absurd (grind (arith, none, some))
]

-- ---- what the rows of the whole line give

-- what is true of the text of each row is true of the text that is read, if there is a row
text_fits : (P : Text → Type 0) (o : Option Row) → IfSome o (Reads P) → IfSome (option_and_then row_text o) P
text_fits P None reads = tt
text_fits P (Some r) reads = subst (λ text. IfSome text P) (sym reads.1) reads.2

-- an option that is given has a row
given_row : (P : Row → Type 0) (o : Option Row) → IfSome o P → option_map_or (λ r. explicit_source r.source) o false ≡ true → (r : Row) × (o ≡ Some r) × P r
given_row P None fits e = absurd (search rules)
given_row P (Some r) fits e = (r, refl, fits)

module _ (names : WordNames) (rows : List Row) (kept : AreRowsOf (run_shape names).rules rows) where
  -- the row of an option, whose id no other option has
  row_by_id : (rule : Rule) → filter (λ b. bytes_eq b.id rule.id) (run_shape names).rules ≡ option rule ∷ [] → IfSome (find (λ r. bytes_eq r.id rule.id) rows) (IsRowOf (option rule))
  row_by_id rule only = row_found (run_shape names).rules rows (option rule) only kept

  number_reads : (id : Text) (most : ℕ) (required : Bool) → filter (λ b. bytes_eq b.id id) (run_shape names).rules ≡ option (number_rule id most required) ∷ []
      → IfSome (find (λ r. bytes_eq r.id id) rows) (Reads (IsNumberUpTo most))
  number_reads id most required only = IfSome_then (find (λ r. bytes_eq r.id id) rows) (row_by_id (number_rule id most required) only) (number_text id most required)

  number_fits : (id : Text) (most : ℕ) → filter (λ b. bytes_eq b.id id) (run_shape names).rules ≡ option (number_rule id most false) ∷ [] → IfSome (one_of id rows) (IsNumberUpTo most)
  number_fits id most only = text_fits (IsNumberUpTo most) (find (λ r. bytes_eq r.id id) rows) (number_reads id most false only)

  flag_fits : (id : Text) → filter (λ b. bytes_eq b.id id) (run_shape names).rules ≡ option (flag_rule id) ∷ [] → IfSome (one_of id rows) IsFlagText
  flag_fits id only = text_fits IsFlagText (find (λ r. bytes_eq r.id id) rows) (IfSome_then (find (λ r. bytes_eq r.id id) rows) (row_by_id (flag_rule id) only) (flag_text id))

  -- nothing that `run` requires is missing
  both_given : check_fault (run_shape names) rows false ≡ [] → (is_given (codes "every") rows ≡ true) × (is_given (codes "path") rows ≡ true)
  both_given checked = (grind (arith, checked), grind (arith, checked))

  given_values : check_fault (run_shape names) rows false ≡ [] → IsGiven rows
  given_values checked =
      let given = both_given checked in
      let find_row = λ (id : Text). find (λ r. bytes_eq r.id id) rows in
      let every_row = given_row (Reads (IsNumberUpTo 3600000)) (find_row (codes "every")) (number_reads (codes "every") 3600000 true refl) given.0 in
      let path_row = given_row HasFewValues (find_row (codes "path")) (IfSome_then (find_row (codes "path")) (row_by_id path refl) path_values) given.1 in
      record {
        text = every_row.2.0;
        every = ap (option_and_then row_text) every_row.1 ∙ every_row.2.1;
        every_fits = every_row.2.2;
        tick_fits = number_fits (codes "tick") 60000 refl;
        watch_fits = number_fits (codes "watch") 86400 refl;
        rounds_fit = number_fits (codes "rounds") 1000 refl;
        reopen_fits = flag_fits (codes "reopen") refl;
        paths = path_row.0.values;
        paths_are = ap (option_map (λ r. r.values)) path_row.1;
        some = path_row.2.0;
        few = path_row.2.1;
      }

pub run_given : (names : WordNames) (words : List Text) (rows : List Row) → subcommand_of (station names) words ≡ Some (codes "run", rows) → fault_of (station names) words ≡ [] → IsGiven rows
run_given names words rows named passes = let met = run_rows names words passes rows named in given_values names rows met.0 met.1
