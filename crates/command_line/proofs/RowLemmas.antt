-- What the rule of an option says of its row, after accepted uses and defaults of any options.
use Rattle.std.proofs.Common.{◌≡◌, ◌∙◌, ◌≤◌, ◌⊎◌, inl, inr, Bool, true, false, List, [], ◌∷◌, ◌++◌, Some, None, IfSome, All, refl, sym, ap, subst, rules, arith, append-nil, length, filter, find, fold, if◌then◌else◌, bytes_eq}
use Rattle.std.proofs.lemmas.Bool.{or_parts}
use Rattle.std.proofs.lemmas.List.Elements.{All-nil, All-push}
use Rattle.std.proofs.lemmas.Option.{IfSome_then}
use Rattle.std.specs.List.{list_all}
use Rattle.clap.specs.Facts.{unwrap_or_range}
use Rattle.clap.specs.Faults.{action_fault, check_fault, level_fault, repeat_fault, set_fault, use_fault, values_fault}
use Rattle.clap.specs.Kinds.{range_kinds}
use Rattle.clap.specs.Simple.{Shape}
use Rattle.clap.specs.Walk.{Row, Rule, Text, action_of, at_row, default_rows, has_row, more_values, most_values, nothing_held, reading_by, rows_after, used, used_as, values_or_missing, with_default, with_values, without}
use Rattle.clap.specs.declared.builder.action.ArgAction.{ArgAction}
use Rattle.clap.specs.declared.builder.action.ArgAction.TheVariants.{Append, Count, Set, SetFalse, SetTrue}
use Rattle.clap.specs.declared.parser.matches.ValueSource.{ValueSource}
use Rattle.clap.specs.declared.parser.matches.ValueSource.TheVariants.{CommandLine, DefaultValue}
use Rattle.command_line.proofs.FoundLemmas.{Among, all_among, filtered, found, passes_among}
use Rattle.command_line.proofs.WalkedLemmas.{Keeps, both_empty, level_keeps}

-- as many values as the option takes, or the text that stands for a use with none, each accepted by its parser
abbrev IsUse : Rule → List Text → Type 0
IsUse a values = (given : List Text) × (range_kinds (unwrap_or_range a.range).start_inclusive (most_values a) (length given) ≡ [])
    × (values ≡ values_or_missing a given) × (values_fault a (values_or_missing a given) ≡ [])

-- the row of an option after an accepted use, or by its default
abbrev pub IsRowOf : Rule → Row → Type 0
IsRowOf a r = (r.id ≡ a.id) × (r.reading ≡ reading_by a) × (IsUse a r.values ⊎ ((r.values ≡ a.defaults) × (1 ≤ length r.values)))

-- the row of one of these options
abbrev IsRowAmong : List Rule → Row → Type 0
IsRowAmong options r = (a : Rule) × Among a options × IsRowOf a r

-- each row is of one of these options
abbrev pub AreRowsOf : List Rule → List Row → Type 0
AreRowsOf options rows = All (IsRowAmong options) rows

-- a first use or a default of an option makes a new row
abbrev row_for : ValueSource → Rule → List Text → Row
row_for from a values = record { id = a.id; values = values; count = None; source = Some from; reading = reading_by a }

absent : (id : Text) (change : Row → List Row) (missing rows : List Row) → has_row id rows ≡ false → at_row id change missing rows ≡ rows ++ missing
absent id change missing [] e = refl
absent id change missing (r ∷ rs) e =
    let parts = or_parts (bytes_eq r.id id) (has_row id rs) e in
    rw parts.0 (ap (λ t. r ∷ t) (absent id change missing rs parts.1))

-- an accepted use adds a row, and changes none
abbrev adds_once : ArgAction → Bool
adds_once Append = false
adds_once Count = false
adds_once _ = true

module _ (options : List Rule) (a : Rule) (is_among : Among a options) (rows : List Row) (kept : AreRowsOf options rows) where
  abbrev Fits : List Text → Type 0
  Fits given = range_kinds (unwrap_or_range a.range).start_inclusive (most_values a) (length given) ≡ []

  adds : (given : List Text) → Fits given → set_fault false a (values_or_missing a given) rows ≡ [] → AreRowsOf options (used_as Set a.id (reading_by a) (values_or_missing a given) rows)
  adds given fits e =
      let values = values_or_missing a given in
      let parts = both_empty (repeat_fault false a.id rows) (values_fault a values) e in
      let repeat = parts.0 in
      let first : has_row a.id rows ≡ false = grind (arith, repeat) in
      let bare : without a.id rows ≡ rows = absent a.id (λ _. []) [] rows first ∙ append-nil rows in
      let row = row_for CommandLine a values in
      let added = ap (with_values a.id (reading_by a) CommandLine values) bare ∙ absent a.id (more_values CommandLine values) (row ∷ []) rows first in
      subst (AreRowsOf options) (sym added) (All-push (IsRowAmong options) rows row kept (a, is_among, (refl, refl, inl (given, fits, refl, parts.1))))

  acts : (action : ArgAction) (given : List Text) → adds_once action ≡ true → Fits given → action_fault action false a (values_or_missing a given) rows ≡ []
      → AreRowsOf options (used_as action a.id (reading_by a) (values_or_missing a given) rows)
  acts Set given once fits e = adds given fits e
  acts SetTrue given once fits e = adds given fits e
  acts SetFalse given once fits e = adds given fits e
  acts Append given once fits e = absurd (search rules)
  acts Count given once fits e = absurd (search rules)
  acts _ given once fits e = kept

  keeps : (given : List Text) → adds_once (action_of a) ≡ true → use_fault false a given rows ≡ [] → AreRowsOf options (used a given rows)
  keeps given once e =
      let parts = both_empty (range_kinds (unwrap_or_range a.range).start_inclusive (most_values a) (length given)) _ e in
      acts (action_of a) given once parts.0 parts.1

  default_step : (b : Bool) (values : List Text) → has_row a.id rows ≡ b → values ≡ a.defaults → AreRowsOf options (if b then rows else default_rows a.id (reading_by a) values rows)
  default_step true values is same = kept
  default_step false [] is same = kept
  default_step false (v ∷ vs) is same =
      let row = row_for DefaultValue a (v ∷ vs) in
      subst (AreRowsOf options) (sym (absent a.id (more_values DefaultValue (v ∷ vs)) (row ∷ []) rows is))
      (All-push (IsRowAmong options) rows row kept (a, is_among, (refl, refl, inr (same, omega arith))))

defaults_keep : (options rest : List Rule) (rows : List Row) → ((a : Rule) → Among a rest → Among a options) → AreRowsOf options rows → AreRowsOf options (fold with_default rows rest)
defaults_keep options [] rows inside kept = kept
defaults_keep options (a ∷ rest) rows inside kept =
    defaults_keep options rest (with_default rows a) (λ b there. inside b (inr there)) (default_step options a (inside a (inl refl)) rows kept (has_row a.id rows) a.defaults refl refl)

-- the rows of a subcommand after accepted words, which lack nothing that it requires
pub leaf_rows : (s : Shape) (words : List Text) → s.args_override_self ≡ false → list_all (λ a. adds_once (action_of a)) s.rules ≡ true → level_fault s [] nothing_held words false [] ≡ []
    → AreRowsOf s.rules (rows_after s.rules [] words) × (check_fault s (rows_after s.rules [] words) false ≡ [])
leaf_rows s words once_each once e =
    let each : Keeps s.rules s.args_override_self (AreRowsOf s.rules) = λ a values rows at e kept.
    let is_among = (subst (λ o. IfSome o (λ b. Among b s.rules × (at.0 b ≡ true))) at.1 (found at.0 s.rules)).0 in
    keeps s.rules a is_among rows kept values (passes_among (λ a. adds_once (action_of a)) s.rules a once is_among) (subst (λ again. use_fault again a values rows ≡ []) once_each e) in
    let level = level_keeps s (AreRowsOf s.rules) each [] words false [] e (All-nil (IsRowAmong s.rules)) in
    (defaults_keep s.rules s.rules _ (λ a there. there) level.0, level.3)

of_only : (a b : Rule) (r : Row) → Among b (a ∷ []) → IsRowOf b r → IsRowOf a r
of_only a b r (inl same) is = subst (λ c. IsRowOf c r) (sym same) is
of_only a b r (inr none) is = absurd none

-- a search by the id of an option finds its row, if no other option has the id
pub row_found : (options : List Rule) (rows : List Row) (a : Rule) → filter (λ b. bytes_eq b.id a.id) options ≡ a ∷ [] → AreRowsOf options rows → IfSome (find (λ r. bytes_eq r.id a.id) rows) (IsRowOf a)
row_found options rows a only kept = IfSome_then (find (λ r. bytes_eq r.id a.id) rows) (found (λ r. bytes_eq r.id a.id) rows) (λ r there.
    let of_one = all_among (IsRowAmong options) rows r kept there.0 in
    let left = filtered (λ b. bytes_eq b.id a.id) options of_one.0 of_one.1 (ap (λ id. bytes_eq id a.id) (sym of_one.2.0) ∙ there.1) in
    of_only a of_one.0 r (subst (Among of_one.0) only left) of_one.2)
