-- An accepted command line, from the whole line down to the rows of `run`.
use Rattle.std.proofs.Common.{rules, ◌≡◌, ◌∙◌, ◌⊎◌, inl, inr, true, false, List, [], ◌∷◌, Option, Some, None, IfSome, refl, sym, ap, subst, length, codes, arith, find, ◌||◌, is_some, option_map, bytes_eq}
use Rattle.std.proofs.lemmas.Bool.{or_cases}
use Rattle.std.proofs.lemmas.Option.{none-some, some_pair_parts}
use Rattle.std.proofs.lemmas.Slice.Eq.{bytes_eq-Decides}
use Rattle.std.specs.Prelude.{⊤}
use Rattle.std.specs.Option.{option_map_or}
use Rattle.clap.specs.Faults.{check_fault, entered_fault, fault_of, level_fault}
use Rattle.clap.specs.Simple.{Shape, argument_words, built, built_leaf, entered, help_shape, inherited, label_of, marked_built, names_of, rows_at, with_leaf_noted}
use Rattle.clap.specs.Walk.{Row, Text, answers_to, finished, nothing_held, rows_after, walk}
use Rattle.clap.specs.Words.{subcommand_of}
use Rattle.clap.proofs.OnLiterals.{clap_on_literals}
use Rattle.command_line.specs.Command.{WordNames, replay, run, station}
use Rattle.command_line.proofs.FoundLemmas.{Among, found}
use Rattle.command_line.proofs.RowLemmas.{AreRowsOf, leaf_rows}
use Rattle.command_line.proofs.WalkedLemmas.{IsOther, level_keeps, not_none}

abbrev replay_shape : WordNames → Shape
replay_shape names = built_leaf (inherited (with_leaf_noted (marked_built (station names).top)) (replay names).top)

abbrev pub run_shape : WordNames → Shape
run_shape names = built_leaf (inherited (with_leaf_noted (marked_built (station names).top)) (run names).top)

shapes_are : (names : WordNames) → (built (station names)).subs ≡ replay_shape names ∷ run_shape names ∷ built_leaf help_shape ∷ []
unfolding clap_on_literals
shapes_are names = refl

help_alone : (word : Text) → (bytes_eq (codes "help") word || false) ≡ true → bytes_eq word (codes "help") ≡ false → ⊥
help_alone word answers other =
    let same : codes "help" ≡ word = (bytes_eq-Decides (codes "help") word).0 (elim (or_cases (bytes_eq (codes "help") word) false answers) [ inl is ↦ is | inr none ↦ absurd (search rules) ]) in
    let bad : true ≡ false = ap (λ (t : Text). bytes_eq t (codes "help")) same ∙ other in
    absurd (search rules)

-- a subcommand that is met by another name than `help` is `replay` or `run`
two_jobs : (names : WordNames) (s : Shape) (word : Text) → Among s (replay_shape names ∷ run_shape names ∷ built_leaf help_shape ∷ []) → answers_to word (label_of s) ≡ true → bytes_eq word (codes "help") ≡ false
    → (replay_shape names ≡ s) ⊎ (run_shape names ≡ s)
two_jobs names s word (inl same) answers other = inl same
two_jobs names s word (inr (inl same)) answers other = inr same
two_jobs names s word (inr (inr (inl same))) answers other = absurd (help_alone word (subst (λ t. answers_to word (label_of t) ≡ true) (sym same) answers) other)
two_jobs names s word (inr (inr (inr none))) answers other = absurd none

-- the subcommand whose name and rows these are, after words that it accepts
record Level (names : WordNames) (name : Text) (rows : List Row) : Type 0 where
  shape : Shape
  words : List Text
  job : (replay_shape names ≡ shape) ⊎ (run_shape names ≡ shape)
  name_is : shape.name ≡ name
  rows_are : rows_after shape.rules [] words ≡ rows
  passes : level_fault shape [] nothing_held words false [] ≡ []

level_found : (names : WordNames) (o : Option Shape) (p : Text × List Text) (name : Text) (rows : List Row)
    → IfSome o (λ s. Among s (built (station names)).subs × (answers_to p.0 (label_of s) ≡ true)) → bytes_eq p.0 (codes "help") ≡ false
    → option_map (λ s. rows_at s p.1) o ≡ Some (name, rows) → option_map_or (λ s. level_fault s [] nothing_held p.1 false []) o [] ≡ [] → Level names name rows
level_found names None p name rows met other named passes = absurd (none-some (name, rows) named)
level_found names (Some s) p name rows met other named passes =
    let job = two_jobs names s p.0 (subst (Among s) (shapes_are names) met.0) met.1 other in
    let same = some_pair_parts s.name name (rows_after s.rules [] p.1) rows named in
    record { shape = s; words = p.1; job = job; name_is = same.0; rows_are = same.1; passes = passes }

level_down : (names : WordNames) (stop : Option (Text × List Text)) (name : Text) (rows : List Row) → IfSome stop (λ p. IsOther (built (station names)).top p.0)
    → entered (built (station names)) stop ≡ Some (name, rows) → entered_fault (built (station names)) stop ≡ [] → Level names name rows
level_down names None name rows other named passes = absurd (none-some (name, rows) named)
level_down names (Some p) name rows other named passes =
    let test = λ (s : Shape). answers_to p.0 (label_of s) in
    level_found names (find test (built (station names)).subs) p name rows (found test (built (station names)).subs) (other refl) named passes

has_subcommand : (names : WordNames) (met : Option (Text × List Row)) (rows : List Row) → check_fault (built (station names)).top rows (is_some met) ≡ [] → met ≡ None → ⊥
has_subcommand names None rows e none = absurd (not_none _ _ e)
has_subcommand names (Some p) rows e none = none-some p (sym none)

module _ (names : WordNames) (words : List Text) (passes : fault_of (station names) words ≡ []) where
  level_of : (name : Text) (rows : List Row) → subcommand_of (station names) words ≡ Some (name, rows) → Level names name rows
  level_of name rows named =
      let a = built (station names) in
      let level = level_keeps a.top (λ _. ⊤) (λ _ _ _ _ _ _. tt) (names_of a) (argument_words (station names) words) _ _ passes tt in
      level_down names _ name rows level.1 named level.2

  pub some_job : subcommand_of (station names) words ≡ None → ⊥
  some_job none =
      let a = built (station names) in
      let given = argument_words (station names) words in
      let level = level_keeps a.top (λ _. ⊤) (λ _ _ _ _ _ _. tt) (names_of a) given _ _ passes tt in
      has_subcommand names _ (finished a.top.rules (walk a.top.rules (names_of a) nothing_held given).held) level.3 none

  pub names_job : (name : Text) (rows : List Row) → subcommand_of (station names) words ≡ Some (name, rows) → (name ≡ codes "replay") ⊎ (name ≡ codes "run")
  names_job name rows named =
      let level = level_of name rows named in
      elim level.job [
        | inl same ↦ inl (sym level.name_is ∙ ap (λ (s : Shape). s.name) (sym same))
        | inr same ↦ inr (sym level.name_is ∙ ap (λ (s : Shape). s.name) (sym same))
      ]

  -- the rows of `run`, which lack nothing that it requires
  pub run_rows : (rows : List Row) → subcommand_of (station names) words ≡ Some (codes "run", rows) → AreRowsOf (run_shape names).rules rows × (check_fault (run_shape names) rows false ≡ [])
  run_rows rows named =
      let level = level_of (codes "run") rows named in
      elim level.job [
        | inl same ↦ let bad : 6 ≡ 3 = ap (λ (t : Text). length t) (ap (λ (s : Shape). s.name) same ∙ level.name_is) in absurd (omega (arith, bad))
        | inr same ↦
            let passes = subst (λ s. level_fault s [] nothing_held level.words false [] ≡ []) (sym same) level.passes in
            subst (λ rows. AreRowsOf (run_shape names).rules rows × (check_fault (run_shape names) rows false ≡ []))
            (ap (λ (s : Shape). rows_after s.rules [] level.words) same ∙ level.rows_are) (leaf_rows (run_shape names) level.words refl refl passes)
      ]
