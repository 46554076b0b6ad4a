-- From what `clap` ensures of its getters to the job.
use Rattle.std.proofs.Common.{inl, inr, ◌≡◌, ◌∙◌, ℕ, ◌≤◌, ◌<◌, ◌^◌, List, Option, Some, None, IfSome, Bool, true, false, arith, map, option_map, refl, sym, ap, subst, [], length, codes, is_some, option_and_then, unwrap_or, box_value, if◌then◌else◌}
use Rattle.clap.specs.declared.parser.matches.ArgMatches.{ArgMatches}
use Rattle.clap.specs.declared.parser.matches.ArgMatches.TheViews.{out-ArgMatches, out-SubCommand}
use Rattle.std.proofs.lemmas.List.{length-map}
use Rattle.std.proofs.lemmas.Option.{none-some}
use Rattle.std.specs.Str.Parse.{ExplainsUnsignedError, HasUnsignedDigitsIfOk, ParsesUnsigned}
use Rattle.clap.specs.Words.{App, HasMatchesOf, ReadsOne, Row, Text, fault_of, first_of, found_of, is_simple, is_simple_and_free, one_of, one_text, rows_of, subcommand_name_of, subcommand_of, subcommand_rows_of}
use Rattle.clap.specs.declared.parser.matches.Found.{Found}
use Rattle.clap.proofs.WalkLemmas.{one_text-rows}
use Rattle.command_line.proofs.LineLemmas.{some_job}
use Rattle.command_line.proofs.RunLemmas.{run_given}
use Rattle.clap.proofs.OnLiterals.{clap_on_literals}
use Rattle.modes_cpr.specs.declared.points.Reference.{Reference}
use Rattle.command_line.specs.Command.{WordNames, GivesPlace, IsFlagText, IsGiven, IsNumberUpTo, is_set, misplaced_text, number_if_given, station}
use Rattle.command_line.specs.Places.{place_named}

is_simple-station : (names : WordNames) → is_simple (station names) ≡ true
unfolding clap_on_literals
is_simple-station names = refl

pub is_free-station : (names : WordNames) → is_simple_and_free (station names) ≡ true
unfolding clap_on_literals
is_free-station names = refl

-- what `get_one` reads of a text as an unsigned number
abbrev Reads : ℕ → Text → Option ℕ → Type 0
Reads k t got = ReadsOne (λ t r. ParsesUnsigned k 10 t r × ExplainsUnsignedError 10 t r × HasUnsignedDigitsIfOk t r) t got

number_of_one : (k most : ℕ) (one : Option Text) (got : Option ℕ) → most < 2 ^ k → IfSome one (IsNumberUpTo most) → (one ≡ None → got ≡ None) → ((t : Text) → one ≡ Some t → Reads k t got)
    → (got ≡ number_if_given one) × IfSome got (λ n. (1 ≤ n) × (n ≤ most))
number_of_one k most None got few fits none value = (none refl, subst (λ g. IfSome g (λ n. (1 ≤ n) × (n ≤ most))) (sym (none refl)) tt)
number_of_one k most (Some t) None few fits none value = let failed = value t refl in absurd (failed.1.0 (fits.numeral, omega (arith, few, fits.most)))
number_of_one k most (Some t) (Some n) few fits none value = let is = (value t refl).0.1 in (ap Some is, rw is (fits.least, fits.most))

-- what `get_one` read of an option is its number, if it has one
pub number_read : (k most : ℕ) (found : Found) (id : Text) (got : Option ℕ) → most < 2 ^ k → IfSome (one_of id (rows_of found)) (IsNumberUpTo most)
    → (one_text found id ≡ None → got ≡ None) → ((t : Text) → one_text found id ≡ Some t → Reads k t got)
    → (got ≡ number_if_given (one_of id (rows_of found))) × IfSome got (λ n. (1 ≤ n) × (n ≤ most))
number_read k most found id got few fits none value =
    let same = one_text-rows found id in
    number_of_one k most (one_of id (rows_of found)) got few fits (λ e. none (same ∙ e)) (λ t e. value t (same ∙ e))

-- rounds that aren't given are one
pub rounds_in_range : (rounds : Option ℕ) → IfSome rounds (λ n. (1 ≤ n) × (n ≤ 1000)) → (1 ≤ unwrap_or rounds 1) × (unwrap_or rounds 1 ≤ 1000)
rounds_in_range None fits = (omega arith, omega arith)
rounds_in_range (Some n) fits = fits

pub number_is_some : (given : Option Text) → is_some (number_if_given given) ≡ is_some given
number_is_some None = refl
number_is_some (Some text) = refl

flag_of_one : (one : Option Text) (got : Bool) → IfSome one IsFlagText → (one ≡ None → got ≡ false) → (one ≡ Some (codes "true") → got ≡ true) → (one ≡ Some (codes "false") → got ≡ false) → got ≡ is_set one
flag_of_one None got fits none if_true if_false = none refl
flag_of_one (Some t) got (inl given) none if_true if_false = if_true (ap Some given) ∙ sym (ap (λ t. is_set (Some t)) given)
flag_of_one (Some t) got (inr missing) none if_true if_false = if_false (ap Some missing) ∙ sym (ap (λ t. is_set (Some t)) missing)

-- what `get_flag` read
pub flag_read : (found : Found) (id : Text) (got : Bool) → IfSome (one_of id (rows_of found)) IsFlagText → (one_text found id ≡ None → got ≡ false)
    → (one_text found id ≡ Some (codes "true") → got ≡ true) → (one_text found id ≡ Some (codes "false") → got ≡ false) → got ≡ is_set (one_of id (rows_of found))
flag_read found id got fits none if_true if_false =
    let same = one_text-rows found id in
    flag_of_one (one_of id (rows_of found)) got fits (λ e. none (same ∙ e)) (λ e. if_true (same ∙ e)) (λ e. if_false (same ∙ e))

-- a `map` keeps the number of its items
pub same_length : {A B C : Type 0} (f : A → C) (g : B → C) (xs : List A) (ys : List B) → map f xs ≡ map g ys → length xs ≡ length ys
same_length f g xs ys e = sym (length-map xs f) ∙ ap length e ∙ length-map ys g

-- the name and the rows that an option holds, each known alone
both_known : {B : Type 0} (f : B → Text) (g : B → List Row) (o : Option B) (name : Text) (rows : List Row)
    → Some name ≡ option_map f o → Some rows ≡ option_map {T = Text × List Row} (λ p. p.1) (option_map (λ b. (f b, g b)) o)
    → option_map {U = Text × List Row} (λ b. (f b, g b)) o ≡ Some (name, rows)
both_known f g None name rows n r = absurd (none-some name (sym n))
both_known f g (Some b) name rows n r = grind (arith, n, r)

name_first : {B : Type 0} (f : B → Text) (g : B → List Row) (o : Option B) → None ≡ option_map f o → option_map {U = Text × List Row} (λ b. (f b, g b)) o ≡ None
name_first f g None none = refl
name_first f g (Some b) none = absurd (none-some (f b) none)

-- the command line as `clap` ensures that it read it
module _ (names : WordNames) (made : App) (m : ArgMatches) (words : List Text) (made_is : made ≡ station names)
    (kinds : is_simple_and_free made ≡ true → fault_of made words ≡ []) (matches : HasMatchesOf made words m) where
  passes : fault_of (station names) words ≡ []
  passes = subst (λ a. fault_of a words ≡ []) made_is (kinds (ap is_simple_and_free made_is ∙ is_free-station names))

  rows_are : subcommand_rows_of m ≡ subcommand_of (station names) words
  rows_are = (matches (ap is_simple made_is ∙ is_simple-station names)).1 ∙ ap (λ a. subcommand_of a words) made_is

  pub line_named : (name : Text) (rows : List Row) → Some name ≡ subcommand_name_of m → Some rows ≡ option_map (λ p. p.1) (subcommand_rows_of m)
      → (fault_of (station names) words ≡ []) × (subcommand_of (station names) words ≡ Some (name, rows))
  line_named name rows n r =
      (passes, sym rows_are ∙ both_known (λ b. (out-SubCommand (box_value b)).name.now) (λ b. rows_of (found_of (out-SubCommand (box_value b)).matches)) (out-ArgMatches m).subcommand name rows n r)

  pub line_of_run : (name : Text) (rows : List Row) → Some name ≡ subcommand_name_of m → Some rows ≡ option_map (λ p. p.1) (subcommand_rows_of m) → name ≡ codes "run"
      → (fault_of (station names) words ≡ []) × (subcommand_of (station names) words ≡ Some (codes "run", rows)) × IsGiven rows
  line_of_run name rows n r is =
      let named = subst (λ name. subcommand_of (station names) words ≡ Some (name, rows)) is (line_named name rows n r).1 in
      (passes, named, run_given names words rows named passes)

  -- it names a subcommand
  pub line_unnamed : None ≡ subcommand_name_of m → ⊥
  line_unnamed none =
      some_job names words passes (sym rows_are ∙ name_first (λ b. (out-SubCommand (box_value b)).name.now) (λ b. rows_of (found_of (out-SubCommand (box_value b)).matches)) (out-ArgMatches m).subcommand none)

-- no place is given, or the one that the text of `--at` names, or its text names none
pub no_place_given : (rows : List Row) → None ≡ first_of (codes "at") rows → GivesPlace rows None
no_place_given rows is = record { named = ap misplaced_text (sym is); site_is = ap (option_and_then place_named) is }

pub place_given : (rows : List Row) (text : Text) (site : Reference) → Some text ≡ first_of (codes "at") rows → Some site ≡ place_named text → GivesPlace rows (Some site)
place_given rows text site is named =
    record { named = ap misplaced_text (sym is) ∙ ap (λ (o : Option Reference). if is_some o then None else Some text) (sym named); site_is = named ∙ ap (option_and_then place_named) is }

pub no_place_named : (rows : List Row) (text : Text) → Some text ≡ first_of (codes "at") rows → None ≡ place_named text → misplaced_text (first_of (codes "at") rows) ≡ Some text
no_place_named rows text is none = ap misplaced_text (sym is) ∙ ap (λ (o : Option Reference). if is_some o then None else Some text) (sym none)
