-- The command line as `clap` reads it, and the job that it names.
use Rattle.std.specs.Prelude.{◌≡◌, ◌≤◌, ℕ, List, [], ◌∷◌, Option, IfSome, Some, None, codes, true, false, pos, map, length, option_map, unwrap_or, Bool, is_some, ◌&&◌, ◌⊎◌, if◌then◌else◌, option_and_then, ⊤}
use Rattle.std.specs.Borrow.{Bor}
use Rattle.std.specs.Str.{bytes_eq}
use Rattle.std.specs.String.{string_bytes}
use Rattle.std.specs.Str.Parse.{IsNumeral, digits_value, without_leading_plus}
use Rattle.clap.specs.Words.{App, IsAmong, Row, Rule, Text, all_of, fault_of, first_of, kind_of, new_app, new_rule, one_of, subcommand_of}
use Rattle.clap.specs.Words.{app_of, rule_of, with_rule, with_subcommand}
use Rattle.clap.specs.declared.builder.arg.Arg.{Arg}
use Rattle.clap.specs.declared.builder.command.Command.{Command}
use Rattle.clap.specs.declared.builder.command.Command.TheViews.{out-Command}
use Rattle.clap.specs.declared.builder.action.ArgAction.TheVariants.{Set, SetTrue}
use Rattle.clap.specs.declared.builder.value_parser.ValueParser.TheVariants.{Names, NonEmptyString, Signed}
use Rattle.station_report.specs.declared.formats.Format.{Format}
use Rattle.station_report.specs.declared.formats.Format.TheVariants as Formats
use Rattle.station_journal.specs.Past.{Site}
use Rattle.command_line.specs.Places.{place_named}
use Rattle.command_line.specs.declared.clock_origin.ClockOrigin.{ClockOrigin}
use Rattle.command_line.specs.declared.clock_origin.ClockOrigin.TheVariants as begins
pub use Rattle.command_line.specs.declared.commands.WordNames.{WordNames}
use Rattle.command_line.specs.declared.words.Job.{Job}
use Rattle.command_line.specs.declared.words.Job.TheVariants.{Replay, Run}
use Rattle.command_line.specs.declared.words.RunArguments.{RunArguments}
use Rattle.command_line.specs.declared.words.WordsFault.{WordsFault}
use Rattle.command_line.specs.declared.words.WordsFault.TheVariants as words_fault
use Rattle.command_line.specs.declared.pace.Pace.{Pace}
use Rattle.command_line.specs.declared.table_format.TableFormat.{TableFormat}
use Rattle.command_line.specs.declared.table_format.TableFormat.TheVariants as form

-- a whole number from 1 to `most`, at most once, and required or not
abbrev pub number_rule : Text → ℕ → Bool → Rule
number_rule id most required = record (new_rule id) {
  long = Some id;
  value_names = 1;
  required = required;
  parser = Some (Signed (pos 1) (pos most));
}

-- a flag, at most once
abbrev pub flag_rule : Text → Rule
flag_rule id = record (new_rule id) { long = Some id; action = Some SetTrue }

-- `--every MS`: required, in milliseconds
abbrev pub every : Rule
every = number_rule (codes "every") 3600000 true

-- `--tick MS`: in milliseconds, and not required
abbrev pub tick : Rule
tick = number_rule (codes "tick") 60000 false

-- `--watch S`: in seconds, and not required
abbrev pub watch : Rule
watch = number_rule (codes "watch") 86400 false

-- `--rounds R`: not required
abbrev pub rounds : Rule
rounds = number_rule (codes "rounds") 1000 false

-- `--reopen`
abbrev pub reopen : Rule
reopen = flag_rule (codes "reopen")

-- `--stop PIPE`: any text but the empty one, at most once, and not required
abbrev pub stop_pipe : Rule
stop_pipe = record (new_rule (codes "stop")) {
  long = Some (codes "stop");
  value_names = 1;
  parser = Some NonEmptyString;
}

-- `--record FILE`: any text but the empty one, at most once, and not required
abbrev pub record_file : Rule
record_file = record (new_rule (codes "record")) {
  long = Some (codes "record");
  value_names = 1;
  parser = Some NonEmptyString;
}

-- `--at LAT,LON`: any text, at most once, and not required
abbrev pub at_place : Rule
at_place = record (new_rule (codes "at")) {
  long = Some (codes "at");
  value_names = 1;
}

-- the words of an option, as texts
abbrev pub texts_of : Bor (List (Bor Text)) → List Text
texts_of names = map (λ (name : Bor Text). name.now) names.now

-- the words of `--format` and of `--clock`, wherever the program keeps them
pub record AreWordNames (names : WordNames) : Type 0 where
  pub formats : texts_of names.formats ≡ codes "text" ∷ codes "json" ∷ []
  pub clocks : texts_of names.clocks ≡ codes "start" ∷ codes "unix" ∷ []

-- `--format FORMAT`: one of these words, at most once, and not required
abbrev pub format : WordNames → Rule
format names = record (new_rule (codes "format")) {
  long = Some (codes "format");
  value_names = 1;
  parser = Some (Names names.formats);
}

-- `--clock CLOCK`: one of these words, at most once, and not required
abbrev pub clock : WordNames → Rule
clock names = record (new_rule (codes "clock")) {
  long = Some (codes "clock");
  value_names = 1;
  parser = Some (Names names.clocks);
}

-- `--json DIR`: any text but the empty one, at most once, and not required
abbrev pub json_folder : Rule
json_folder = record (new_rule (codes "json")) {
  long = Some (codes "json");
  value_names = 1;
  parser = Some NonEmptyString;
}

-- `PATH..`: required, 1 to 8 of them, one after another
abbrev pub path : Rule
path = record (new_rule (codes "path")) {
  action = Some Set;
  range = Some (record { start_inclusive = 1; end_inclusive = 8 });
  value_names = 1;
  required = true;
}

abbrev pub replay : WordNames → App
replay names = with_rule (with_rule (new_app (codes "replay")) (format names)) at_place

-- `run` with its times, with its clock and the formats of its tables, with how it goes on and ends, with all its options, and then with PATH too
abbrev pub run_times : App
run_times = with_rule (with_rule (with_rule (new_app (codes "run")) every) tick) watch

abbrev pub run_formats : WordNames → App
run_formats names = with_rule (with_rule (with_rule run_times (clock names)) (format names)) json_folder

abbrev pub run_ends : WordNames → App
run_ends names = with_rule (with_rule (with_rule (run_formats names) rounds) reopen) stop_pipe

abbrev pub run_options : WordNames → App
run_options names = with_rule (with_rule (run_ends names) record_file) at_place

abbrev pub run : WordNames → App
run names = with_rule (run_options names) path

-- the whole command line needs a subcommand, and has `--version`
abbrev pub with_version : App → App
with_version a = record a { top = record a.top { has_version = true; subcommand_required = true } }

-- the whole command line: one of the two subcommands
abbrev pub station : WordNames → App
station names = with_subcommand (with_subcommand (with_version (new_app (codes "groundstation"))) (replay names).top) (run names).top

-- this is the whole command line, wherever its words are kept
abbrev pub IsStation : App → Type 0
IsStation app = (names : WordNames) × AreWordNames names × (app ≡ station names)

-- the argument has this rule, and is not global
abbrev pub IsArg : Rule → Arg → Type 0
IsArg rule a = (rule_of a ≡ rule) × (a.global ≡ false)

-- the command is this one, and none of its arguments is global
abbrev pub IsMade : App → Command → Type 0
IsMade app c = (app_of c ≡ app) × ((out-Command c).has_globals ≡ false)

-- the number of a text of decimal digits, or of a `+` and decimal digits
abbrev pub number_in : Text → ℕ
number_in text = digits_value 10 (without_leading_plus text)

-- the format that a text names, and columns where there is none
abbrev pub format_named : Option Text → TableFormat
format_named None = form.Text
format_named (Some text) = if bytes_eq text (codes "json") then form.Json else form.Text

-- the same of tables whose clock begins at a time, in milliseconds since 1970
abbrev pub format_since : TableFormat → ℕ → Format
format_since form.Text origin = Formats.Text
format_since form.Json origin = Formats.Json origin

-- the beginning of the clock that a text names, and the start of the run where there is none
abbrev pub clock_named : Option Text → ClockOrigin
clock_named None = begins.Start
clock_named (Some text) = if bytes_eq text (codes "unix") then begins.Unix else begins.Start

-- the number of each text of an option that may be missing
abbrev pub number_if_given : Option Text → Option ℕ
number_if_given given = option_map number_in given

-- whether a flag is given, by its text
abbrev pub is_set : Option Text → Bool
is_set None = false
is_set (Some text) = bytes_eq text (codes "true")

-- the text of a flag: one if it is given, and else the other
abbrev pub IsFlagText : Text → Type 0
IsFlagText text = (text ≡ codes "true") ⊎ (text ≡ codes "false")

-- both `--reopen` and `--rounds` are among the options of `run`
abbrev pub gives_both : List Row → Bool
gives_both rows = is_set (one_of (codes "reopen") rows) && is_some (one_of (codes "rounds") rows)

abbrev pub run_gives_both : Option (Text × List Row) → Bool
run_gives_both None = false
run_gives_both (Some named) = bytes_eq named.0 (codes "run") && gives_both named.1

-- the command line is one of `run` with both of them
abbrev pub reopens_rounds : App → List Text → Bool
reopens_rounds app words = run_gives_both (subcommand_of app words)

-- a text of `--at` that names no place
abbrev pub misplaced_text : Option Text → Option Text
misplaced_text None = None
misplaced_text (Some text) = if is_some (place_named text) then None else Some text

abbrev pub misplaced_among : Option (Text × List Row) → Option Text
misplaced_among None = None
misplaced_among (Some named) = misplaced_text (first_of (codes "at") named.1)

-- the text of `--at` in the command line, if it names no place
abbrev pub misplaced : App → List Text → Option Text
misplaced app words = misplaced_among (subcommand_of app words)

-- the place that `--at` names among these options: none if it isn't given
pub record GivesPlace (rows : List Row) (site : Site) : Type 0 where
  pub named : misplaced_text (first_of (codes "at") rows) ≡ None
  pub site_is : site ≡ option_and_then place_named (first_of (codes "at") rows)

-- why no place is read of these options: out of memory, or this text names none
abbrev pub IsPlaceFault : List Row → WordsFault → Type 0
IsPlaceFault rows words_fault.NoMemory = ⊤
IsPlaceFault rows (words_fault.NotAPlace text) = misplaced_text (first_of (codes "at") rows) ≡ Some (string_bytes text)
IsPlaceFault rows _ = ⊥

-- the values of the options and of PATH in a command line of `run`: the paths in their order, a tick, a watch, a pipe and a file
-- only if they are given, one round if no rounds are given, and never both `--reopen` and `--rounds`
pub record GivesRun (rows : List Row) (arguments : RunArguments) : Type 0 where
  pub text : Text
  pub every : one_of (codes "every") rows ≡ Some text
  pub every_is : arguments.pace.every ≡ number_in text
  pub tick_is : arguments.pace.tick ≡ number_if_given (one_of (codes "tick") rows)
  pub watch_is : arguments.watch ≡ number_if_given (one_of (codes "watch") rows)
  pub rounds_are : arguments.rounds ≡ unwrap_or (number_if_given (one_of (codes "rounds") rows)) 1
  pub reopens_is : arguments.reopens ≡ is_set (one_of (codes "reopen") rows)
  pub not_both : gives_both rows ≡ false
  pub paths_are : all_of (codes "path") rows ≡ Some (map string_bytes arguments.paths.items)
  pub stop_is : option_map string_bytes arguments.stop ≡ first_of (codes "stop") rows
  pub file_is : option_map string_bytes arguments.record ≡ first_of (codes "record") rows
  pub folder_is : option_map string_bytes arguments.displays ≡ first_of (codes "json") rows
  pub format_is : arguments.format ≡ format_named (first_of (codes "format") rows)
  pub clock_is : arguments.clock ≡ clock_named (first_of (codes "clock") rows)
  pub place : GivesPlace rows arguments.site

-- a decimal number from 1 up to a limit
pub record IsNumberUpTo (limit : ℕ) (text : Text) : Type 0 where
  pub numeral : IsNumeral 10 (without_leading_plus text)
  pub least : 1 ≤ number_in text
  pub most : number_in text ≤ limit

-- what a command line of `run` gives if nothing in it is refused
pub record IsGiven (rows : List Row) : Type 0 where
  pub text : Text
  pub every : one_of (codes "every") rows ≡ Some text
  pub every_fits : IsNumberUpTo 3600000 text
  pub tick_fits : IfSome (one_of (codes "tick") rows) (IsNumberUpTo 60000)
  pub watch_fits : IfSome (one_of (codes "watch") rows) (IsNumberUpTo 86400)
  pub rounds_fit : IfSome (one_of (codes "rounds") rows) (IsNumberUpTo 1000)
  pub reopen_fits : IfSome (one_of (codes "reopen") rows) IsFlagText
  pub paths : List Text
  pub paths_are : all_of (codes "path") rows ≡ Some paths
  pub some : 1 ≤ length paths
  pub few : length paths ≤ 8

-- the job is the one that the command line names
abbrev pub NamesJob : App → List Text → Job → Type 0
NamesJob app words (Replay tables site) =
    (rows : List Row) × (subcommand_of app words ≡ Some (codes "replay", rows)) × (tables ≡ format_named (first_of (codes "format") rows)) × GivesPlace rows site
NamesJob app words (Run arguments) =
    (rows : List Row) × (subcommand_of app words ≡ Some (codes "run", rows)) × GivesRun rows arguments

-- why there is no job: out of memory, or `clap` finds a fault of this kind in the command line, or help or the version is asked
-- for, or `clap` finds no fault and both `--reopen` and `--rounds` are given, or for `--at` this text, which names no place
abbrev pub IsWordsFault : App → List Text → WordsFault → Type 0
IsWordsFault app words words_fault.NoMemory = ⊤
IsWordsFault app words (words_fault.Clap error) = IsAmong (kind_of error) (fault_of app words)
IsWordsFault app words words_fault.ReopensRounds = (fault_of app words ≡ []) × (reopens_rounds app words ≡ true)
IsWordsFault app words (words_fault.NotAPlace text) = (fault_of app words ≡ []) × (misplaced app words ≡ Some (string_bytes text))

-- why there is no job if `clap` accepts the command line: out of memory, or both are given, or no place is named
abbrev pub IsOwnFault : App → List Text → WordsFault → Type 0
IsOwnFault app words words_fault.NoMemory = ⊤
IsOwnFault app words (words_fault.Clap error) = ⊥
IsOwnFault app words words_fault.ReopensRounds = reopens_rounds app words ≡ true
IsOwnFault app words (words_fault.NotAPlace text) = misplaced app words ≡ Some (string_bytes text)

-- a table every 1 to 3,600,000 milliseconds, and a tick, if any, every 1 to 60,000
pub record IsPace (pace : Pace) : Type 0 where
  pub every_least : 1 ≤ pace.every
  pub every_most : pace.every ≤ 3600000
  pub tick_fits : IfSome pace.tick (λ tick. (1 ≤ tick) × (tick ≤ 60000))

-- such a pace, 1 to 1,000 rounds, 1 to 8 paths, and a watch, if any, of 1 to 86,400 seconds
abbrev pub AreInRange : RunArguments → Type 0
AreInRange arguments = IsPace arguments.pace × (1 ≤ arguments.rounds) × (arguments.rounds ≤ 1000)
    × (1 ≤ length arguments.paths.items) × (length arguments.paths.items ≤ 8)
    × IfSome arguments.watch (λ watch. (1 ≤ watch) × (watch ≤ 86400))

abbrev pub IsInRange : Job → Type 0
IsInRange (Replay tables site) = ⊤
IsInRange (Run arguments) = AreInRange arguments
