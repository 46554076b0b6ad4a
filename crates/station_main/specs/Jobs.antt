-- What a job leaves: its output, what it printed on standard error, and its status.
use Rattle.std.specs.Prelude.{◌≡◌, ◌≢◌, ◌≤◌, ◌⊎◌, ℕ, Bool, true, false, List, [], Option, Some, None, codes}
use Rattle.std.specs.declared.io.ErrorKind as io
use Rattle.std.specs.declared.io.ErrorKind.TheVariants as io_kind
use Rattle.clap.specs.Words.{App, IsAmong, Text, fault_of, takes}
use Rattle.clap.specs.declared.error.kind.ErrorKind.{ErrorKind}
use Rattle.clap.specs.declared.error.kind.ErrorKind.TheVariants as kind
use Rattle.streams.specs.Sink.{AppendsFront}
use Rattle.command_line.specs.Command.{IsStation, NamesJob, format_since, misplaced, reopens_rounds}
use Rattle.station_reporter.specs.LimitAlarms.{LimitsTold, no_limits_told}
use Rattle.station_run.specs.Limits.{program_limits}
use Rattle.station_main.specs.Replay.{EndsReplay}
use Rattle.station_run.specs.Stations.{RunsAsked, plan_from}
use Rattle.messages.specs.Telling.{Alarmed, OutOfMemory, Tells, Told, not_a_place_text, reopens_rounds_text}
use Rattle.command_line.specs.declared.words.Job.{Job}
use Rattle.command_line.specs.declared.words.Job.TheVariants.{Replay, Run}

-- a job is done, beside standard errors for what is reported at once; a replay that leaves no output has read nothing;
-- JSON of a run counts from the origin, in milliseconds since 1970, and of a replay from 0. The alarm of a replay has reported no
-- limit before
abbrev pub IsDone : Job → (origin : ℕ) → Option (List ℕ) → Option (List ℕ) → Option (Option (List ℕ)) → Alarmed → Told → Told → ℕ → Type 0
IsDone (Replay form site) origin input before None alarm err_old err_new status = OutOfMemory err_old err_new status
IsDone (Replay form site) origin input before (Some after) alarm err_old err_new status =
    (alarm_new : LimitsTold) × EndsReplay (format_since form 0) (program_limits site) input before after (no_limits_told alarm.of_limits) alarm_new err_old err_new status
IsDone (Run arguments) origin input before after alarm err_old err_new status =
    RunsAsked (plan_from arguments origin) before after alarm err_old err_new status

-- `clap` accepts the command line, and the job that it names is done
pub record DoesJob (app : App) (words : List Text) (origin : ℕ) (input before : Option (List ℕ)) (after : Option (Option (List ℕ))) (alarm : Alarmed) (err_old err_new : Told) (status : ℕ) : Type 0 where
  pub accepted : fault_of app words ≡ []
  pub job : Job
  pub named : NamesJob app words job
  pub done : IsDone job origin input before after alarm err_old err_new status

-- an allocation for reading the command line was refused, and only that is printed
pub record HasNoMemory (after : Option (Option (List ℕ))) (err_old err_new : Told) (status : ℕ) : Type 0 where
  pub out : after ≡ None
  pub only : OutOfMemory err_old err_new status

-- the answer of `clap` is help or the version, which go to the output
abbrev pub is_shown : ErrorKind → Bool
is_shown kind.DisplayHelp = true
is_shown kind.DisplayVersion = true
is_shown _ = false

-- a text is all that is written: help or the version to the output, with status 0; why the words are refused to standard
-- error, with status 2. A write of the output that fails ends it.
abbrev pub WritesText : Bool → List ℕ → Option (List ℕ) → Option (Option (List ℕ)) → Told → Told → ℕ → Type 0
WritesText true text before after err_old err_new status =
    (status ≡ 0) × (err_new ≡ err_old) × ((left : Option (List ℕ)) × (after ≡ Some left) × AppendsFront before left text)
WritesText false text before after err_old err_new status =
    (status ≡ 2) × (after ≡ Some before) × Tells err_old err_new text

-- what a command line leaves that asks for help or the version, or that `clap` refuses; the kinds are those that it may give
pub record IsRefused (app : App) (words : List Text) (before : Option (List ℕ)) (after : Option (Option (List ℕ))) (err_old err_new : Told) (status : ℕ) : Type 0 where
  pub kind : ErrorKind
  pub given : IsAmong kind (fault_of app words)
  pub text : List ℕ
  pub says : WritesText (is_shown kind) text before after err_old err_new status

-- `clap` accepts a command line with both `--reopen` and `--rounds`, which is refused in the form of `clap`
pub record RefusesBoth (app : App) (words : List Text) (before : Option (List ℕ)) (after : Option (Option (List ℕ))) (err_old err_new : Told) (status : ℕ) : Type 0 where
  pub accepted : fault_of app words ≡ []
  pub both : reopens_rounds app words ≡ true
  pub says : WritesText false reopens_rounds_text before after err_old err_new status

-- `clap` accepts a command line whose text of `--at` names no place, which is refused in the form of `clap`
pub record RefusesPlace (app : App) (words : List Text) (before : Option (List ℕ)) (after : Option (Option (List ℕ))) (err_old err_new : Told) (status : ℕ) : Type 0 where
  pub accepted : fault_of app words ≡ []
  pub text : Text
  pub is_misplaced : misplaced app words ≡ Some text
  pub says : WritesText false (not_a_place_text text) before after err_old err_new status

-- what a command line leaves that `clap` accepts
abbrev pub IsAnswered : App → List Text → (origin : ℕ) → Option (List ℕ) → Option (List ℕ) → Option (Option (List ℕ)) → Alarmed → Told → Told → ℕ → Type 0
IsAnswered app words origin input before after alarm err_old err_new status =
    DoesJob app words origin input before after alarm err_old err_new status
    ⊎ (HasNoMemory after err_old err_new status ⊎ (RefusesBoth app words before after err_old err_new status ⊎ RefusesPlace app words before after err_old err_new status))

-- what any command line leaves
abbrev pub IsObeyed : App → List Text → (origin : ℕ) → Option (List ℕ) → Option (List ℕ) → Option (Option (List ℕ)) → Alarmed → Told → Told → ℕ → Type 0
IsObeyed app words origin input before after alarm err_old err_new status =
    IsAnswered app words origin input before after alarm err_old err_new status ⊎ IsRefused app words before after err_old err_new status

-- the command line is one of the program; what it leaves. If `clap` accepts it, it is answered, with status 0 or 1 unless it is refused
-- for `--reopen` with `--rounds` or for its place
abbrev pub Obeys : List Text → (origin : ℕ) → Option (List ℕ) → Option (List ℕ) → Option (Option (List ℕ)) → Alarmed → Told → Told → ℕ → Type 0
Obeys words origin input before after alarm err_old err_new status =
    (app : App) × IsStation app × (takes app words ≡ true
    → (reopens_rounds app words ≡ false → misplaced app words ≡ None → status ≤ 1) × IsAnswered app words origin input before after alarm err_old err_new status)
    × IsObeyed app words origin input before after alarm err_old err_new status

-- what the words of a process leave: there was no memory to lend them, and only that is printed; or they are obeyed
abbrev pub EndsProcess : List Text → (origin : ℕ) → Option (List ℕ) → Option (List ℕ) → Option (Option (List ℕ)) → Alarmed → Told → Told → ℕ → Type 0
EndsProcess words origin input before after alarm err_old err_new status =
    HasNoMemory after err_old err_new status ⊎ Obeys words origin input before after alarm err_old err_new status

-- why a word is refused that isn't UTF-8
abbrev pub not_utf8_text : List ℕ
not_utf8_text = codes "error: an argument is not UTF-8\n"

-- the words of a process can't be had: there was no memory for them, or one isn't UTF-8, and only that is printed
pub record HasNoWords (kind : io.ErrorKind) (before : Option (List ℕ)) (after : Option (Option (List ℕ))) (err_old err_new : Told) (status : ℕ) : Type 0 where
  pub memory : kind ≡ io_kind.OutOfMemory → HasNoMemory after err_old err_new status
  pub text : kind ≢ io_kind.OutOfMemory → WritesText false not_utf8_text before after err_old err_new status

-- a status that a command line gives over these streams, whatever is left of them; JSON of a run counts from some origin
abbrev pub GivesStatus : List Text → Option (List ℕ) → Option (List ℕ) → Alarmed → Option (List ℕ) → ℕ → Type 0
GivesStatus words input before alarm err status =
    (origin : ℕ) × (after : Option (Option (List ℕ))) × (err_new : Told)
    × Obeys words origin input before after alarm (record { taken = err; has_failed = false }) err_new status
