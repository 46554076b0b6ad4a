-- What the status of a command line says of what was told.
use Rattle.std.specs.Prelude.{◌≡◌, ◌⊎◌, ◌||◌, ℕ, Bool, true, false, List, [], ◌∷◌, Option, Some, Result, Ok, Err, is_some, max}
use Rattle.std.specs.List.{flat_map}
use Rattle.clap.specs.Words.{App, IsAmong, Text, fault_of}
use Rattle.clap.specs.declared.error.kind.ErrorKind.{ErrorKind}
use Rattle.command_line.specs.Command.{NamesJob, misplaced, reopens_rounds}
use Rattle.command_line.specs.declared.words.Job.{Job}
use Rattle.command_line.specs.declared.words.Job.TheVariants.{Replay, Run}
use Rattle.station_lines.specs.declared.tally.Tally.{Tally}
use Rattle.messages.specs.Status.{fault_status}
use Rattle.messages.specs.Telling.{Alarmed, Tells, Told, fault_line, tally_line, telling_line}
use Rattle.messages.specs.declared.faults.Fault.TheVariants as fault
use Rattle.station_files.specs.Displays.{AreReported}
use Rattle.station_files.specs.Recorded.{TellsFailure}
use Rattle.station_run.specs.Stations.{RunPlan, plan_from}
use Rattle.station_main.specs.Jobs.{HasNoMemory, is_shown}

-- ---- what is told in the end

-- a line: what was counted, or a fault by its words
abbrev pub ToldLine : Type 0
ToldLine = Result Tally Text

abbrev pub told_line : ToldLine → List ℕ
told_line (Ok tally) = tally_line tally
told_line (Err words) = telling_line words

-- 1 where one of the lines is a fault, and else 0
abbrev pub worst_line : List ToldLine → ℕ
worst_line [] = 0
worst_line (Ok tally ∷ lines) = worst_line lines
worst_line (Err words ∷ lines) = 1

-- these lines are told, and nothing else
abbrev pub TellsLines : Told → Told → List ToldLine → Type 0
TellsLines err_old err_new lines = Tells err_old err_new (flat_map told_line lines)

-- ---- jobs

-- some lines are told; the status is 1 just where one of them is a fault, and else 0
pub record StatusByLines (err_old err_new : Told) (status : ℕ) : Type 0 where
  pub lines : List ToldLine
  pub told : TellsLines err_old err_new lines
  pub status_is : status ≡ worst_line lines

-- a failed write of the output was reported at once, or nothing was
abbrev pub ReportsOutput : (has_failed : Bool) → (old new : Told) → Type 0
ReportsOutput true old new = Tells old new (fault_line fault.Write)
ReportsOutput false old new = new ≡ old

-- a failed write of the record was reported at once, or nothing was
abbrev pub ReportsRecord : (has_failed : Bool) → (old new : Told) → Type 0
ReportsRecord true old new = TellsFailure old new
ReportsRecord false old new = new ≡ old

-- a standard error of which so much was taken
abbrev pub new_alarm : Option (List ℕ) → Told
new_alarm taken = record { taken = taken; has_failed = false }

-- what a run reported at once: a failed write of its output, where it goes on without that for a record or displays, and of its record
pub record ReportsAtOnce (asked : RunPlan) (alarm : Alarmed) (output_failed record_failed : Bool) : Type 0 where
  pub output_alarm : Told
  pub output : ReportsOutput output_failed (new_alarm alarm.of_output) output_alarm
  pub goes_on : output_failed ≡ true → (is_some asked.file || asked.has_displays) ≡ true
  pub record_alarm : Told
  pub recorded : ReportsRecord record_failed (new_alarm alarm.of_record) record_alarm
  pub has_record : record_failed ≡ true → is_some asked.file ≡ true

-- a run tells some lines in the end, and reports failed writes at once: of its output, its record and its displays. The status is 1
-- just where one of the lines is a fault or such a write was reported, and else 0
pub record StatusOfRun (asked : RunPlan) (alarm : Alarmed) (err_old err_new : Told) (status : ℕ) : Type 0 where
  pub lines : List ToldLine
  pub told : TellsLines err_old err_new lines
  pub output_failed : Bool
  pub record_failed : Bool
  pub at_once : ReportsAtOnce asked alarm output_failed record_failed
  pub displays_failed : Bool
  pub displays : AreReported asked.has_displays displays_failed
  pub status_is : status ≡ max (max (max (worst_line lines) (fault_status output_failed)) (fault_status record_failed)) (fault_status displays_failed)

abbrev pub StatusOfJob : Job → (origin : ℕ) → Alarmed → Told → Told → ℕ → Type 0
StatusOfJob (Replay form site) origin alarm err_old err_new status = StatusByLines err_old err_new status
StatusOfJob (Run arguments) origin alarm err_old err_new status = StatusOfRun (plan_from arguments origin) alarm err_old err_new status

-- ---- command lines

-- `clap` may answer that help or the version is asked for, or (at `false`) that the words are refused
abbrev pub MayAnswer : Bool → App → List Text → Type 0
MayAnswer shown app words = (kind : ErrorKind) × IsAmong kind (fault_of app words) × (is_shown kind ≡ shown)

-- words are refused: by `clap`, or it accepts them, and both `--reopen` and `--rounds` are given or the text of `--at` names no place
abbrev pub AreRefused : App → List Text → Type 0
AreRefused app words =
    MayAnswer false app words ⊎ ((fault_of app words ≡ []) × ((reopens_rounds app words ≡ true) ⊎ ((text : Text) × (misplaced app words ≡ Some text))))

-- the words are refused: why is told, the output is as it was, and the status is 2
pub record EndsRefused (app : App) (words : List Text) (before : Option (List ℕ)) (after : Option (Option (List ℕ))) (err_old err_new : Told) (status : ℕ) : Type 0 where
  pub status_is : status ≡ 2
  pub refused : AreRefused app words
  pub out : after ≡ Some before
  pub text : List ℕ
  pub told : Tells err_old err_new text

-- help or the version is shown: nothing is told, and the status is 0
pub record EndsShown (app : App) (words : List Text) (err_old err_new : Told) (status : ℕ) : Type 0 where
  pub status_is : status ≡ 0
  pub asked : MayAnswer true app words
  pub untold : err_new ≡ err_old

-- the words aren't refused: their job is done, and the status is that of what it told, 0 or 1
pub record EndsJob (app : App) (words : List Text) (origin : ℕ) (alarm : Alarmed) (err_old err_new : Told) (status : ℕ) : Type 0 where
  pub not_refused : AreRefused app words → ⊥
  pub job : Job
  pub named : NamesJob app words job
  pub says : StatusOfJob job origin alarm err_old err_new status
  pub most : (status ≡ 0) ⊎ (status ≡ 1)

-- the status is 2 where words are refused; 0 where help or the version is shown; 1 where there was no memory for the words, and only
-- that is told; and else that of the job
abbrev pub SaysStatus : App → List Text → (origin : ℕ) → Option (List ℕ) → Option (Option (List ℕ)) → Alarmed → Told → Told → ℕ → Type 0
SaysStatus app words origin before after alarm err_old err_new status =
    EndsRefused app words before after err_old err_new status
    ⊎ (EndsShown app words err_old err_new status ⊎ (HasNoMemory after err_old err_new status ⊎ EndsJob app words origin alarm err_old err_new status))
