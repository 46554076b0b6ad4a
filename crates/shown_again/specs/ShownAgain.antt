-- What a replay of the record of a run prints.
use Rattle.std.specs.Prelude.{◌≡◌, ◌≤◌, ◌⊎◌, ℕ, false, true, List, Option, Some, is_some, length}
use Rattle.std.specs.Io.KnownBytes.{Appends}
use Rattle.modes_frame.specs.Lines.{cuts}
use Rattle.station_journal.specs.Log.{empty_log, most_entries}
use Rattle.station_journal.specs.Past.{Site}
use Rattle.station_report.specs.declared.formats.Format.TheVariants.{Text}
use Rattle.station_replay.specs.Forgetting.{StaysSparse, calls_in}
use Rattle.station_run.specs.Limits.{forget_at, most_between_ticks, program_limits}
use Rattle.station_files.specs.Recorded.{Recording, record_status}
use Rattle.station_reporter.specs.LimitAlarms.{LimitsTold}
use Rattle.station_main.specs.Replay.{EndsReplay}
use Rattle.station_run.specs.Stations.{RunEnd, Station}
use Rattle.messages.specs.Telling.{Told}

-- a run left its output, and no write of that or of its record failed
pub record WroteAll (end : RunEnd) : Type 0 where
  pub out : is_some end.out ≡ true
  pub well : end.out_failed ≡ false
  pub recorded : record_status end.recording ≡ 0

-- a run left its output, which took just this text
pub record HasPrinted (before : Option (List ℕ)) (after : Option (Option (List ℕ))) (text : List ℕ) : Type 0 where
  pub output : Option (List ℕ)
  pub left : after ≡ Some output
  pub grown : Appends before output text

-- a run began a record and left it, which took just these lines
pub record HasRecorded (before after : Option Recording) (lines : List ℕ) : Type 0 where
  pub blank : Recording
  pub begun : before ≡ Some blank
  pub recording : Recording
  pub left : after ≡ Some recording
  pub grown : Appends blank.taken recording.taken lines

-- the lines ask for no more entries than a journal may have; or, however many they ask for, fewer than 12,582,912 of them are
-- recent at any time, and fewer than 4,194,304 come between two ticks
abbrev pub HasRoom : Site → List ℕ → Type 0
HasRoom site lines =
    (calls_in (cuts lines) ≤ most_entries) ⊎ StaysSparse forget_at most_between_ticks (empty_log (program_limits site)) (cuts lines)

-- each replay with this place and tables as text that reads just these lines, and ends with status 0, prints just this text
abbrev pub ReplayPrints : Site → List ℕ → List ℕ → Type 0
ReplayPrints site lines text =
    (before after : Option (List ℕ)) (alarm_old alarm_new : LimitsTold) (err_old err_new : Told)
    → EndsReplay Text (program_limits site) (Some lines) before after alarm_old alarm_new err_old err_new 0 → Appends before after text

-- the run was of one round, and its station handed over to no other
abbrev pub IsOneStation : List Station → Type 0
IsOneStation stations = length stations ≡ 1
