-- What the threads of a station of the job `run` leave, and how it is closed.
use Rattle.std.specs.Prelude.{◌≡◌, ℕ, ◌+◌, ◌<◌, ◌&&◌, Bool, true, false, not, List, [], ◌∷◌, All, Option, IfSome, Result, Ok, Err, length, map, slice_index_or, is_some, unwrap_or}
use Rattle.std.specs.List.{list_any}
use Rattle.std.specs.Option.{option_map_or}
use Rattle.streams.specs.Source.{SourceState}
use Rattle.station_journal.specs.declared.entry.Entry.{Entry}
use Rattle.station_report.specs.declared.formats.Format.{Format}
use Rattle.station_portions.specs.Giving.{state_of}
use Rattle.station_portions.specs.declared.portions.Portions.{Portions}
use Rattle.station_history.specs.Start.{Start}
use Rattle.station_shared.specs.Seats.{HasLearned, Seated, Looks, new_seat}
use Rattle.station_shared.specs.Closing.{Closes, EachOnce}
use Rattle.station_shared.specs.Workers.{Worked, Works}
use Rattle.station_lines.specs.declared.pumping.PumpFault.{PumpFault}
use Rattle.station_lines.specs.declared.pumping.PumpFault.TheVariants as pump
use Rattle.station_lines.specs.declared.tally.Tally.{Tally}
use Rattle.station_run.specs.Limits.{most_reads}
use Rattle.station_reporter.specs.declared.reporter.ReporterResult.{ReporterResult}
use Rattle.station_files.specs.Recorded.{Recording}
use Rattle.station_reporter.specs.Reporter.{PrintsAndRecords}
use Rattle.station_output.specs.Tables.{MayFail, Printing}

-- ---- the receivers

-- each receiver has pumped its source through its seat to an answer
pub record HaveWorked {W R : Type 0} (start : Start) (seat : W → Seated) (source : W → Portions R) (answer : W → Option (Result Tally PumpFault)) (old new : List W) : Type 0 where
  pub many : length new ≡ length old
  pub each : (i : ℕ) (d : W) → i < length old → let was = slice_index_or old i d in let is = slice_index_or new i d in
      Worked start (seat was) (seat is) (state_of (source was)) (state_of (source is)) most_reads (answer is)

-- receivers of these sources, one each in their order, each with a seat of its own that had seen these entries: the sources and
-- the seats afterwards, and the answers
pub record HavePumped (start : Start) (entries : List Entry) (old new : List SourceState) (seats : List Seated) (answers : List (Result Tally PumpFault)) : Type 0 where
  pub many_sources : length new ≡ length old
  pub many_seats : length seats ≡ length old
  pub many_answers : length answers ≡ length old
  pub each : (i : ℕ) (source : SourceState) (seat : Seated) (answer : Result Tally PumpFault) → i < length old
      → Works start (new_seat entries false i) (slice_index_or seats i seat) (slice_index_or old i source) (slice_index_or new i source) most_reads (slice_index_or answers i answer)

-- ---- whether a further station is begun

-- a path goes on: its source has come to no end of it, nor to a failed read
abbrev pub is_open : SourceState → Bool
is_open source = not (is_some source.left)

-- no further station is begun after this answer: all turns were used, or memory ran out
abbrev pub ends_run : Result Tally PumpFault → Bool
ends_run (Ok tally) = false
ends_run (Err (pump.Read tally)) = false
ends_run (Err (pump.TooManyTurns tally)) = true
ends_run (Err (pump.NoMemory tally)) = true

-- a further station has something to do: a path goes on, and no answer ends the run
abbrev pub may_go_on : List SourceState → List (Result Tally PumpFault) → Bool
may_go_on sources answers = not (list_any ends_run answers) && list_any is_open sources

-- the same of workers, each with its answer
abbrev pub may_work_on : {W : Type 0} → (W → SourceState) → (W → Option (Result Tally PumpFault)) → List W → Bool
may_work_on source answer workers =
    not (list_any (λ w. option_map_or ends_run (answer w) true) workers) && list_any (λ w. is_open (source w)) workers

-- ---- a closed station

-- n seats: those of the receivers are numbered by their places, and the reporter's comes after them
pub record AreNumbered (n : ℕ) (reporter : Seated) (receivers : List Seated) : Type 0 where
  pub many : length receivers + 1 ≡ n
  pub last : reporter.number ≡ length receivers
  pub each : (i : ℕ) (d : Seated) → i < length receivers → (slice_index_or receivers i d).number ≡ i

-- a station may be closed whose threads have ended
pub record CanClose {W : Type 0} (seats : ℕ) (seat : W → Seated) (answer : W → Option (Result Tally PumpFault)) (reporter : Seated) (receivers : List W) (before : List (Result Tally PumpFault)) : Type 0 where
  -- each receiver has its answer
  pub answered : All (λ w. is_some (answer w) ≡ true) receivers
  -- as many were counted by the stations before it
  pub many : length before ≡ length receivers
  -- the seats have their numbers
  pub numbered : AreNumbered seats reporter (map seat receivers)

-- its seats at the end, the reporter's and those of the receivers in the order of their inputs, and its journal
pub record Closing : Type 0 where
  pub reporter : Seated
  pub receivers : List Seated
  pub journal : List Entry

-- the seats are all its seats, each once; the journal begins with what each of them has seen, and has each accepted call once
pub record IsClosed (start : Start) (closing : Closing) : Type 0 where
  pub once : EachOnce (length closing.receivers + 1) (closing.reporter ∷ closing.receivers)
  pub closes : Closes start (length closing.receivers + 1) closing.journal (closing.reporter ∷ closing.receivers)

-- ---- the last table

-- a seat that learned from these seats, one after another
abbrev pub LearnsFrom : Seated → List Seated → Seated → Type 0
LearnsFrom old [] new = new ≡ old
LearnsFrom old (seat ∷ seats) new = (mid : Seated) × HasLearned old mid seat.seen × LearnsFrom mid seats new

-- what a reporter leaves after the last table, as its seat sees it, once that is written or a write failed; or, where none is printed,
-- as it was
abbrev pub PrintsLast : {K : Type 0} → (K → Option Recording) → Format → Start → (none : Bool) → ReporterResult Seated Printing K → ReporterResult Seated Printing K → Type 0
PrintsLast record_of format start true old new = new ≡ old
PrintsLast record_of format start false old new =
    (printed : Printing) × PrintsAndRecords format start old.seat new.seat old.out printed (record_of old.beside) (record_of new.beside) × MayFail printed new.out
    × (new.due ≡ old.due) × (new.asked_at ≡ old.asked_at)

-- the looks of the seat after the last showing: one, where a last table is printed
abbrev pub LastLook : Start → Seated → Seated → (none : Bool) → List (Option Seated) → Type 0
LastLook start old new false looks = (look : Option Seated) × (looks ≡ look ∷ []) × (unwrap_or look old ≡ new) × IfSome look (λ l. Looks start old l)
LastLook start old new true looks = (looks ≡ []) × (new ≡ old)
