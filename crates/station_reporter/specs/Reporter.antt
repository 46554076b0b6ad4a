-- When the reporter acts, and what it prints.
use Rattle.std.specs.Prelude.{◌≡◌, ⊤, ℕ, ◌+◌, ◌-◌, ◌*◌, ◌/◌, ◌^◌, ◌≤◌, ◌<◌, ◌⊎◌, ◌&&◌, Bool, true, false, List, [], ◌∷◌, Option, Some, None, IfSome, cond, is_some, length, map, max, min, nat_le, nat_lt, unwrap_or, ◌||◌, if◌then◌else◌}
use Rattle.std.specs.List.{flat_map}
use Rattle.std.specs.Option.{option_map_or}
use Rattle.std.specs.Duration.{as_nanos}
use Rattle.station_journal.specs.declared.entry.Entry.TheVariants.{Tick}
use Rattle.station_journal.specs.declared.refusal.Refusal.{Refusal}
use Rattle.station_report.specs.declared.formats.Format.{Format}
use Rattle.station_history.specs.History.{Known}
use Rattle.station_history.specs.Start.{Start}
use Rattle.station_shared.specs.Seats.{Seated, Accepted, Refused, Looks}
use Rattle.station_record.specs.Record.{RecordedLook}
use Rattle.station_files.specs.Recorded.{IfRecording, Recording, Records, recorded_look}
use Rattle.station_output.specs.Tables.{PassesOver, Printing, Prints, TakesTexts, is_broken}
use Rattle.station_reporter.specs.declared.schedule.Act.{Act}
use Rattle.station_reporter.specs.declared.schedule.Act.TheVariants as act
use Rattle.station_reporter.specs.declared.schedule.Due.{Due}
use Rattle.station_reporter.specs.declared.duties.Duties.{Duties}
use Rattle.station_reporter.specs.declared.reporter.ReporterResult.{ReporterResult}
use Rattle.station_reporter.specs.declared.reporter.Reporter.{Reporter}
use Rattle.command_line.specs.declared.pace.Pace.{Pace}
use Rattle.station_reporter.specs.declared.schedule.Tables.{Tables}

-- ---- when it acts, in milliseconds of the run's clock

-- the time one interval after another, at most 2^64 - 1
abbrev pub next_moment : ℕ → ℕ → ℕ
next_moment every at = min (at + every) (2 ^ 64 - 1)

-- when a tick is due after one at this time: never, unless the pace has ticks
abbrev pub next_tick : Option ℕ → ℕ → Option ℕ
next_tick None at = None
next_tick (Some interval) at = Some (next_moment interval at)

-- after a table at this time, or the last tick before the start: the next table, and a tick before it if the pace has ticks
abbrev pub after_table : Pace → ℕ → Due
after_table pace at = record { table = next_moment pace.every at; tick = next_tick pace.tick at }

-- at a clock that begins at a time, after the last tick before: where that was before the beginning a tick is due at once, and the
-- first table one interval after the beginning
abbrev pub due_from : Pace → (begins_at last_tick : ℕ) → Due
due_from pace begins_at last_tick =
    if nat_lt last_tick begins_at then record { table = next_moment pace.every begins_at; tick = Some begins_at } else after_table pace last_tick

-- after a tick alone at this time: the table is due where it was
abbrev pub after_tick : Pace → Due → ℕ → Due
after_tick pace due at = record { table = due.table; tick = next_tick pace.tick at }

-- a time that may never come has come by now
abbrev pub has_come : Option ℕ → ℕ → Bool
has_come None now = false
has_come (Some moment) now = nat_le moment now

-- the time of what is due first
abbrev pub first_due : Due → ℕ
first_due due = option_map_or (λ tick. min due.table tick) due.tick due.table

-- before anything is due it sleeps up to what is due first, for at most 50 ms; where a table is due it ticks and prints the
-- table; else, where a tick is due, it ticks alone
abbrev pub IsActAt : Pace → (due : Due) → (now : ℕ) → Act → Type 0
IsActAt pace due now (act.Sleep pause) = (now < due.table) × (has_come due.tick now ≡ false) × (as_nanos pause ≡ min (first_due due - now) 50 * 1000000)
IsActAt pace due now (act.Tick at next) = (now < due.table) × (has_come due.tick now ≡ true) × (at ≡ now) × (next ≡ after_tick pace due now)
IsActAt pace due now (act.Print at next) = (due.table ≤ now) × (at ≡ now) × (next ≡ after_table pace now)

-- a time at which it acts: it ticks and prints a table, or ticks alone
pub record Acting : Type 0 where
  pub at : ℕ
  pub has_table : Bool

-- of the times that a clock gave, those at which a table or else a tick was due
abbrev pub due_moments : Pace → (due : Due) → List ℕ → List Acting
due_moments pace due [] = []
due_moments pace due (now ∷ moments) =
    if nat_le due.table now then (record { at = now; has_table = true } ∷ due_moments pace (after_table pace now) moments)
    else (if has_come due.tick now then (record { at = now; has_table = false } ∷ due_moments pace (after_tick pace due now) moments)
    else due_moments pace due moments)

-- what is due next after these times of a clock
abbrev pub due_after : Pace → Due → List ℕ → Due
due_after pace due [] = due
due_after pace due (now ∷ moments) =
    cond (nat_le due.table now) (due_after pace (after_table pace now) moments)
    (cond (has_come due.tick now) (due_after pace (after_tick pace due now) moments) (due_after pace due moments))

-- what is heard is written for the record and displays with each table, and after a tick alone where a second has passed since
-- the time at which it was last, if it was
abbrev pub is_writing_due : Option ℕ → (now : ℕ) → Bool
is_writing_due None now = true
is_writing_due (Some last) now = nat_le 1000 (now - last)

-- how often that is at a pace: with each table, and after ticks alone once a second
abbrev pub writing_interval : Pace → ℕ
writing_interval pace = option_map_or (λ tick. min pace.every (max tick 1000)) pace.tick pace.every

-- ---- what it prints

-- a tick alone or with a table: its time, the seat after the tick, and the seat after the look, unless there was none; and whether the
-- output had room for the table
pub record Showing : Type 0 where
  pub acting : Acting
  pub ticked : Seated
  pub look : Option Seated
  pub has_room : Bool

abbrev pub seat_after : Showing → Seated
seat_after showing = unwrap_or showing.look showing.ticked

-- only a look with a table is shown, for which the output had room
abbrev pub is_shown : Showing → Bool
is_shown showing = showing.acting.has_table && showing.has_room

-- the look that is shown
abbrev pub shown_look : Showing → Option Seated
shown_look showing = cond (is_shown showing) showing.look None

abbrev pub looks_of : List Showing → List (Option Seated)
looks_of showings = map shown_look showings

-- all looks as they are recorded
abbrev pub recorded_by : List Showing → List RecordedLook
recorded_by showings = flat_map (λ (showing : Showing). recorded_look (is_shown showing) showing.look) showings

-- the time at which what is heard was last written, if it was: with a table, or by a look after a tick alone
abbrev pub last_writing : Option ℕ → Showing → Option ℕ
last_writing last showing = cond (showing.acting.has_table || is_some showing.look) (Some showing.acting.at) last

-- the seat ticks at a time, and that is accepted or refused
abbrev pub Ticks : Start → Seated → ℕ → Seated → Type 0
Ticks start old at new =
    ((receipt : Known) × Accepted start old new (Tick old.number at) receipt) ⊎ ((refusal : Refusal) × Refused start old new (Tick old.number at) refusal)

-- the seat looks, and what it has seen is recorded without a `?`
pub record Notes (start : Start) (old new : Seated) (was is : Option Recording) : Type 0 where
  pub looks : Looks start old new
  pub records : IfRecording (Records (recorded_look false (Some new))) was is

-- that, or the look is refused, and nothing is done
abbrev pub MayNote : Start → Seated → Seated → Option Recording → Option Recording → (is_noted : Bool) → Type 0
MayNote start old new was is true = Notes start old new was is
MayNote start old new was is false = (new ≡ old) × (is ≡ was)

-- a tick alone is accepted where a writing is due, and what the seat has seen is noted
pub record NotesTick (start : Start) (at : ℕ) (old new : Seated) (was is : Option Recording) (last next : Option ℕ) : Type 0 where
  pub ticked : Seated
  pub receipt : Known
  pub accepted : Accepted start old ticked (Tick old.number at) receipt
  pub due : is_writing_due last at ≡ true
  pub notes : Notes start ticked new was is
  pub next_is : next ≡ Some at

-- it ticks alone, and notes nothing or what it has seen
abbrev pub TicksAlone : Start → (at : ℕ) → Seated → Seated → Option Recording → Option Recording → (last next : Option ℕ) → Type 0
TicksAlone start at old new was is last next = (Ticks start old at new × (is ≡ was) × (next ≡ last)) ⊎ NotesTick start at old new was is last next

-- where the output has no room, a table is left out: what the seat sees is recorded without a `?`, unless the look is refused
pub record LeavesOut (start : Start) (old new : Seated) (before after : Printing) (was is : Option Recording) : Type 0 where
  pub same : after ≡ before
  pub is_noted : Bool
  pub notes : MayNote start old new was is is_noted

-- the seat looks, and the table is printed and recorded; or neither is done
abbrev pub PrintsAndRecords : Format → Start → Seated → Seated → Printing → Printing → Option Recording → Option Recording → Type 0
PrintsAndRecords format start old new before after was is =
    (Prints format start old new before after × IfRecording (Records (recorded_look true (Some new))) was is) ⊎ (PassesOver old new before after × (is ≡ was))

-- a table that is due is printed and recorded, or it is left out
abbrev pub ShowsTable : Format → Start → Seated → Seated → Printing → Printing → Option Recording → Option Recording → Type 0
ShowsTable format start old new before after was is = PrintsAndRecords format start old new before after was is ⊎ LeavesOut start old new before after was is

-- what a reporter does: it sleeps; or it ticks alone; or it ticks, and the table is shown
abbrev pub DoesAct : {K : Type 0} → (K → Option Recording) → Format → Start → Act → ReporterResult Seated Printing K → ReporterResult Seated Printing K → Type 0
DoesAct record_of format start (act.Sleep pause) old new = new ≡ old
DoesAct record_of format start (act.Tick at next) old new =
    TicksAlone start at old.seat new.seat (record_of old.beside) (record_of new.beside) old.written_at new.written_at
    × (new.out ≡ old.out) × (new.due ≡ next) × (new.asked_at ≡ old.asked_at)
DoesAct record_of format start (act.Print at next) old new =
    (ticked : Seated) × Ticks start old.seat at ticked × ShowsTable format start ticked new.seat old.out new.out (record_of old.beside) (record_of new.beside)
    × (new.due ≡ next) × (new.asked_at ≡ old.asked_at) × (new.written_at ≡ Some at)

-- the seat ticks, and then may look; after a tick alone it looks only if that was accepted
pub record IsShowing (start : Start) (old : Seated) (showing : Showing) : Type 0 where
  pub ticks : Ticks start old showing.acting.at showing.ticked
  pub looks : IfSome showing.look (λ look. Looks start showing.ticked look)
  pub alone : showing.acting.has_table ≡ false → (showing.look ≡ None) ⊎ ((receipt : Known) × Accepted start old showing.ticked (Tick old.number showing.acting.at) receipt)

-- showings from one seat to another, each from where the one before ended
abbrev pub Showings : Start → Seated → List Showing → Seated → Type 0
Showings start old [] new = new ≡ old
Showings start old (showing ∷ showings) new = IsShowing start old showing × Showings start (seat_after showing) showings new

-- it looks after a tick alone only where a writing is due
abbrev pub AreApart : (last : Option ℕ) → List Showing → Type 0
AreApart last [] = ⊤
AreApart last (showing ∷ showings) =
    (showing.acting.has_table ≡ false → is_some showing.look ≡ true → is_writing_due last showing.acting.at ≡ true)
    × AreApart (last_writing last showing) showings

-- a seat that may have looked, and showed nothing
abbrev pub IsLater : Start → Seated → Seated → Type 0
IsLater start old new = (new ≡ old) ⊎ Looks start old new

-- tables and ticks alone at just those times of the clock at which they are due, and what is heard is written between tables at most
-- once a second
pub record KeepsTime (start : Start) (pace : Pace) (due : Due) (moments : List ℕ) (old : Seated) (showings : List Showing) (new : Seated) : Type 0 where
  pub acts : map (λ (showing : Showing). showing.acting) showings ≡ due_moments pace due moments
  pub walk : Showings start old showings new
  pub apart : AreApart None showings

-- a reporter whose clock gave these times, from one seat to another, and what is due next; the record goes on with what its
-- looks have seen
pub record Reports (start : Start) (tables : Tables) (due next : Due) (moments : List ℕ) (old new : Seated) (before after : Printing) (was is : Option Recording) : Type 0 where
  pub showings : List Showing
  pub shown : Seated
  pub keeps : KeepsTime start tables.pace due moments old showings shown
  pub later : IsLater start shown new
  pub next_is : next ≡ due_after tables.pace due moments
  pub takes : TakesTexts tables.format start (looks_of showings) before after
  pub records : IfRecording (Records (recorded_by showings)) was is

-- a reporter that finds this many entries asks for a hand-over: they are enough, it isn't too early, and no table is due within a
-- second, or within the interval between tables if that is shorter
abbrev pub asks_hand_over : Duties → (entries now : ℕ) → Due → Bool
asks_hand_over duties entries now due = nat_le duties.hand_over_at entries && nat_le duties.not_before now && nat_le (min duties.tables.pace.every 1000) (due.table - now)

-- the time before which none is asked for after one that left this many entries: where they are more than half of those that ask
-- for one, ten seconds after the last tick, at most 2^64 - 1
abbrev pub not_before : (hand_over_at entries last_tick : ℕ) → ℕ
not_before hand_over_at entries last_tick = if nat_lt (hand_over_at / 2) entries then next_moment 10000 last_tick else 0

-- a hand-over is asked for at a time: the journal has so many entries, the output isn't broken, and the seat ticks alone once
-- more; the table is due where it was
pub record HandsOver (start : Start) (duties : Duties) (at : ℕ) (due next : Due) (old new : Seated) (broken : Bool) : Type 0 where
  pub full : duties.hand_over_at ≤ length old.seen
  pub well : broken ≡ false
  pub ticks : Ticks start old at new
  pub next_is : next ≡ after_tick duties.tables.pace due at

-- where none is asked for nothing is done
abbrev pub MayHandOver : Start → Duties → Option ℕ → Due → Due → Seated → Seated → Bool → Type 0
MayHandOver start duties None due next old new broken = (new ≡ old) × (next ≡ due)
MayHandOver start duties (Some at) due next old new broken = HandsOver start duties at due next old new broken

-- a reporter by some clock, which may ask for a hand-over at its end
pub record ReportsByAClock (start : Start) (duties : Duties) (next : Due) (asked_at : Option ℕ) (old new : Seated) (before after : Printing) (was is : Option Recording) : Type 0 where
  pub moments : List ℕ
  pub due : Due
  pub mid : Seated
  pub reports : Reports start duties.tables duties.due due moments old mid before after was is
  pub hands_over : MayHandOver start duties asked_at due next mid new (is_broken after)

-- such a reporter by what it starts with and what it leaves
abbrev pub HasReported : {K : Type 0} → (K → Option Recording) → Start → Reporter Seated Printing K → ReporterResult Seated Printing K → Type 0
HasReported record_of start reporter reported =
    ReportsByAClock start reporter.duties reported.due reported.asked_at reporter.seat reported.seat reporter.out reported.out (record_of reporter.beside) (record_of reported.beside)
