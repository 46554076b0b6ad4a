-- What the job `run` leaves: one station after another, each begun from the one before.
use Rattle.std.specs.Prelude.{◌≡◌, ◌≤◌, ◌<◌, ◌⊎◌, ◌&&◌, ◌||◌, ℕ, ◌+◌, ◌-◌, Bool, true, false, List, [], ◌∷◌, ◌++◌, All, fold, is_some, length, map, max, reverse, Option, Some, None, Result, Ok, Err, option_map}
use Rattle.std.specs.List.{flat_map}
use Rattle.std.specs.String.{string_bytes}
use Rattle.station_portions.specs.Giving.{state_of}
use Rattle.streams.specs.Source.{RingName, SourceState}
use Rattle.clap.specs.Words.{Text}
use Rattle.command_line.specs.Command.{format_since}
use Rattle.command_line.specs.declared.clock_origin.ClockOrigin.{ClockOrigin}
use Rattle.command_line.specs.declared.clock_origin.ClockOrigin.TheVariants as begins
use Rattle.command_line.specs.declared.words.RunArguments.{RunArguments}
use Rattle.station_journal.specs.declared.entry.Entry.{Entry}
use Rattle.station_journal.specs.Log.{clock_of}
use Rattle.station_journal.specs.Past.{Site}
use Rattle.station_journal.specs.Resume.{IsSound, recent_base, recent_of}
use Rattle.station_history.specs.History.{base_of}
use Rattle.station_desk.specs.Published.{Prepared}
use Rattle.station_history.specs.Start.{Start, log_of}
use Rattle.station_lines.specs.declared.pumping.PumpFault.{PumpFault}
use Rattle.station_lines.specs.declared.tally.Tally.{Tally}
use Rattle.station_shared.specs.Seats.{Seated, newcomer}
use Rattle.station_paths.specs.Inputs.{AllTakeFrom, FailsBetweenLines, GaveAllBut, HasNoLines, unfinished_status, unknown}
use Rattle.station_run.specs.Limits.{forget_at, program_limits}
use Rattle.station_files.specs.Displays.{AreReported}
use Rattle.station_files.specs.Recorded.{IfRecording, IsNewRecord, Recording, Records, RecordsRest, record_status, recorded_look}
use Rattle.messages.specs.Status.{fault_status, status_of}
use Rattle.station_run.specs.Output.{GivesBack}
use Rattle.station_reporter.specs.Reporter.{IsLater, KeepsTime, MayHandOver, Showing, due_after, due_from, looks_of, not_before, recorded_by}
use Rattle.station_output.specs.Tables.{Printing, TakesTexts, is_broken}
use Rattle.station_run.specs.Run.{Closing, HavePumped, IsClosed, LastLook, LearnsFrom, may_go_on}
use Rattle.station_paths.specs.Faults.{IsEarly}
use Rattle.messages.specs.Sums.{AddsEach}
use Rattle.messages.specs.Telling.{Alarmed, Tells, Told, fault_line, output_lines, pump_lines, unfinished_lines}
use Rattle.messages.specs.declared.faults.Fault.{Fault}
use Rattle.messages.specs.declared.faults.Fault.TheVariants as fault
use Rattle.station_reporter.specs.declared.kept.Kept.{Kept}
use Rattle.station_reporter.specs.declared.duties.Duties.{Duties}
use Rattle.station_reporter.specs.declared.schedule.Due.{Due}
use Rattle.station_reporter.specs.declared.schedule.Tables.{Tables}
use Rattle.station_run.specs.declared.next_station.Carried.{Carried}
use Rattle.station_run.specs.declared.next_station.Next.{Next}
use Rattle.station_run.specs.declared.next_station.Next.TheVariants as next_is
use Rattle.station_run.specs.declared.output.JobResult.{JobResult}
use Rattle.station_paths.specs.declared.paths.PathThread.{PathThread}
use Rattle.station_run.specs.declared.run_options.RunOptions.{RunOptions}
use Rattle.station_run.specs.declared.stage.Stage.{Stage}
use Rattle.station_run.specs.declared.stage.StationEnd.{StationEnd}

-- ---- what is asked of a run, and what it writes to

-- when tables are due and how they are written, where the clock begins, how many rounds come after the first, the paths, what reading each of them
-- gives where that is known, how many entries of its journal make a station hand over, the place of the receivers, the file of
-- the record, whether tables are written for displays, and the pipe that stops the run
pub record RunPlan : Type 0 where
  pub tables : Tables
  pub begins_at : ℕ
  pub rounds_left : ℕ
  pub paths : List Text
  pub known : List (Option (List ℕ))
  pub hand_over_at : ℕ
  pub site : Site
  pub file : Option Text
  pub has_displays : Bool
  pub stop : Option Text

-- what a run writes to: its output with the tables that wait for it, the record if there is one, and standard error
pub record Streams : Type 0 where
  pub out : Printing
  pub recording : Option Recording
  pub err : Told

-- what a run leaves: its output unless that is gone, whether a write of it failed, the record if there is one, standard error, and
-- its status
pub record RunEnd : Type 0 where
  pub out : Option (Option (List ℕ))
  pub out_failed : Bool
  pub recording : Option Recording
  pub err : Told
  pub status : ℕ

-- ---- a station

-- what a station goes on from: entries with the base of their clock, the time of the last tick before it, and the place of the
-- receivers
pub record RoundStart : Type 0 where
  pub base : ℕ
  pub entries : List Entry
  pub last_tick : ℕ
  pub site : Site

-- the first station begins with nothing but the place
abbrev pub no_start : Site → RoundStart
no_start site = record { base = 0; entries = []; last_tick = 0; site = site }

-- a station under the limits of the program that goes on from there
pub record GoesOnFrom (given : RoundStart) (start : Start) : Type 0 where
  pub limits : start.limits ≡ program_limits given.site
  pub base : base_of start.history ≡ given.base
  pub resumed : start.resumed ≡ length given.entries

-- a station with n receivers may be begun
pub record MayBegin (start : Start) (parts seats : ℕ) (places : Prepared) (given : RoundStart) (n : ℕ) : Type 0 where
  -- there are at most eight
  pub few : n ≤ 8
  -- each receiver and the reporter have a part of the ledger and a seat, and the reporter alone has a place
  pub seats_are : (parts ≡ n + 1) × (seats ≡ n + 1) × (places.places ≡ 1)
  -- its history is that of the places
  pub history : start.history ≡ places.history
  -- it goes on from there under the limits of the program
  pub goes_on : GoesOnFrom given start
  -- what it goes on from is sound under them
  pub sound : IsSound (program_limits given.site) given.base (reverse given.entries)

-- what a station is begun with: how many rounds come after its own, what it goes on from, what its reporter does, its sources,
-- and what was counted of each of them by the stations before it in its round
pub record Begun : Type 0 where
  pub rounds_left : ℕ
  pub given : RoundStart
  pub duties : Duties
  pub sources : List SourceState
  pub answers : List (Result Tally PumpFault)

-- what a closed station leaves: how it started, its seats and its journal, what its receivers counted, whether it hands over,
-- what is due next, its sources, the sums of what was counted so far in its round, and whether the output is broken
pub record Left : Type 0 where
  pub rounds_left : ℕ
  pub duties : Duties
  pub start : Start
  pub closing : Closing
  pub counted : List (Result Tally PumpFault)
  pub hands_over : Bool
  pub due : Due
  pub sources : List SourceState
  pub answers : List (Result Tally PumpFault)
  pub is_broken : Bool

-- a station of a run, and what the run writes to as the station begins and when it is closed
pub record Station : Type 0 where
  pub begun : Begun
  pub old : Streams
  pub left : Left
  pub new : Streams

-- what the reporter of a station has printed and recorded: tables at just those times of a clock at which they are due, and a
-- last one, unless the station hands over or the output was broken before; and nothing else. The output has a front of that if a
-- table failed, and the record has all of it, and what was seen after ticks alone
pub record Shows (station : Station) : Type 0 where
  pub moments : List ℕ
  pub showings : List Showing
  pub shown : Seated
  pub keeps : KeepsTime station.left.start station.begun.duties.tables.pace station.begun.duties.due moments
      (newcomer station.begun.given.entries (length station.begun.sources)) showings shown
  pub looked : Seated
  pub later : IsLater station.left.start shown looked
  -- a hand-over may be asked for, and is made just where a path goes on and no answer ends the run
  pub asked_at : Option ℕ
  pub broken_before : Bool
  pub ended : Seated
  pub asks : MayHandOver station.left.start station.begun.duties asked_at (due_after station.begun.duties.tables.pace station.begun.duties.due moments)
      station.left.due looked ended broken_before
  -- once the receivers have ended it learns all that their seats have seen, before the last look
  pub mid : Seated
  pub learns : LearnsFrom ended station.left.closing.receivers mid
  pub hands_over : station.left.hands_over ≡ (is_some asked_at && may_go_on station.left.sources station.left.counted)
  pub last : List (Option Seated)
  pub looks : LastLook station.left.start mid station.left.closing.reporter (station.left.hands_over || broken_before) last
  pub broken : (station.left.hands_over || broken_before) ≡ true → station.left.is_broken ≡ broken_before
  pub is_broken : station.left.is_broken ≡ is_broken station.new.out
  pub takes : TakesTexts station.begun.duties.tables.format station.left.start (looks_of showings ++ last) station.old.out station.new.out
  pub records : IfRecording (Records (recorded_by showings ++ flat_map (recorded_look true) last)) station.old.recording station.new.recording

-- a station has run: its receivers have pumped the sources, and a source whose read failed has left no begun line; what they
-- counted is added to what was counted before; it is closed with all its seats
pub record RunsStation (station : Station) : Type 0 where
  pub goes_on : GoesOnFrom station.begun.given station.left.start
  pub pumped : HavePumped station.left.start station.begun.given.entries station.begun.sources station.left.sources station.left.closing.receivers station.left.counted
  pub failed : All FailsBetweenLines station.left.sources
  pub sums : AddsEach station.begun.answers station.left.counted station.left.answers
  pub closed : IsClosed station.left.start station.left.closing
  pub shows : Shows station
  pub duties : station.left.duties ≡ station.begun.duties
  pub rounds_left : station.left.rounds_left ≡ station.begun.rounds_left
  pub err : station.new.err ≡ station.old.err

-- ---- from one station to the next

-- the first station of a round: it has a source for each path, of which no byte was given, and its table is due one interval
-- after the last tick; where the clock begins after that, one interval after the beginning, and then a tick is due at once
pub record IsFirst (asked : RunPlan) (begun : Begun) : Type 0 where
  pub tables : begun.duties.tables ≡ asked.tables
  pub due : begun.duties.due ≡ due_from asked.tables.pace asked.begins_at begun.given.last_tick
  pub hand_over_at : begun.duties.hand_over_at ≡ asked.hand_over_at
  pub not_before : begun.duties.not_before ≡ 0
  pub many_sources : length begun.sources ≡ length asked.paths
  pub unread : All (λ (source : SourceState). source.given ≡ Some []) begun.sources
  pub many_answers : length begun.answers ≡ length asked.paths
  pub none : All HasNoLines begun.answers

-- a round is over: what was counted of each path is printed, with its fault directly after it, and then a failed write, where the
-- run doesn't go on without its output. Paths that weren't read to their ends go on, or their reads failed; they are printed where
-- no fault was. Where the status is 0 there are none. A run that has a pipe for it may be stopped: then paths that go on are over
-- too, and aren't printed
pub record EndsRound (asked : RunPlan) (left : Left) (err_old err_new : Told) (status : ℕ) : Type 0 where
  pub stays : left.hands_over ≡ false
  pub err_mid : Told
  pub told : ℕ
  pub counts : Tells err_old err_mid (flat_map pump_lines left.answers ++ output_lines left.is_broken)
  pub told_is : told ≡ max (fold (λ worst answer. max worst (status_of answer)) 0 left.answers) (fault_status left.is_broken)
  pub stopped : Bool
  pub may_stop : stopped ≡ true → is_some asked.stop ≡ true
  pub unfinished : List Text
  pub whole : GaveAllBut stopped asked.paths asked.known left.sources unfinished
  pub told_too : Tells err_mid err_new (unfinished_lines told unfinished)
  pub status_is : status ≡ max told (unfinished_status unfinished)

-- what is kept of a closed station's journal: its recent entries, and the place of the receivers; the record goes on with what it
-- hasn't of the journal
pub record KeepsRecent (start : Start) (journal : List Entry) (kept : RoundStart) (was is : Option Recording) : Type 0 where
  pub base : kept.base ≡ recent_base (base_of start.history) (reverse journal)
  pub entries : reverse kept.entries ≡ recent_of (base_of start.history) (reverse journal)
  pub last_tick : kept.last_tick ≡ clock_of (log_of start journal)
  pub site : kept.site ≡ start.limits.site
  pub records : IfRecording (RecordsRest journal (length kept.entries)) was is

-- a station that hands over: the next has its sources as they are, and goes on from its sums; the table is due where it was
pub record HandsOver (left : Left) (next : Begun) (err_old err_new : Told) : Type 0 where
  pub goes_on : left.hands_over ≡ true
  pub sources : next.sources ≡ left.sources
  pub answers : next.answers ≡ left.answers
  pub tables : next.duties.tables ≡ left.duties.tables
  pub due : next.duties.due ≡ left.due
  pub hand_over_at : next.duties.hand_over_at ≡ left.duties.hand_over_at
  pub not_before : next.duties.not_before ≡ not_before left.duties.hand_over_at (length next.given.entries) next.given.last_tick
  pub rounds_left : next.rounds_left ≡ left.rounds_left
  pub err : err_new ≡ err_old

-- the next round: that of this station is over without a fault, the run isn't stopped, and the paths are opened anew
pub record BeginsRound (asked : RunPlan) (left : Left) (next : Begun) (err_old err_new : Told) : Type 0 where
  pub over : EndsRound asked left err_old err_new 0
  pub goes_on : over.stopped ≡ false
  pub rounds_left : left.rounds_left ≡ next.rounds_left + 1
  pub first : IsFirst asked next

-- what comes after a station goes on from what is recent in its journal, and prints no table of its own before it begins
pub record Follows (asked : RunPlan) (left : Left) (old : Streams) (next : Begun) (new : Streams) : Type 0 where
  pub is_kept : KeepsRecent left.start left.closing.journal next.given old.recording new.recording
  pub out : new.out ≡ old.out
  pub how : HandsOver left next old.err new.err ⊎ BeginsRound asked left next old.err new.err

-- ---- the end of a run

-- only a fault is printed, which comes before a station is begun or closed
pub record EndsEarly (paths : List Text) (err_old err_new : Told) (status : ℕ) : Type 0 where
  pub fault : Fault
  pub early : IsEarly paths fault
  pub told : Tells err_old err_new (fault_line fault)
  pub status_is : status ≡ 1

-- a station couldn't be begun or closed: the output is gone
pub record IsLost (paths : List Text) (err_old : Told) (end : RunEnd) : Type 0 where
  pub out : end.out ≡ None
  pub early : EndsEarly paths err_old end.err end.status

-- after a round no other is begun: it was the last, a fault was printed, or the run is stopped; or there is no memory to keep what
-- is recent, and only that is printed
abbrev pub NoRoundAfter : (rounds_left : ℕ) → (stopped : Bool) → (err_old err_new : Told) → (of_round status : ℕ) → Type 0
NoRoundAfter rounds_left stopped err_old err_new of_round status =
    (((rounds_left ≡ 0) ⊎ ((of_round ≡ 1) ⊎ (stopped ≡ true))) × (err_new ≡ err_old) × (status ≡ of_round))
    ⊎ ((of_round ≡ 0) × Tells err_old err_new (fault_line fault.NoMemory) × (status ≡ 1))

-- the last round is over, and no table waits for the output. Unless a write failed before, all was written, or a failed write is
-- printed
pub record IsOver (asked : RunPlan) (left : Left) (old : Streams) (end : RunEnd) : Type 0 where
  pub err_round : Told
  pub of_round : ℕ
  pub round : EndsRound asked left old.err err_round of_round
  pub err_mid : Told
  pub told : ℕ
  pub no_more : NoRoundAfter left.rounds_left round.stopped err_round err_mid of_round told
  pub output : Option (List ℕ)
  pub out : end.out ≡ Some output
  pub has_failed : Bool
  pub once : old.out.has_failed ≡ true → has_failed ≡ false
  pub out_failed : end.out_failed ≡ (old.out.has_failed || has_failed)
  pub gives : GivesBack old.out.taken output (old.out.has_failed || has_failed)
  pub told_too : Tells err_mid end.err (output_lines has_failed)
  pub recording : end.recording ≡ old.recording
  pub status_is : end.status ≡ max told (fault_status (old.out.has_failed || has_failed))

-- a further station is to come: this one hands over, or its round is over without a fault, and the run isn't stopped
abbrev pub GoesOn : RunPlan → Left → (err_old err_new : Told) → Type 0
GoesOn asked left err_old err_new =
    ((left.hands_over ≡ true) × (err_new ≡ err_old)) ⊎ ((0 < left.rounds_left) × ((round : EndsRound asked left err_old err_new 0) × (round.stopped ≡ false)))

-- the end of a run after a station
abbrev pub EndsRun : RunPlan → Left → Streams → RunEnd → Type 0
EndsRun asked left old end = IsOver asked left old end ⊎ ((err : Told) × GoesOn asked left old.err err × IsLost asked.paths err end)

-- ---- a run

-- the stations after one that has run, and the end of the run
abbrev pub RunsOn : RunPlan → Station → List Station → RunEnd → Type 0
RunsOn asked station [] end = EndsRun asked station.left station.new end
RunsOn asked station (next ∷ stations) end =
    Follows asked station.left station.new next.begun next.old × RunsStation next × RunsOn asked next stations end

-- the stations from one on that is begun with this, and the end of the run; without any, the first couldn't be closed
abbrev pub RunsFrom : RunPlan → Begun → Streams → List Station → RunEnd → Type 0
RunsFrom asked begun old [] end = IsLost asked.paths old.err end
RunsFrom asked begun old (station ∷ stations) end = (station.begun ≡ begun) × (station.old ≡ old) × RunsStation station × RunsOn asked station stations end

-- a run: its first station begins with nothing but the place, unless that can't be begun
abbrev pub Runs : RunPlan → Streams → List Station → RunEnd → Type 0
Runs asked old stations end =
    ((stations ≡ []) × IsLost asked.paths old.err end)
    ⊎ ((begun : Begun) × (begun.given ≡ no_start asked.site) × (begun.rounds_left ≡ asked.rounds_left) × IsFirst asked begun × RunsFrom asked begun old stations end)

-- ---- a run with its record and its displays

-- a fault before the paths are opened: there is no memory for displays, the record or the pipe that stops the run, which are asked
-- for; or no record can be begun in its file, the pipe can't be opened, or the thread that waits for it isn't started
abbrev pub CannotStart : RunPlan → Fault → Type 0
CannotStart asked fault.NoMemory = (asked.has_displays ≡ true) ⊎ ((is_some asked.file ≡ true) ⊎ (is_some asked.stop ≡ true))
CannotStart asked (fault.CannotOpen path) = asked.stop ≡ Some path.now
CannotStart asked fault.ThreadNotStarted = is_some asked.stop ≡ true
CannotStart asked (fault.CannotRecord path reason) = asked.file ≡ Some path.now
CannotStart asked _ = ⊥

-- then nothing is read, and only that is printed
pub record StartsNothing (asked : RunPlan) (after : Option (Option (List ℕ))) (err_old err_new : Told) (status : ℕ) : Type 0 where
  pub fault : Fault
  pub why : CannotStart asked fault
  pub out : after ≡ None
  pub told : Tells err_old err_new (fault_line fault)
  pub status_is : status ≡ 1

-- the output at the start of a run: no write failed; the run goes on without it where a record or displays are asked for
abbrev pub new_output : RunPlan → Option RingName → (taken alarm : Option (List ℕ)) → Printing
new_output asked ring taken alarm = record {
  ring = ring;
  taken = taken;
  has_failed = false;
  goes_on = is_some asked.file || asked.has_displays;
  alarm = record { taken = alarm; has_failed = false };
}

-- the record at the start of a run: blank, where one is asked for
abbrev pub IsBlank : Option Text → (alarm : Option (List ℕ)) → Option Recording → Type 0
IsBlank None alarm recording = recording ≡ None
IsBlank (Some file) alarm recording = (blank : Recording) × (recording ≡ Some blank) × IsNewRecord alarm blank

-- such an end of a run leaves this; the status is the worst of its own, the record's and the displays', if they are asked for
pub record Leaves (has_displays : Bool) (ends : RunEnd → Type 0) (after : Option (Option (List ℕ))) (err_new : Told) (status : ℕ) : Type 0 where
  pub end : RunEnd
  pub ends_so : ends end
  pub out : end.out ≡ after
  pub err : end.err ≡ err_new
  pub displays_failed : Bool
  pub displays : AreReported has_displays displays_failed
  pub status_is : status ≡ max (max end.status (record_status end.recording)) (fault_status displays_failed)

-- a run from its first station to its end
pub record RunsStations (asked : RunPlan) (before : Option (List ℕ)) (after : Option (Option (List ℕ))) (alarm : Alarmed) (err_old err_new : Told) (status : ℕ) : Type 0 where
  pub blank : Option Recording
  pub is_blank : IsBlank asked.file alarm.of_record blank
  pub ring : Option RingName
  pub stations : List Station
  pub leaves : Leaves asked.has_displays (Runs asked (record { out = new_output asked ring before alarm.of_output; recording = blank; err = err_old }) stations) after err_new status

-- what was asked is done
abbrev pub RunsAsked : RunPlan → Option (List ℕ) → Option (Option (List ℕ)) → Alarmed → Told → Told → ℕ → Type 0
RunsAsked asked before after alarm err_old err_new status =
    StartsNothing asked after err_old err_new status ⊎ RunsStations asked before after alarm err_old err_new status

-- ---- the same of what the program has

-- what is asked by the options of a run, over paths whose content isn't known
abbrev pub plan_of : RunOptions → RunPlan
plan_of options = record {
  tables = options.tables;
  begins_at = options.begins_at;
  rounds_left = options.rounds - 1;
  paths = map string_bytes options.paths.now.items;
  known = unknown (map string_bytes options.paths.now.items);
  hand_over_at = options.hand_over_at;
  site = options.site;
  file = option_map string_bytes options.record.now;
  has_displays = is_some options.displays.now;
  stop = option_map string_bytes options.stop.now;
}

-- where the clock of a run begins that starts at a time since 1970, in milliseconds
abbrev pub beginning_of : ClockOrigin → (now : ℕ) → ℕ
beginning_of begins.Start now = 0
beginning_of begins.Unix now = now

-- the time since 1970 at which that clock shows 0
abbrev pub origin_of : ClockOrigin → (now : ℕ) → ℕ
origin_of begins.Start now = now
origin_of begins.Unix now = 0

-- what is asked of a run by its arguments, over paths whose content isn't known; it starts at the origin, and JSON has the time
-- since 1970
abbrev pub plan_from : RunArguments → (origin : ℕ) → RunPlan
plan_from arguments origin = record {
  tables = record { pace = arguments.pace; format = format_since arguments.format (origin_of arguments.clock origin) };
  begins_at = beginning_of arguments.clock origin;
  rounds_left = arguments.rounds - 1;
  paths = map string_bytes arguments.paths.items;
  known = unknown (map string_bytes arguments.paths.items);
  hand_over_at = forget_at;
  site = arguments.site;
  file = option_map string_bytes arguments.record;
  has_displays = is_some arguments.displays;
  stop = option_map string_bytes arguments.stop;
}

-- what a station may go on from
abbrev pub start_of : Kept → RoundStart
start_of kept = record { base = kept.recent.base; entries = kept.recent.entries.items; last_tick = kept.last_tick; site = kept.site }

-- what a run writes to
abbrev pub streams_of : Printing → Option Recording → Told → Streams
streams_of out recording err = record { out = out; recording = recording; err = err }

-- what a station is begun with
abbrev pub begun_of : {R I O A : Type 0} → Stage R I O A → Begun
begun_of stage = record {
  rounds_left = stage.rounds_left;
  given = start_of stage.kept;
  duties = stage.duties;
  sources = map state_of stage.inputs.items;
  answers = stage.answers.items;
}

-- what a closed station leaves that started so, with these seats, and what its receivers counted
abbrev pub left_of : {R I O A : Type 0} → StationEnd R I O A → Start → Seated → List Seated → List (Result Tally PumpFault) → Left
left_of closed start reporter receivers counted = record {
  rounds_left = closed.rounds_left;
  duties = closed.duties;
  start = start;
  closing = record { reporter = reporter; receivers = receivers; journal = closed.journal.log.entries };
  counted = counted;
  hands_over = closed.hands_over;
  due = closed.due;
  sources = map state_of closed.inputs.items;
  answers = closed.answers.items;
  is_broken = is_broken closed.out;
}

-- a station has run, from what it was begun with to what it leaves
pub record RanTo {R I O A : Type 0} (stage : Stage R I O A) (closed : StationEnd R I O A) : Type 0 where
  pub start : Start
  pub reporter : Seated
  pub receivers : List Seated
  pub counted : List (Result Tally PumpFault)
  pub log : closed.journal.log ≡ log_of start closed.journal.log.entries
  pub runs : (err : Told) → RunsStation (record {
    begun = begun_of stage;
    old = streams_of stage.out stage.beside.record err;
    left = left_of closed start reporter receivers counted;
    new = streams_of closed.out closed.beside.record err;
  })
  pub paths : closed.paths ≡ stage.paths

-- these threads read all paths, in their order, at most eight; there is a source for each, and what was counted of it
pub record AreRead {I : Type 0} (paths : List Text) (threads : List (PathThread I)) (sources : List SourceState) (answers : List (Result Tally PumpFault)) : Type 0 where
  pub named : map (λ t. string_bytes t.path.now) threads ≡ paths
  pub take : AllTakeFrom (map (λ t. t.handle.promise) threads) sources
  pub few : length sources ≤ 8
  pub many : length answers ≡ length sources

-- the end of a round: what the next goes on from, or the end of the run
abbrev pub IsRoundEnd : {O A : Type 0} → (O → Option (List ℕ)) → RunPlan → Left → Streams → (err_new : Told) → Result (Carried O A) (JobResult O) → Type 0
IsRoundEnd contents asked left old err_new (Ok carried) =
    (left.rounds_left ≡ carried.rounds_left + 1) × ((round : EndsRound asked left old.err err_new 0) × (round.stopped ≡ false))
    × KeepsRecent left.start left.closing.journal (start_of carried.kept) old.recording carried.beside.record × (carried.out ≡ old.out)
IsRoundEnd contents asked left old err_new (Err ran) = Leaves asked.has_displays (EndsRun asked left old) (option_map contents ran.out) err_new ran.status

-- what comes after a station
abbrev pub IsNext : {R O A : Type 0} → (O → Option (List ℕ)) → RunPlan → Left → Streams → (err_new : Told) → Next R O A → Type 0
IsNext contents asked left old err_new (next_is.Station stage) =
    Follows asked left old (begun_of stage) (streams_of stage.out stage.beside.record err_new)
    × AreRead asked.paths stage.paths.threads.items (map state_of stage.inputs.items) stage.answers.items
IsNext contents asked left old err_new (next_is.Over ran) = (ran.status ≤ 1) × Leaves asked.has_displays (EndsRun asked left old) (option_map contents ran.out) err_new ran.status

-- the end of a run with this status so far: its output is out of its buffer
pub record ClosesOutput (has_displays : Bool) (before : Option (List ℕ)) (failed_before : Bool) (recording : Option Recording) (err_old err_new : Told) (so_far : ℕ) (after : Option (Option (List ℕ))) (status : ℕ) : Type 0 where
  pub output : Option (List ℕ)
  pub out : after ≡ Some output
  pub has_failed : Bool
  pub once : failed_before ≡ true → has_failed ≡ false
  pub gives : GivesBack before output (failed_before || has_failed)
  pub told : Tells err_old err_new (output_lines has_failed)
  pub displays_failed : Bool
  pub displays : AreReported has_displays displays_failed
  pub status_is : status ≡ max (max (max so_far (fault_status (failed_before || has_failed))) (record_status recording)) (fault_status displays_failed)
