-- What a run told up to a station, and what it reported at once.
use Rattle.std.proofs.Common.{◌≡◌, ◌∙◌, ◌⊎◌, inl, inr, ℕ, ◌&&◌, ◌||◌, Bool, true, false, List, [], ◌++◌, Option, Some, None, arith, is_some, length, refl, sym, ap, subst}
use Rattle.station_report.specs.declared.formats.Format.{Format}
use Rattle.station_history.specs.Start.{Start}
use Rattle.station_shared.specs.Seats.{Seated}
use Rattle.messages.proofs.Common.{Tells, Told, fault_line}
use Rattle.messages.specs.Telling.{Alarmed}
use Rattle.messages.specs.declared.faults.Fault.TheVariants as fault
use Rattle.station_reporter.proofs.Common.{IfRecording, Printing, Recording, Records, TakesBy, TakesTexts, TakesTextsBy, TakesText, TellsFailure, TellsOutput}
use Rattle.station_files.specs.Recorded.{RecordsRest}
use Rattle.station_run.proofs.Common.{BeginsRound, Begun, EndsRound, Follows, GoesOn, HandsOver, Left, RunPlan, RunsStation, Station, Streams}
use Rattle.station_main.specs.Statuses.{ReportsOutput, ReportsRecord, TellsLines, ToldLine, new_alarm, worst_line}
use Rattle.station_main.proofs.StatusLemmas.{lines-then, no-lines, round-told, worst-then}

-- ---- what is reported at once

-- a failed output is reported where the run goes on without it
output-by : (f g go : Bool) (format : Format) (start : Start) (looks : List (Option Seated)) (alarm : Told) (old new : Printing) → old.goes_on ≡ go → TakesTextsBy f g format start looks old new
    → ReportsOutput (f && go) alarm old.alarm → ReportsOutput (g && go) alarm new.alarm
output-by false false go format start looks alarm old new is takes was = takes.untold ∙ was
output-by false true true format start looks alarm old new is takes was =
    subst (λ (a : Told). Tells a new.alarm (fault_line fault.Write)) was (subst (λ (b : Bool). TellsOutput b old.alarm new.alarm) is takes.told)
output-by false true false format start looks alarm old new is takes was = subst (λ (b : Bool). TellsOutput b old.alarm new.alarm) is takes.told ∙ was
output-by true true go format start looks alarm old new is takes was = subst (λ (p : Printing). ReportsOutput go alarm p.alarm) (sym takes.same) was
output-by true false go format start looks alarm old new is takes was = absurd takes

record-by : (f g : Bool) (text : List ℕ) (alarm : Told) (old new : Recording) → TakesBy f g old new text → ReportsRecord f alarm old.alarm → ReportsRecord g alarm new.alarm
record-by false false text alarm old new takes was = takes.1 ∙ was
record-by false true text alarm old new takes was = subst (λ (a : Told). TellsFailure a new.alarm) was takes.1
record-by true true text alarm old new takes was = subst (λ (a : Told). TellsFailure alarm a) (sym takes.1) was
record-by true false text alarm old new takes was = absurd takes

abbrev pub ReportsIf : Told → Option Recording → Type 0
ReportsIf alarm None = Unit {0}
ReportsIf alarm (Some recording) = ReportsRecord recording.has_failed alarm recording.alarm

-- the record takes some text, if there is one
module _ (goes_on : Recording → Recording → Type 0) (takes : (old new : Recording) → goes_on old new → (text : List ℕ) × TakesText old new text) (alarm : Told) where
  record-if : (old new : Option Recording) → IfRecording goes_on old new → ReportsIf alarm old → ReportsIf alarm new
  record-if None None is was = tt
  record-if None (Some new) is was = absurd is
  record-if (Some old) None is was = absurd is
  record-if (Some old) (Some new) is was = let taken = takes old new is in record-by old.has_failed new.has_failed taken.0 alarm old new taken.1 was

same-if : (goes_on : Recording → Recording → Type 0) (old new : Option Recording) → IfRecording goes_on old new → is_some new ≡ is_some old
same-if goes_on None None is = refl
same-if goes_on None (Some new) is = absurd is
same-if goes_on (Some old) None is = absurd is
same-if goes_on (Some old) (Some new) is = refl

-- ---- up to a station

-- what a run told up to here, of which no line is a fault, and what it reported at once
pub record SoFar (asked : RunPlan) (alarm : Alarmed) (first : Told) (now : Streams) : Type 0 where
  pub lines : List ToldLine
  pub told : TellsLines first now.err lines
  pub fine : worst_line lines ≡ 0
  pub goes_on : now.out.goes_on ≡ (is_some asked.file || asked.has_displays)
  pub output : ReportsOutput (now.out.has_failed && now.out.goes_on) (new_alarm alarm.of_output) now.out.alarm
  pub same_record : is_some now.recording ≡ is_some asked.file
  pub recorded : ReportsIf (new_alarm alarm.of_record) now.recording

module _ (asked : RunPlan) (alarm : Alarmed) (first : Told) where
  after-output : (format : Format) (start : Start) (looks : List (Option Seated)) (old new : Printing) → TakesTexts format start looks old new
      → ReportsOutput (old.has_failed && old.goes_on) (new_alarm alarm.of_output) old.alarm → ReportsOutput (new.has_failed && new.goes_on) (new_alarm alarm.of_output) new.alarm
  after-output format start looks old new takes was =
      subst (λ (go : Bool). ReportsOutput (new.has_failed && go) (new_alarm alarm.of_output) new.alarm) (sym takes.goes_on)
      (output-by old.has_failed new.has_failed old.goes_on format start looks (new_alarm alarm.of_output) old new refl takes.bytes was)

  pub after-station : (station : Station) → RunsStation station → SoFar asked alarm first station.old → SoFar asked alarm first station.new
  after-station station runs so_far =
      let shows = runs.shows in
      let takes = shows.takes in
      let was = station.old.recording in
      let is = station.new.recording in
      record {
        lines = so_far.lines;
        told = subst (λ (t : Told). TellsLines first t so_far.lines) (sym runs.err) so_far.told;
        fine = so_far.fine;
        goes_on = takes.goes_on ∙ so_far.goes_on;
        output = after-output station.begun.duties.tables.format station.left.start _ station.old.out station.new.out takes so_far.output;
        same_record = same-if (Records _) was is shows.records ∙ so_far.same_record;
        recorded = record-if (Records _) (λ old new goes_on. (_, goes_on.takes)) (new_alarm alarm.of_record) was is shows.records so_far.recorded;
      }

  -- lines of which none is a fault
  pub record Adds (old new : Told) : Type 0 where
    pub lines : List ToldLine
    pub told : TellsLines old new lines
    pub fine : worst_line lines ≡ 0

  pub adds-none : (old new : Told) → new ≡ old → Adds old new
  adds-none old new same = record { lines = []; told = subst (λ (t : Told). TellsLines old t []) (sym same) (no-lines old); fine = refl }

  adds-round : (left : Left) (old new : Told) → EndsRound asked left old new 0 → Adds old new
  adds-round left old new round =
      let by = round-told asked left old new 0 round in
      record { lines = by.lines; told = by.told; fine = sym by.status_is }

  adds-how : (left : Left) (next : Begun) (old new : Told) → HandsOver left next old new ⊎ BeginsRound asked left next old new → Adds old new
  adds-how left next old new (inl hands) = adds-none old new hands.err
  adds-how left next old new (inr round) = adds-round left old new round.over

  pub adds-going-on : (left : Left) (old new : Told) → GoesOn asked left old new → Adds old new
  adds-going-on left old new (inl hands) = adds-none old new hands.1
  adds-going-on left old new (inr (some, (round, goes_on))) = adds-round left old new round

  pub after-follows : (left : Left) (old new : Streams) (next : Begun) → Follows asked left old next new → SoFar asked alarm first old → SoFar asked alarm first new
  after-follows left old new next follows so_far =
      let added = adds-how left next old.err new.err follows.how in
      let rest = RecordsRest left.closing.journal (length next.given.entries) in
      let is = worst-then so_far.lines added.lines in
      record {
        lines = so_far.lines ++ added.lines;
        told = lines-then first old.err new.err so_far.lines added.lines so_far.told added.told;
        fine = is ∙ omega (arith, so_far.fine, added.fine);
        goes_on = ap (λ (p : Printing). p.goes_on) follows.out ∙ so_far.goes_on;
        output = subst (λ (p : Printing). ReportsOutput (p.has_failed && p.goes_on) (new_alarm alarm.of_output) p.alarm) (sym follows.out) so_far.output;
        same_record = same-if rest old.recording new.recording follows.is_kept.records ∙ so_far.same_record;
        recorded = record-if rest (λ old new goes_on. (_, goes_on.takes)) (new_alarm alarm.of_record) old.recording new.recording follows.is_kept.records so_far.recorded;
      }
