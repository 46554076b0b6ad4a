-- A replay of the record of a run prints what the run printed, station by station.
use Rattle.std.proofs.Common.{rules, ◌≡◌, ◌∙◌, ◌⊎◌, inl, inr, ℕ, suc, ◌+◌, ◌≤◌, ◌||◌, Bool, true, false, List, [], ◌∷◌, ◌++◌, Option, Some, None, is_some, refl, sym, ap, subst, length, arith}
use Rattle.std.specs.Io.KnownBytes.{Appends}
use Rattle.modes_frame.specs.Lines.{cuts}
use Rattle.station_journal.proofs.Common.{Site}
use Rattle.station_journal.specs.Log.{IsLegal, empty_log, most_entries}
use Rattle.station_report.specs.declared.formats.Format.TheVariants.{Text}
use Rattle.station_replay.proofs.Common.{calls_in, unlimited_output}
use Rattle.station_replay.proofs.LimitLemmas.{limit-unreached, under-output}
use Rattle.station_record.specs.ReadBack.{new_log}
use Rattle.station_record.proofs.RoundLemmas.{first-continues}
use Rattle.messages.proofs.Common.{Told}
use Rattle.station_reporter.proofs.Common.{IfRecording, Printing, Recording, looks_of, record_status}
use Rattle.station_output.proofs.PrintingLemmas.{unfailed-before}
use Rattle.station_reporter.specs.declared.duties.Duties.{Duties}
use Rattle.station_reporter.specs.declared.schedule.Tables.{Tables}
use Rattle.station_run.proofs.Common.{BeginsRound, Begun, EndsRun, HandsOver, KeepsRecent, RunEnd, RunPlan, RunsOn, RunsStation, Station, no_start, program_limits}
use Rattle.shown_again.proofs.Common.{WroteAll}
use Rattle.shown_again.proofs.KeptEndLemmas.{Begins, wide}
use Rattle.shown_again.proofs.SaidLemmas.{Said, handed-on, only-said, still-well}
use Rattle.shown_again.proofs.StationLemmas.{kept-whole, no-fault, says-kept, station-says}

-- ---- the record is there after a part of a run if it was there before it

record-after : (goes_on : Recording → Recording → Type 0) (old new : Option Recording) (was : Recording) → old ≡ Some was → IfRecording goes_on old new → (is : Recording) × (new ≡ Some is)
record-after goes_on None new was there records = absurd (search rules)
record-after goes_on (Some old) None was there records = absurd records
record-after goes_on (Some old) (Some new) was there records = (new, refl)

-- ---- a station without a fault

-- a station whose output has not failed began with one that had not
began-well : (station : Station) → RunsStation station → station.new.out.has_failed ≡ false → station.old.out.has_failed ≡ false
began-well station runs well = unfailed-before station.begun.duties.tables.format station.left.start (looks_of runs.shows.showings ++ runs.shows.last) station.old.out station.new.out runs.shows.takes well

abbrev IsText : Begun → Type 0
IsText begun = begun.duties.tables.format ≡ Text

next-text : (asked : RunPlan) (station : Station) (next : Begun) (err : Told) → asked.tables.format ≡ Text → RunsStation station → IsText station.begun
    → HandsOver station.left next station.new.err err ⊎ BeginsRound asked station.left next station.new.err err → IsText next
next-text asked station next err asks_text runs is_text (inl hands) = ap (λ (tables : Tables). tables.format) hands.tables ∙ ap (λ (duties : Duties). duties.tables.format) runs.duties ∙ is_text
next-text asked station next err asks_text runs is_text (inr round) = ap (λ (tables : Tables). tables.format) round.first.tables ∙ asks_text

-- ---- the stations of a run

-- a run that wrote all left its output and its record, which says what its stations printed
pub record SaidOn (only : Type 0) (station : Station) (end : RunEnd) (was : Recording) : Type 0 where
  pub output : Option (List ℕ)
  pub out : end.out ≡ Some output
  pub is : Recording
  pub recorded : end.recording ≡ Some is
  pub well : is.has_failed ≡ false
  pub written : station.old.out.has_failed ≡ false
  pub said : Said only station.begun.given station.old.out.taken output was is

-- a run that left its output isn't lost
pub not-lost : {A : Type 0} (out : Option A) → is_some out ≡ true → out ≡ None → ⊥
not-lost None there gone = absurd (search rules)
not-lost (Some output) there gone = absurd (search rules)

well-record : (recording : Option Recording) (is : Recording) → recording ≡ Some is → record_status recording ≡ 0 → is.has_failed ≡ false
well-record recording is there well = no-fault 0 is.has_failed (sym well ∙ ap record_status there ∙ omega arith)

neither : (a b : Bool) → (a || b) ≡ false → a ≡ false
neither false b e = refl
neither true b e = absurd (search rules)

module _ (asked : RunPlan) (asks_text : asked.tables.format ≡ Text) (end : RunEnd) (wrote : WroteAll end) where
  last-said : (only : Type 0) (station : Station) (was : Recording) → RunsStation station → IsText station.begun → station.old.recording ≡ Some was → was.recorded ≡ length station.begun.given.entries → EndsRun asked station.left station.new end → SaidOn only station end was
  last-said only station was runs is_text there known (inr (err, goes_on, lost)) = absurd (not-lost end.out wrote.out lost.out)
  last-said only station was runs is_text there known (inl over) =
      let shown = record-after _ station.old.recording station.new.recording was there runs.shows.records in
      let recorded : end.recording ≡ Some shown.0 = over.recording ∙ shown.1 in
      let is_well = well-record end.recording shown.0 recorded wrote.recorded in
      let all_written = sym over.out_failed ∙ wrote.well in
      let written = neither station.new.out.has_failed over.has_failed all_written in
      let kept = kept-whole station.new.out.taken over.output _ all_written over.gives in
      let says = says-kept station.begun.given station.left.start station.left.closing.reporter station.old.out.taken station.new.out.taken over.output was shown.0 kept
      (station-says station was shown.0 runs is_text there shown.1 written is_well) in
      record {
        output = over.output;
        out = over.out;
        is = shown.0;
        recorded = recorded;
        well = is_well;
        written = began-well station runs written;
        said = only-said only station.begun.given station.left.start station.left.closing.reporter station.old.out.taken over.output was shown.0 known runs.goes_on says;
      }

  not-one-more : (n : ℕ) → suc n ≡ 0 → ⊥
  not-one-more n bad = omega (arith, bad)

  pub stations-said : (station : Station) (stations : List Station) (was : Recording) → RunsStation station → IsText station.begun → station.old.recording ≡ Some was → was.recorded ≡ length station.begun.given.entries
      → RunsOn asked station stations end → SaidOn (length stations ≡ 0) station end was
  stations-said station [] was runs is_text there known ends = last-said _ station was runs is_text there known ends
  stations-said station (next ∷ stations) was runs is_text there known (follows, next_runs, others) =
      let start = station.left.start in
      let journal = station.left.closing.journal in
      let closing = station.left.closing.reporter in
      let shown = record-after _ station.old.recording station.new.recording was there runs.shows.records in
      let found = record-after _ station.new.recording next.old.recording shown.0 shown.1 follows.is_kept.records in
      let keeps : KeepsRecent start journal next.begun.given (Some shown.0) (Some found.0) =
      subst (λ (o : Option Recording). KeepsRecent start journal next.begun.given (Some shown.0) o) found.1 (subst (λ (o : Option Recording). KeepsRecent start journal next.begun.given o next.old.recording) shown.1 follows.is_kept) in
      let later = stations-said next stations found.0 next_runs (next-text asked station next.begun next.old.err asks_text runs is_text follows.how) found.1 keeps.records.recorded others in
      let rest : Said (length stations ≡ 0) next.begun.given station.new.out.taken later.output found.0 later.is = subst (λ (o : Printing). Said (length stations ≡ 0) next.begun.given o.taken later.output found.0 later.is) follows.out later.said in
      let written : station.new.out.has_failed ≡ false = ap (λ (o : Printing). o.has_failed) (sym follows.out) ∙ later.written in
      let well_shown = still-well station.begun.given next.begun.given start closing journal station.old.out.taken station.new.out.taken later.output was shown.0 found.0 later.is known rest.well keeps in
      let says = station-says station was shown.0 runs is_text there shown.1 written well_shown in
      record {
        output = later.output;
        out = later.out;
        is = later.is;
        recorded = later.recorded;
        well = later.well;
        written = began-well station runs written;
        said = handed-on station.begun.given next.begun.given start closing journal station.old.out.taken station.new.out.taken later.output was shown.0 found.0 later.is known rest.well
            (suc (length stations) ≡ 0) (length stations ≡ 0) (not-one-more (length stations)) runs.goes_on says runs.closed.closes.legal runs.closed.closes.seen.0 keeps rest;
      }

-- what a run printed, a replay of its record prints that has no limit of entries
pub record IsShownAgain (site : Site) (only : Type 0) (before after : Option (List ℕ)) (blank left : Recording) : Type 0 where
  pub tables : List ℕ
  pub lines : List ℕ
  pub prints : Appends before after tables
  pub records : Appends blank.taken left.taken lines
  pub says : unlimited_output (empty_log (program_limits site)) (cuts lines) ≡ tables
  pub short : only → calls_in (cuts lines) ≤ most_entries

pub said-again : (site : Site) (only : Type 0) (before after : Option (List ℕ)) (blank left : Recording) → Said only (no_start site) before after blank left → IsShownAgain site only before after blank left
said-again site only before after blank left said =
    let n = most_entries + calls_in (cuts said.lines) in
    let begins : Begins n (no_start site) [] = record { continues = first-continues (wide site n) []; legal = nothing_legal site n } in
    record {
      tables = said.tables;
      lines = said.lines;
      prints = said.prints;
      records = said.records;
      says = sym (under-output (wide site n) (empty_log (program_limits site)) (cuts said.lines) refl refl)
          ∙ sym (limit-unreached (empty_log (wide site n)) (cuts said.lines) (omega arith))
          ∙ said.says n (omega arith) [] begins (omega arith);
      short = λ one. let few = said.short one (omega arith) in omega (arith, few);
    }
  where
    nothing_legal : (site : Site) (n : ℕ) → IsLegal (new_log (wide site n) [])
    nothing_legal site n = tt
