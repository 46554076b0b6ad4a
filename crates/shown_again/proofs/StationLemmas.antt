-- What a station printed and recorded, whose output and record have not failed.
use Rattle.std.proofs.Common.{rules, ◌≡◌, ◌∙◌, ℕ, Bool, true, false, List, [], ◌++◌, Option, Some, None, refl, sym, ap, subst, append-nil, arith, max, flat_map}
use Rattle.std.specs.Io.KnownBytes.{Appends, Keeps, append_known}
use Rattle.station_report.specs.declared.formats.Format.{Format}
use Rattle.station_report.specs.declared.formats.Format.TheVariants.{Text}
use Rattle.std.proofs.KnownBytes.{Appends-kept}
use Rattle.station_history.specs.Start.{Start}
use Rattle.station_shared.specs.Seats.{Seated}
use Rattle.station_record.specs.Record.{RecordedLook, look_lines, recorded_after, seen_lists, shown_lists}
use Rattle.messages.proofs.Common.{fault_status}
use Rattle.station_reporter.proofs.Common.{AreRecordable, IfRecording, Recording, Records, TakesText, TakesBy, looks_of, recorded_by, Printing, TakesTexts, TakesTextsBy, texts}
use Rattle.station_run.proofs.Common.{GivesBack, RoundStart, RunsStation, Station}
use Rattle.shown_again.proofs.LookLemmas.{Grown, looks-grow, recorded_last, shown-recorded, text_table, texts-seen}
use Rattle.station_files.proofs.RecordedLemmas.{unfailed}

-- nothing is appended to what was taken
pub appended_nil : (o : Option (List ℕ)) (bs : List ℕ) → bs ≡ [] → append_known o bs ≡ o
appended_nil None bs e = refl
appended_nil (Some x) bs e = ap (λ b. Some (x ++ b)) e ∙ ap Some (append-nil x)

pub no-fault : (x : ℕ) (b : Bool) → 0 ≡ max x (fault_status b) → b ≡ false
no-fault x false e = refl
no-fault x true e = absurd (grind (arith))

pub kept-whole : (between after : Option (List ℕ)) (failed : Bool) → failed ≡ false → GivesBack between after failed → Keeps between after
kept-whole between after failed well gives = subst (λ (o : Option (List ℕ)). Keeps between o) (appended_nil after gives.unwritten (gives.well well)) gives.bytes

took-by : (f g : Bool) (a b : Recording) (x : List ℕ) → TakesBy f g a b x → g ≡ false → Appends a.taken b.taken x
took-by false false a b x p e = p.0
took-by f true a b x p e = absurd (search rules)
took-by true false a b x p e = absurd p

pub took : (a b : Recording) (x : List ℕ) → TakesText a b x → b.has_failed ≡ false → Appends a.taken b.taken x
took a b x p e = took-by a.has_failed b.has_failed a b x p e

whole-by : (f g : Bool) (format : Format) (start : Start) (looks : List (Option Seated)) (before between : Printing) → g ≡ false → TakesTextsBy f g format start looks before between → Appends before.taken between.taken (texts format start looks)
whole-by false false format start looks before between e takes = takes.grown
whole-by f true format start looks before between e takes = absurd (search rules)
whole-by true false format start looks before between e takes = absurd takes

whole-texts : (format : Format) (start : Start) (looks : List (Option Seated)) (before between : Printing) → between.has_failed ≡ false → TakesTexts format start looks before between → Appends before.taken between.taken (texts format start looks)
whole-texts format start looks before between e takes = whole-by before.has_failed between.has_failed format start looks before between e takes.bytes

-- the looks of a station without a fault, whose record has not failed
pub record StationSays (given : RoundStart) (start : Start) (closing : Seated) (before after : Option (List ℕ)) (was is : Recording) : Type 0 where
  pub looks : List RecordedLook
  pub grown : Grown start given.entries closing.seen (seen_lists looks)
  pub prints : Appends before after (flat_map (text_table start) (shown_lists looks))
  pub records : Appends was.taken is.taken (look_lines was.recorded looks)
  pub recorded : is.recorded ≡ recorded_after was.recorded (seen_lists looks)
  pub recordable : AreRecordable was.recorded (seen_lists looks)
  pub well : was.has_failed ≡ false

pub station-says : (station : Station) (was is : Recording) → RunsStation station → station.begun.duties.tables.format ≡ Text → station.old.recording ≡ Some was → station.new.recording ≡ Some is → station.new.out.has_failed ≡ false → is.has_failed ≡ false
    → StationSays station.begun.given station.left.start station.left.closing.reporter station.old.out.taken station.new.out.taken was is
station-says station was is runs is_text was_is is_is well_written well =
    let shows = runs.shows in
    let start = station.left.start in
    let shown = looks_of shows.showings ++ shows.last in
    let looks = recorded_by shows.showings ++ recorded_last shows.last in
    let records : Records looks was is =
    subst (λ (o : Option Recording). IfRecording (Records looks) (Some was) o) is_is (subst (λ (o : Option Recording). IfRecording (Records looks) o station.new.recording) was_is shows.records) in
    let texts_are : texts station.begun.duties.tables.format start shown ≡ flat_map (text_table start) (shown_lists looks) =
    ap (λ (format : Format). texts format start shown) is_text ∙ texts-seen start shown ∙ ap (flat_map (text_table start)) (sym (shown-recorded shows.showings shows.last)) in
    record {
      looks = looks;
      grown = looks-grow station shows;
      prints = subst (Appends station.old.out.taken station.new.out.taken) texts_are
          (whole-texts station.begun.duties.tables.format start shown station.old.out station.new.out well_written shows.takes);
      records = took was is (look_lines was.recorded looks) records.takes well;
      recorded = records.recorded;
      recordable = records.recordable well;
      well = unfailed was is (look_lines was.recorded looks) records.takes well;
    }

-- the same of an output that is out of its buffer
pub says-kept : (given : RoundStart) (start : Start) (closing : Seated) (before mid after : Option (List ℕ)) (was is : Recording) → Keeps mid after → StationSays given start closing before mid was is → StationSays given start closing before after was is
says-kept given start closing before mid after was is kept says = record {
  looks = says.looks;
  grown = says.grown;
  prints = Appends-kept before mid after (flat_map (text_table start) (shown_lists says.looks)) says.prints kept;
  records = says.records;
  recorded = says.recorded;
  recordable = says.recordable;
  well = says.well;
}
