-- What a run told to its end, and the status that it gives.
use Rattle.std.proofs.Common.{rules, ◌≡◌, ◌∙◌, inl, inr, ℕ, ◌≤◌, ◌&&◌, ◌||◌, Bool, true, false, not, List, [], ◌∷◌, ◌++◌, Option, Some, None, Err, arith, is_some, max, refl, sym, ap, subst}
use Rattle.clap.specs.Words.{Text}
use Rattle.messages.proofs.Common.{Tells, Told, fault_status}
use Rattle.messages.specs.Telling.{Alarmed, fault_words}
use Rattle.messages.specs.declared.faults.Fault.TheVariants as fault
use Rattle.station_files.proofs.ShownLemmas.{none_failed}
use Rattle.station_reporter.proofs.Common.{Recording, is_broken, record_status}
use Rattle.station_run.proofs.Common.{Begun, EndsRun, IsLost, IsOver, Left, RunEnd, RunPlan, Runs, RunsFrom, RunsOn, RunsStation, Station, Streams}
use Rattle.streams.specs.Source.{RingName}
use Rattle.station_run.specs.Stations.{IsBlank, NoRoundAfter, RunsAsked, new_output}
use Rattle.station_main.specs.Statuses.{ReportsAtOnce, ReportsRecord, StatusOfRun, TellsLines, ToldLine, new_alarm, worst_line}
use Rattle.station_main.proofs.StatusLemmas.{fault-told, lines-then, no-lines, output-text, output-worst, output_line, round-told, worst-most, worst-then}
use Rattle.station_main.proofs.SoFarLemmas.{Adds, ReportsIf, SoFar, adds-going-on, adds-none, after-follows, after-station}

-- ---- to its end

is_failed : Option Recording → Bool
is_failed None = false
is_failed (Some recording) = recording.has_failed

failed-status : (recording : Option Recording) → record_status recording ≡ fault_status (is_failed recording)
unfolding is_failed
failed-status None = refl
failed-status (Some recording) = refl

failed-some : (recording : Option Recording) → is_failed recording ≡ true → is_some recording ≡ true
unfolding is_failed
failed-some None failed = failed
failed-some (Some recording) failed = refl

record-alarm : (alarm : Told) (recording : Option Recording) → ReportsIf alarm recording → (after : Told) × ReportsRecord (is_failed recording) alarm after
unfolding is_failed
record-alarm alarm None reported = (alarm, refl)
record-alarm alarm (Some recording) reported = (recording.alarm, reported)

second : (a b : Bool) → (a && b) ≡ true → b ≡ true
second true b e = e
second false b e = absurd (search rules)

fault-most : (has_failed : Bool) → fault_status has_failed ≤ 1
fault-most false = omega arith
fault-most true = omega arith

-- a failed output counts once: it is told in the end, or was reported at once
once-or-at-once : (f h go : Bool) (told : ℕ) → told ≤ 1 → fault_status (f && not go) ≤ told → max told (fault_status (f || h)) ≡ max (max told (fault_status h)) (fault_status (f && go))
once-or-at-once false h go told most broken = omega arith
once-or-at-once true h true told most broken = let least = fault-most h in omega (arith, most, least)
once-or-at-once true h false told most broken = let least = fault-most h in omega (arith, most, broken, least)

-- what is told after the last round
record More (err_old err_new : Told) (of_round told : ℕ) : Type 0 where
  lines : List ToldLine
  more : TellsLines err_old err_new lines
  worst : told ≡ max of_round (worst_line lines)

no-more : (rounds_left : ℕ) (stopped : Bool) (err_old err_new : Told) (of_round told : ℕ) → NoRoundAfter rounds_left stopped err_old err_new of_round told → More err_old err_new of_round told
no-more rounds_left stopped err_old err_new of_round told (inl (why, same, is)) =
    record { lines = []; more = subst (λ (t : Told). TellsLines err_old t []) (sym same) (no-lines err_old); worst = is ∙ omega arith }
no-more rounds_left stopped err_old err_new of_round told (inr (none, tells, is)) =
    record { lines = Err (fault_words fault.NoMemory) ∷ []; more = fault-told err_old err_new fault.NoMemory tells; worst = is ∙ omega (arith, none) }

module _ (asked : RunPlan) (alarm : Alarmed) (first : Told) where
  at-once : (now : Streams) → SoFar asked alarm first now → ReportsAtOnce asked alarm (now.out.has_failed && now.out.goes_on) (is_failed now.recording)
  at-once now so_far =
      let recorded = record-alarm (new_alarm alarm.of_record) now.recording so_far.recorded in
      record {
        output_alarm = now.out.alarm;
        output = so_far.output;
        goes_on = λ failed. sym so_far.goes_on ∙ second now.out.has_failed now.out.goes_on failed;
        record_alarm = recorded.0;
        recorded = recorded.1;
        has_record = λ failed. sym so_far.same_record ∙ failed-some now.recording failed;
      }

  -- what a run told to its end, and what it reported at once
  record Ended (end : RunEnd) : Type 0 where
    lines : List ToldLine
    told : TellsLines first end.err lines
    output_failed : Bool
    record_failed : Bool
    reported : ReportsAtOnce asked alarm output_failed record_failed
    worst : max end.status (record_status end.recording) ≡ max (max (worst_line lines) (fault_status output_failed)) (fault_status record_failed)

  ends-lost : (now : Streams) (err : Told) (end : RunEnd) → SoFar asked alarm first now → Adds asked alarm first now.err err → IsLost asked.paths err end → Ended end
  ends-lost now err end so_far added lost =
      let early = lost.early in
      let lines = so_far.lines ++ added.lines in
      let fault = Err (fault_words early.fault) ∷ [] in
      let so = lines-then first now.err err so_far.lines added.lines so_far.told added.told in
      let both = worst-then lines fault in
      let recorded = failed-status end.recording in
      let recorded_most = fault-most (is_failed end.recording) in
      let output_most = fault-most (now.out.has_failed && now.out.goes_on) in
      let record_most = fault-most (is_failed now.recording) in
      let most = worst-most lines in
      record {
        lines = lines ++ fault;
        told = lines-then first err end.err lines fault so (fault-told err end.err early.fault early.told);
        output_failed = now.out.has_failed && now.out.goes_on;
        record_failed = is_failed now.recording;
        reported = at-once now so_far;
        worst = omega (arith, early.status_is, both, recorded, recorded_most, output_most, record_most, most);
      }

  ends-over : (left : Left) (now : Streams) (end : RunEnd) → left.is_broken ≡ is_broken now.out → SoFar asked alarm first now → IsOver asked left now end → Ended end
  ends-over left now end broken so_far over =
      let by = round-told asked left now.err over.err_round over.of_round over.round in
      let more = no-more left.rounds_left over.round.stopped over.err_round over.err_mid over.of_round over.told over.no_more in
      let output = output_line over.has_failed in
      let lines_2 = so_far.lines ++ by.lines in
      let lines_3 = lines_2 ++ more.lines in
      let told_2 = lines-then first now.err over.err_round so_far.lines by.lines so_far.told by.told in
      let told_3 = lines-then first over.err_round over.err_mid lines_2 more.lines told_2 more.more in
      let told_output = subst (Tells over.err_mid end.err) (output-text over.has_failed) over.told_too in
      let worst_2 = worst-then so_far.lines by.lines in
      let worst_3 = worst-then lines_2 more.lines in
      let worst_4 = worst-then lines_3 output in
      let worst_output = output-worst over.has_failed in
      let round_most = worst-most by.lines in
      let more_most = worst-most more.lines in
      let told_most : over.told ≤ 1 = omega (arith, more.worst, by.status_is, round_most, more_most) in
      let here : fault_status left.is_broken ≤ over.told = omega (arith, over.round.told_is, over.round.status_is, more.worst) in
      let of_output : fault_status (now.out.has_failed && not now.out.goes_on) ≤ over.told = subst (λ (b : Bool). fault_status b ≤ over.told) broken here in
      let once = once-or-at-once now.out.has_failed over.has_failed now.out.goes_on over.told told_most of_output in
      let recorded : record_status end.recording ≡ fault_status (is_failed now.recording) = ap record_status over.recording ∙ failed-status now.recording in
      record {
        lines = lines_3 ++ output;
        told = lines-then first over.err_mid end.err lines_3 output told_3 told_output;
        output_failed = now.out.has_failed && now.out.goes_on;
        record_failed = is_failed now.recording;
        reported = at-once now so_far;
        worst = omega (arith, over.status_is, once, recorded, worst_2, worst_3, worst_4, worst_output, so_far.fine, by.status_is, more.worst);
      }

  ends-run : (station : Station) (end : RunEnd) → RunsStation station → SoFar asked alarm first station.new → EndsRun asked station.left station.new end → Ended end
  ends-run station end runs so_far (inl over) = ends-over station.left station.new end runs.shows.is_broken so_far over
  ends-run station end runs so_far (inr (err, goes_on, lost)) = ends-lost station.new err end so_far (adds-going-on asked alarm first station.left station.new.err err goes_on) lost

  ends-on : (station : Station) (stations : List Station) (end : RunEnd) → RunsStation station → SoFar asked alarm first station.new → RunsOn asked station stations end → Ended end
  ends-on station [] end runs so_far on = ends-run station end runs so_far on
  ends-on station (next ∷ stations) end runs so_far (follows, next_runs, on) =
      let begun = after-follows asked alarm first station.left station.new next.old next.begun follows so_far in
      ends-on next stations end next_runs (after-station asked alarm first next next_runs begun) on

  ends-from : (begun : Begun) (old : Streams) (stations : List Station) (end : RunEnd) → SoFar asked alarm first old → RunsFrom asked begun old stations end → Ended end
  ends-from begun old [] end so_far lost = ends-lost old old.err end so_far (adds-none asked alarm first old.err old.err refl) lost
  ends-from begun old (station ∷ stations) end so_far (begun_is, old_is, runs, on) =
      let here = subst (λ (s : Streams). SoFar asked alarm first s) (sym old_is) so_far in
      ends-on station stations end runs (after-station asked alarm first station runs here) on

  ends-all : (old : Streams) (stations : List Station) (end : RunEnd) → SoFar asked alarm first old → Runs asked old stations end → Ended end
  ends-all old stations end so_far (inl (none, lost)) = ends-lost old old.err end so_far (adds-none asked alarm first old.err old.err refl) lost
  ends-all old stations end so_far (inr (begun, given, rounds_left, is_first, from)) = ends-from begun old stations end so_far from

-- ---- from its beginning

blank-same : (file : Option Text) (alarm : Option (List ℕ)) (blank : Option Recording) → IsBlank file alarm blank → is_some blank ≡ is_some file
blank-same None alarm blank is = ap (λ (r : Option Recording). is_some r) is
blank-same (Some file) alarm blank is = ap (λ (r : Option Recording). is_some r) is.1

blank-reports : (file : Option Text) (alarm : Option (List ℕ)) (blank : Option Recording) → IsBlank file alarm blank → ReportsIf (new_alarm alarm) blank
blank-reports None alarm blank is = subst (λ (r : Option Recording). ReportsIf (new_alarm alarm) r) (sym is) tt
blank-reports (Some file) alarm blank (new, is, is_new) =
    let here : ReportsRecord new.has_failed (new_alarm alarm) new.alarm = subst (λ (b : Bool). ReportsRecord b (new_alarm alarm) new.alarm) (sym is_new.well) is_new.alarm in
    subst (λ (r : Option Recording). ReportsIf (new_alarm alarm) r) (sym is) here

module _ (asked : RunPlan) (before : Option (List ℕ)) (alarm : Alarmed) (err_old err_new : Told) where
  begins : (ring : Option RingName) (blank : Option Recording) → IsBlank asked.file alarm.of_record blank → SoFar asked alarm err_old (record { out = new_output asked ring before alarm.of_output; recording = blank; err = err_old })
  begins ring blank is = record {
    lines = [];
    told = no-lines err_old;
    fine = refl;
    goes_on = refl;
    output = refl;
    same_record = blank-same asked.file alarm.of_record blank is;
    recorded = blank-reports asked.file alarm.of_record blank is;
  }

  pub status-of-run : (after : Option (Option (List ℕ))) (status : ℕ) → RunsAsked asked before after alarm err_old err_new status → StatusOfRun asked alarm err_old err_new status
  status-of-run after status (inl nothing) = record {
    lines = Err (fault_words nothing.fault) ∷ [];
    told = fault-told err_old err_new nothing.fault nothing.told;
    output_failed = false;
    record_failed = false;
    at_once = record {
      output_alarm = new_alarm alarm.of_output;
      output = refl;
      goes_on = λ failed. absurd (search rules);
      record_alarm = new_alarm alarm.of_record;
      recorded = refl;
      has_record = λ failed. absurd (search rules);
    };
    displays_failed = false;
    displays = none_failed asked.has_displays;
    status_is = nothing.status_is;
  }
  status-of-run after status (inr runs) =
      let leaves = runs.leaves in
      let old : Streams = record { out = new_output asked runs.ring before alarm.of_output; recording = runs.blank; err = err_old } in
      let ended = ends-all asked alarm err_old old runs.stations leaves.end (begins runs.ring runs.blank runs.is_blank) leaves.ends_so in
      record {
        lines = ended.lines;
        told = subst (λ (t : Told). TellsLines err_old t ended.lines) leaves.err ended.told;
        output_failed = ended.output_failed;
        record_failed = ended.record_failed;
        at_once = ended.reported;
        displays_failed = leaves.displays_failed;
        displays = leaves.displays;
        status_is = leaves.status_is ∙ ap (λ (n : ℕ). max n (fault_status leaves.displays_failed)) ended.worst;
      }

  -- it is 0 or 1
  pub run-most : (status : ℕ) → StatusOfRun asked alarm err_old err_new status → status ≤ 1
  run-most status says =
      let lines = worst-most says.lines in
      let output = fault-most says.output_failed in
      let recorded = fault-most says.record_failed in
      let displays = fault-most says.displays_failed in
      omega (arith, says.status_is, lines, output, recorded, displays)
