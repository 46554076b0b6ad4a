-- A replay of the record of a run.
use Rattle.std.proofs.Common.{rules, ◌≡◌, ◌∙◌, ◌||◌, inl, inr, ℕ, Bool, true, false, List, [], ◌∷◌, Option, Some, None, Result, Ok, Err, ap, is_some, length, refl, subst, sym, arith, max}
use Rattle.std.specs.Io.KnownBytes.{Appends}
use Rattle.streams.specs.Source.{SourceState}
use Rattle.modes_frame.specs.declared.cutter.Cut.{Cut}
use Rattle.modes_frame.specs.Lines.{cuts}
use Rattle.station_journal.proofs.Common.{Site}
use Rattle.station_journal.specs.Log.{Log, empty_log}
use Rattle.station_report.specs.declared.formats.Format.TheVariants.{Text}
use Rattle.std.proofs.KnownBytes.{Appends-kept}
use Rattle.station_lines.specs.declared.tally.Tally.{Tally}
use Rattle.station_replay.proofs.Common.{forgetting_output, unlimited_output, ReplaysForgetting}
use Rattle.streams.specs.Sink.{SinkState}
use Rattle.station_replay.specs.declared.replaying.ReplayFault.{ReplayFault}
use Rattle.station_replay.proofs.KeepingLemmas.{nothing-lost}
use Rattle.station_replay.proofs.LimitLemmas.{forgets-unreached}
use Rattle.station_record.proofs.ReplayLemmas.{lines-drawn}
use Rattle.messages.proofs.Common.{fault_status, status_of, Told}
use Rattle.messages.specs.Telling.{Alarmed}
use Rattle.station_reporter.proofs.Common.{Recording, record_status}
use Rattle.station_reporter.specs.declared.schedule.Tables.{Tables}
use Rattle.streams.specs.Source.{RingName}
use Rattle.station_run.specs.Stations.{IsBlank, new_output}
use Rattle.station_run.proofs.Common.{Begun, IsFirst, RoundStart, RunEnd, RunPlan, Runs, RunsOn, RunsStation, RunsStations, Station, Streams, forget_at, most_between_ticks, no_start, program_limits}
use Rattle.shown_again.proofs.Common.{HasPrinted, HasRecorded, HasRoom, IsOneStation, ReplayPrints, WroteAll}
use Rattle.shown_again.proofs.SaidLemmas.{Said}
use Rattle.shown_again.proofs.ShownAgainLemmas.{not-lost, said-again, stations-said}
use Rattle.shown_again.proofs.StationLemmas.{kept-whole, no-fault}

-- ---- a replay without a fault

not-one : ◌≡◌ {A = ℕ} 0 1 → ⊥
not-one bad = omega (arith, bad)

-- a desk that forgets shows what one without a limit of entries does
forgets-no_start : (site : Site) (lines : List ℕ) → HasRoom site lines → forgetting_output forget_at (empty_log (program_limits site)) (cuts lines) ≡ unlimited_output (empty_log (program_limits site)) (cuts lines)
forgets-no_start site lines (inl few) = forgets-unreached forget_at (program_limits site) (cuts lines) few
forgets-no_start site lines (inr sparse) = nothing-lost forget_at most_between_ticks (program_limits site) (cuts lines) (omega arith) sparse

answered : (site : Site) (lines : List ℕ) (log : Log) (source_old source_new : SourceState) (sink_old sink_new : SinkState) (turns : ℕ) (answer : Result Tally ReplayFault) (failed : Bool)
    → 0 ≡ max (status_of answer) (fault_status failed) → source_old.left ≡ Some lines → ReplaysForgetting Text forget_at (empty_log (program_limits site)) log source_old source_new sink_old sink_new turns answer
    → Appends sink_old.taken sink_new.taken (forgetting_output forget_at (empty_log (program_limits site)) (cuts lines))
answered site lines log source_old source_new sink_old sink_new turns (Ok tally) failed status left replays =
    let drawn : replays.lines ≡ cuts lines = lines-drawn lines replays.lines source_old source_new turns left replays.draws in
    subst (λ (cs : List Cut). Appends sink_old.taken sink_new.taken (forgetting_output forget_at (empty_log (program_limits site)) cs)) drawn replays.leaves.1
answered site lines log source_old source_new sink_old sink_new turns (Err fault) false status left replays = absurd (not-one status)
answered site lines log source_old source_new sink_old sink_new turns (Err fault) true status left replays = absurd (not-one status)

replayed : (site : Site) (lines text : List ℕ) → unlimited_output (empty_log (program_limits site)) (cuts lines) ≡ text → HasRoom site lines → ReplayPrints site lines text
replayed site lines text is room before after alarm_old alarm_new err_old err_new ends =
    let wrote = answered site lines ends.log ends.source_old ends.source_new _ _ _ ends.answer ends.has_failed ends.status_is ends.whole ends.replays in
    let well = no-fault (status_of ends.answer) ends.has_failed ends.status_is in
    subst (Appends before after) (forgets-no_start site lines room ∙ is) (Appends-kept before ends.between.taken after _ wrote (kept-whole ends.between.taken after ends.has_failed well ends.gives))

-- ---- a run without a fault

second-zero : (x y : ℕ) → 0 ≡ max x y → y ≡ 0
second-zero x y e = grind (arith)

first-zero : (x y : ℕ) → 0 ≡ max x y → x ≡ 0
first-zero x y e = grind (arith)

-- the law of a run by its parts
abbrev ShowsAgain : (site : Site) (before : Option (List ℕ)) (after : Option (Option (List ℕ))) (blank left : Option Recording) → Type 0 → Type 0
ShowsAgain site before after blank left only = (text lines : List ℕ) × HasPrinted before after text × HasRecorded blank left lines × (unlimited_output (empty_log (program_limits site)) (cuts lines) ≡ text) × (only → HasRoom site lines) × (HasRoom site lines → ReplayPrints site lines text)

module _ (asked : RunPlan) (ring : Option RingName) (before told : Option (List ℕ)) (after : Option (Option (List ℕ))) (blank : Recording) (err_old : Told) (end : RunEnd) (is_text : asked.tables.format ≡ Text) (none : blank.recorded ≡ 0)
    (left : end.out ≡ after) (wrote : WroteAll end) where
  abbrev old : Streams
  old = record { out = new_output asked ring before told; recording = Some blank; err = err_old }

  from-first : (begun : Begun) (station : Station) (stations : List Station) → begun.given ≡ no_start asked.site → IsFirst asked begun → station.begun ≡ begun → station.old ≡ old → RunsStation station → RunsOn asked station stations end
      → ShowsAgain asked.site before after (Some blank) end.recording (IsOneStation (station ∷ stations))
  from-first begun station stations given first begun_is old_is runs others =
      let given_is : station.begun.given ≡ no_start asked.site = ap (λ (b : Begun). b.given) begun_is ∙ given in
      let station_text : station.begun.duties.tables.format ≡ Text = ap (λ (b : Begun). b.duties.tables.format) begun_is ∙ ap (λ (tables : Tables). tables.format) first.tables ∙ is_text in
      let known : blank.recorded ≡ length station.begun.given.entries = none ∙ ap (λ (g : RoundStart). length g.entries) (sym given_is) in
      let all = stations-said asked is_text end wrote station stations blank runs station_text (ap (λ (s : Streams). s.recording) old_is) known others in
      let said : Said (length stations ≡ 0) (no_start asked.site) before all.output blank all.is =
      subst (λ (g : RoundStart). Said (length stations ≡ 0) g before all.output blank all.is) given_is
      (subst (λ (o : Option (List ℕ)). Said (length stations ≡ 0) station.begun.given o all.output blank all.is) (ap (λ (s : Streams). s.out.taken) old_is) all.said) in
      let shown = said-again asked.site (length stations ≡ 0) before all.output blank all.is said in (
        shown.tables,
        shown.lines,
        record { output = all.output; left = sym left ∙ all.out; grown = shown.prints },
        record { blank = blank; begun = refl; recording = all.is; left = all.recorded; grown = shown.records },
        shown.says,
        (λ one. inl (shown.short (omega (arith, one)))),
        replayed asked.site shown.lines shown.tables shown.says,
      )

  by-stations : (stations : List Station) → Runs asked old stations end → ShowsAgain asked.site before after (Some blank) end.recording (IsOneStation stations)
  by-stations stations (inl (none_are, lost)) = absurd (not-lost end.out wrote.out lost.out)
  by-stations [] (inr (begun, given, rounds_left, first, lost)) = absurd (not-lost end.out wrote.out lost.out)
  by-stations (station ∷ stations) (inr (begun, given, rounds_left, first, (begun_is, old_is, runs, others))) = from-first begun station stations given first begun_is old_is runs others

blank-of : (file : Option (List ℕ)) (alarm : Option (List ℕ)) (recording : Option Recording) → is_some file ≡ true → IsBlank file alarm recording → (blank : Recording) × (recording ≡ Some blank) × (blank.recorded ≡ 0)
blank-of None alarm recording asked is_blank = absurd (search rules)
blank-of (Some file) alarm recording asked (blank, there, new) = (blank, there, new.recorded)

pub run-replayed : (asked : RunPlan) (before : Option (List ℕ)) (after : Option (Option (List ℕ))) (alarm : Alarmed) (err_old err_new : Told) (status : ℕ) → asked.tables.format ≡ Text → is_some asked.file ≡ true → (run : RunsStations asked before after alarm err_old err_new status)
    → WroteAll run.leaves.end → ShowsAgain asked.site before after run.blank run.leaves.end.recording (IsOneStation run.stations)
run-replayed asked before after alarm err_old err_new status is_text has_file run wrote =
    let leaves = run.leaves in
    let blank = blank-of asked.file alarm.of_record run.blank has_file run.is_blank in
    let runs : Runs asked (record { out = new_output asked run.ring before alarm.of_output; recording = Some blank.0; err = err_old }) run.stations leaves.end =
    subst (λ (o : Option Recording). Runs asked (record { out = new_output asked run.ring before alarm.of_output; recording = o; err = err_old }) run.stations leaves.end) blank.1 leaves.ends_so in
    subst (λ (o : Option Recording). ShowsAgain asked.site before after o leaves.end.recording (IsOneStation run.stations)) (sym blank.1)
    (by-stations asked run.ring before alarm.of_output after blank.0 err_old leaves.end is_text blank.2 leaves.out wrote run.stations runs)

-- ---- a run with status 0

module _ (asked : RunPlan) (end : RunEnd) (ended : end.status ≡ 0) (well : record_status end.recording ≡ 0) where
  not-early : end.status ≡ 1 → ⊥
  not-early one = not-one (sym ended ∙ one)

  wrote-on : (station : Station) (stations : List Station) → RunsOn asked station stations end → WroteAll end
  wrote-on station [] (inl over) =
      record { out = ap is_some over.out; well = over.out_failed ∙ no-fault over.told (station.new.out.has_failed || over.has_failed) (sym ended ∙ over.status_is); recorded = well }
  wrote-on station [] (inr (err, goes_on, lost)) = absurd (not-early lost.early.status_is)
  wrote-on station (next ∷ stations) (follows, runs, others) = wrote-on next stations others

  pub wrote-all : (begun_with : Streams) (stations : List Station) → Runs asked begun_with stations end → WroteAll end
  wrote-all begun_with stations (inl (none_are, lost)) = absurd (not-early lost.early.status_is)
  wrote-all begun_with [] (inr (begun, given, rounds_left, first, lost)) = absurd (not-early lost.early.status_is)
  wrote-all begun_with (station ∷ stations) (inr (begun, given, rounds_left, first, (begun_is, old_is, runs, others))) = wrote-on station stations others

pub run-wrote : (asked : RunPlan) (before : Option (List ℕ)) (after : Option (Option (List ℕ))) (alarm : Alarmed) (err_old err_new : Told) → (run : RunsStations asked before after alarm err_old err_new 0) → WroteAll run.leaves.end
run-wrote asked before after alarm err_old err_new run =
    let both = first-zero _ _ run.leaves.status_is in
    wrote-all asked run.leaves.end (first-zero _ _ (sym both)) (second-zero _ _ (sym both)) _ run.stations run.leaves.ends_so
