-- Stations of the job `run`: what a reporter has shown, and how one follows another.
use Rattle.std.proofs.Common.{rules, ◌≡◌, ◌∙◌, ◌⊎◌, inl, inr, ℕ, ◌&&◌, ◌||◌, Bool, true, false, List, [], ◌∷◌, ◌++◌, Option, Some, None, Result, flat_map, fold, is_some, length, map, max, string_bytes, append-nil, refl, sym, ap, subst, reverse, arith, zero, suc}
use Rattle.streams.specs.Source.{SourceState}
use Rattle.station_journal.specs.declared.entry.Entry.{Entry}
use Rattle.station_journal.specs.declared.limits.Limits.{Limits}
use Rattle.station_journal.proofs.Common.{Site, IsSound, recent_base, IsLegal}
use Rattle.station_journal.proofs.StandsLemmas.{recent_stands, sound_from_legal}
use Rattle.station_history.proofs.Common.{base_of, Start, log_of}
use Rattle.station_shared.specs.Seats.{Seated, Looks, newcomer}
use Rattle.station_lines.specs.declared.pumping.PumpFault.{PumpFault}
use Rattle.station_lines.specs.declared.tally.Tally.{Tally}
use Rattle.messages.specs.Telling.{output_lines}
use Rattle.messages.proofs.Common.{AddsEach, Tells, Told, fault_status, pump_lines, status_of, unfinished_lines}
use Rattle.station_paths.specs.declared.paths.PathThread.{PathThread}
use Rattle.messages.specs.declared.faults.Fault.{Fault}
use Rattle.messages.specs.declared.faults.Fault.TheVariants as fault
use Rattle.station_paths.specs.Faults.{IsUnopened}
use Rattle.station_run.specs.Stations.{CannotStart, ClosesOutput, IsBlank, NoRoundAfter}
use Rattle.station_run.proofs.ReceiverLemmas.{pumped-take}
use Rattle.station_reporter.proofs.Common.{IfRecording, PrintsAndRecords, Recording, Records, MayHandOver, Printing, ReportsByAClock, is_broken, looks_of, recorded_by, TakesTexts}
use Rattle.station_output.proofs.Common.{based, put_after}
use Rattle.station_output.proofs.PrintingLemmas.{based-fails, based-takes, same-ring, takes-failure}
use Rattle.station_report.specs.declared.formats.Format.{Format}
use Rattle.station_files.proofs.RecordedLemmas.{last-record}
use Rattle.station_files.proofs.ShownLemmas.{none_failed}
use Rattle.station_reporter.proofs.ReportLemmas.{printed_at_most}
use Rattle.station_reporter.specs.declared.duties.Duties.{Duties}
use Rattle.station_reporter.specs.declared.schedule.Due.{Due}
use Rattle.station_reporter.specs.declared.reporter.ReporterResult.{ReporterResult}
use Rattle.station_paths.proofs.Common.{AllTakeFrom, GaveAllBut, unfinished_status}
use Rattle.station_run.proofs.Common.{AreRead, Begun, BeginsRound, EndsEarly, EndsRound, EndsRun, Leaves, HandsOver, Follows, GoesOn, IsLost, KeepsRecent, LastLook, LearnsFrom, Left, PrintsLast, RoundStart, RunEnd, RunPlan, RunsFrom, RunsStation, Shows, Station, Streams, may_go_on, program_limits}

-- ---- what is kept of a station

-- what is kept of a station under the limits of the program may be resumed from under them
pub kept_sound : (site : Site) (start : Start) (journal : List Entry) (kept : RoundStart) (was recorded : Option Recording) → start.limits ≡ program_limits site → IsLegal (log_of start journal) → KeepsRecent start journal kept was recorded
    → IsSound (program_limits kept.site) kept.base (reverse kept.entries)
kept_sound site start journal kept was recorded limits legal is =
    let base = base_of start.history in
    let past = reverse journal in
    let stands = recent_stands start.limits base past (sound_from_legal start.limits base start.resumed past legal) in
    let site_is : kept.site ≡ site = is.site ∙ ap (λ (l : Limits). l.site) limits in
    subst (λ under. IsSound under kept.base (reverse kept.entries)) (limits ∙ ap program_limits (sym site_is)) (subst (λ from. IsSound start.limits from (reverse kept.entries)) (sym is.base) (subst (λ entries. IsSound start.limits (recent_base base past) entries) (sym is.entries) stands.sound))

-- and so is what the next one is begun with
pub follows_sound : (asked : RunPlan) (station : Station) (next : Begun) (new : Streams) → RunsStation station → Follows asked station.left station.new next new → IsSound (program_limits next.given.site) next.given.base (reverse next.given.entries)
follows_sound asked station next new runs follows =
    kept_sound station.begun.given.site station.left.start station.left.closing.journal next.given station.new.recording new.recording runs.goes_on.limits runs.closed.closes.legal follows.is_kept

pub adds_length : (before since sums : List (Result Tally PumpFault)) → AddsEach before since sums → length sums ≡ length before
adds_length [] [] [] adds = refl
adds_length [] [] (s ∷ sums) adds = absurd adds
adds_length [] (x ∷ since) sums adds = absurd adds
adds_length (b ∷ before) [] sums adds = absurd adds
adds_length (b ∷ before) (x ∷ since) [] adds = absurd adds
adds_length (b ∷ before) (x ∷ since) (s ∷ sums) adds = omega (arith, adds_length before since sums adds.1)

-- ---- what a reporter has shown

one_look : (station : Start) (mid new : Seated) (look : Option Seated) → (look ≡ None) × (new ≡ mid) ⊎ (look ≡ Some new) × Looks station mid new → LastLook station mid new false (look ∷ [])
one_look station mid new None (inl p) = (None, refl, sym p.1, tt)
one_look station mid new None (inr p) = absurd (search rules)
one_look station mid new (Some l) (inl p) = absurd (search rules)
one_look station mid new (Some l) (inr p) = let same : new ≡ l = cc in (Some l, refl, sym same, subst (λ s. Looks station mid s) same p.1)

none_broken : (hands broken : Bool) → false ≡ (hands || broken) → broken ≡ false
none_broken false false e = refl
none_broken true broken e = absurd (search rules)
none_broken false true e = absurd (search rules)

module _ {K : Type 0} (record_of : K → Option Recording) (begun : Begun) (start : Start) (receivers : List Seated) (journal : List Entry) (counted answers : List (Result Tally PumpFault)) (sources : List SourceState)
    (hands_over : Bool) (before : Printing) (was : Option Recording) (err : Told) where
  -- a station that leaves what its reporter does
  abbrev pub reported : ReporterResult Seated Printing K → Station
  reported report = record {
    begun = begun;
    old = record { out = before; recording = was; err = err };
    left = record {
      rounds_left = begun.rounds_left;
      duties = begun.duties;
      start = start;
      closing = record { reporter = report.seat; receivers = receivers; journal = journal };
      counted = counted;
      hands_over = hands_over;
      due = report.due;
      sources = sources;
      answers = answers;
      is_broken = is_broken report.out;
    };
    new = record { out = report.out; recording = record_of report.beside; err = err };
  }

  -- the reporter's clock has ended at this seat, which has learned from the receivers' since
  abbrev HasShown : Seated → ReporterResult Seated Printing K → Type 0
  HasShown ended report = LearnsFrom ended receivers report.seat × ReportsByAClock start begun.duties report.due report.asked_at (newcomer begun.given.entries (length begun.sources)) ended before report.out was (record_of report.beside)

  shows-none : (ended : Seated) (report : ReporterResult Seated Printing K) → true ≡ (hands_over || is_broken report.out) → hands_over ≡ (is_some report.asked_at && may_go_on sources counted) → HasShown ended report → Shows (reported report)
  shows-none ended report none hands (learns, by_clock) =
      let reports = by_clock.reports in
      let looks = looks_of reports.showings in
      record {
        moments = by_clock.moments;
        showings = reports.showings;
        shown = reports.shown;
        keeps = reports.keeps;
        looked = by_clock.mid;
        later = reports.later;
        asked_at = report.asked_at;
        broken_before = is_broken report.out;
        ended = ended;
        asks = subst (λ due. MayHandOver start begun.duties report.asked_at due report.due by_clock.mid ended (is_broken report.out)) reports.next_is by_clock.hands_over;
        mid = report.seat;
        learns = learns;
        hands_over = hands;
        last = [];
        looks = subst (λ (b : Bool). LastLook start report.seat report.seat b []) none (refl, refl);
        broken = λ _. refl;
        is_broken = refl;
        takes = subst (λ ls. TakesTexts begun.duties.tables.format start ls before report.out) (sym (append-nil looks)) reports.takes;
        records = subst (λ ls. IfRecording (Records ls) was (record_of report.beside)) (sym (append-nil (recorded_by reports.showings))) reports.records;
      }

  shows-last : (ended : Seated) (report last : ReporterResult Seated Printing K) → false ≡ (hands_over || is_broken report.out) → hands_over ≡ (is_some report.asked_at && may_go_on sources counted) → HasShown ended report
      → PrintsLast record_of begun.duties.tables.format start false report last → Shows (reported last)
  shows-last ended report last none hands (learns, by_clock) (printed, prints, fails, due_is, asked_is) =
      let well : is_broken report.out ≡ false = none_broken hands_over (is_broken report.out) none in
      let reports = by_clock.reports in
      let looks = looks_of reports.showings in
      let p = printed_at_most begun.duties.tables.format start looks report.seat last.seat before report.out printed (record_of report.beside) (record_of last.beside) reports.takes well prints in
      let asks = subst (λ (b : Bool). MayHandOver start begun.duties report.asked_at by_clock.due report.due by_clock.mid ended b) well by_clock.hands_over in
      record {
        moments = by_clock.moments;
        showings = reports.showings;
        shown = reports.shown;
        keeps = reports.keeps;
        looked = by_clock.mid;
        later = reports.later;
        asked_at = report.asked_at;
        broken_before = false;
        ended = ended;
        asks = subst (λ due. MayHandOver start begun.duties report.asked_at due last.due by_clock.mid ended false) reports.next_is
            (subst (λ due. MayHandOver start begun.duties report.asked_at by_clock.due due by_clock.mid ended false) (sym due_is) asks);
        mid = report.seat;
        learns = learns;
        hands_over = hands;
        last = p.look ∷ [];
        looks = subst (λ (b : Bool). LastLook start report.seat last.seat b (p.look ∷ [])) (none ∙ ap (λ (b : Bool). hands_over || b) well) (one_look start report.seat last.seat p.look p.looked);
        broken = λ none_is. absurd (let bad : false ≡ true = none ∙ ap (λ (b : Bool). hands_over || b) well ∙ none_is in search rules);
        is_broken = refl;
        takes = takes-failure begun.duties.tables.format start (looks ++ p.look ∷ []) before printed last.out p.takes fails;
        records = last-record (recorded_by reports.showings) p.look was (record_of report.beside) (record_of last.beside) reports.records p.records;
      }

  pub shows : (ended : Seated) (report last : ReporterResult Seated Printing K) (none : Bool) → none ≡ (hands_over || is_broken report.out) → hands_over ≡ (is_some report.asked_at && may_go_on sources counted) → HasShown ended report
      → PrintsLast record_of begun.duties.tables.format start none report last → Shows (reported last)
  shows ended report last true none hands by_clock prints = subst (λ r. Shows (reported r)) (sym prints) (shows-none ended report none hands by_clock)
  shows ended report last false none hands by_clock prints = shows-last ended report last none hands by_clock prints

-- ---- an output that had taken bytes before

-- the same with what its output had taken before
abbrev pub based_result : {K : Type 0} → Option (List ℕ) → ReporterResult Seated Printing K → ReporterResult Seated Printing K
based_result before report = record { seat = report.seat; out = based before report.out; beside = report.beside; due = report.due; asked_at = report.asked_at; written_at = report.written_at }

pub based-clock : (taken : Option (List ℕ)) (start : Start) (duties : Duties) (next : Due) (asked_at : Option ℕ) (old new : Seated) (first before after : Printing) (was is : Option Recording) → first ≡ based taken before
    → ReportsByAClock start duties next asked_at old new before after was is → ReportsByAClock start duties next asked_at old new first (based taken after) was is
based-clock taken start duties next asked_at old new first before after was is same by_clock =
    let reports = by_clock.reports in
    subst (λ (o : Printing). ReportsByAClock start duties next asked_at old new o (based taken after) was is) (sym same)
    (record {
      moments = by_clock.moments;
      due = by_clock.due;
      mid = by_clock.mid;
      reports = record {
        showings = reports.showings;
        shown = reports.shown;
        keeps = reports.keeps;
        later = reports.later;
        next_is = reports.next_is;
        takes = based-takes taken duties.tables.format start (looks_of reports.showings) before after reports.takes;
        records = reports.records;
      };
      hands_over = by_clock.hands_over;
    })

based-prints : (taken : Option (List ℕ)) (format : Format) (start : Start) (old new : Seated) (before after : Printing) (was is : Option Recording) → PrintsAndRecords format start old new before after was is
    → PrintsAndRecords format start old new (based taken before) (based taken after) was is
based-prints taken format start old new before after was is (inl (prints, records)) = inl (record { looks = prints.looks; takes = based-takes taken format start (Some new ∷ []) before after prints.takes }, records)
based-prints taken format start old new before after was is (inr (passes, same)) = inr (record { same_seat = passes.same_seat; same_output = ap (based taken) passes.same_output }, same)

pub based-last : {K : Type 0} (record_of : K → Option Recording) (taken : Option (List ℕ)) (format : Format) (start : Start) (none : Bool) (old new : ReporterResult Seated Printing K) → PrintsLast record_of format start none old new
    → PrintsLast record_of format start none (based_result taken old) (based_result taken new)
based-last record_of taken format start true old new same = ap (based_result taken) same
based-last record_of taken format start false old new (printed, prints, fails, due, asked) = (
  based taken printed,
  based-prints taken format start old.seat new.seat old.out printed (record_of old.beside) (record_of new.beside) prints,
  based-fails taken printed new.out fails,
  due,
  asked,
)

-- ---- the ring by which tables go

printed-ring : (format : Format) (start : Start) (old new : Seated) (before after : Printing) (was is : Option Recording) → PrintsAndRecords format start old new before after was is → after.ring ≡ before.ring
printed-ring format start old new before after was is (inl (prints, records)) = prints.takes.ring
printed-ring format start old new before after was is (inr (passes, same)) = ap (λ (o : Printing). o.ring) passes.same_output

pub last-ring : {K : Type 0} (record_of : K → Option Recording) (format : Format) (start : Start) (none : Bool) (old new : ReporterResult Seated Printing K) → PrintsLast record_of format start none old new → new.out.ring ≡ old.out.ring
last-ring record_of format start true old new same = ap (λ (r : ReporterResult Seated Printing _). r.out.ring) same
last-ring record_of format start false old new (printed, prints, fails, due, asked) =
    same-ring printed new.out fails ∙ printed-ring format start old.seat new.seat old.out printed (record_of old.beside) (record_of new.beside) prints

-- bytes before none are those alone
pub none-after : (before : Option (List ℕ)) → put_after before (Some []) ≡ before
none-after None = refl
none-after (Some bytes) = ap Some (append-nil bytes)

-- the same of a seat that equals the one that it began with
pub reports_from : (start : Start) (duties : Duties) (due : Due) (asked_at : Option ℕ) (old first new : Seated) (before after : Printing) (was is : Option Recording) → old ≡ first
    → ReportsByAClock start duties due asked_at old new before after was is → ReportsByAClock start duties due asked_at first new before after was is
reports_from start duties due asked_at old first new before after was is same by_clock =
    subst (λ (s : Seated). ReportsByAClock start duties due asked_at s new before after was is) same by_clock

-- ---- one station after another

-- a run goes on after a station that has run
pub run_on : (asked : RunPlan) (station : Station) (next : Begun) (on : Streams) (stations : List Station) (end : RunEnd) → RunsStation station → Follows asked station.left station.new next on → RunsFrom asked next on stations end
    → RunsFrom asked station.begun station.old (station ∷ stations) end
run_on asked station next on [] end runs follows lost = (refl, refl, runs, inr (on.err, follows-on asked station next on follows, lost))
  where
    by-how : (asked : RunPlan) (left : Left) (next : Begun) (err_old err_new : Told) → HandsOver left next err_old err_new ⊎ BeginsRound asked left next err_old err_new → GoesOn asked left err_old err_new
    by-how asked left next err_old err_new (inl hands) = inl (hands.goes_on, hands.err)
    by-how asked left next err_old err_new (inr round) = inr (omega (arith, round.rounds_left), (round.over, round.goes_on))

    follows-on : (asked : RunPlan) (station : Station) (next : Begun) (on : Streams) → Follows asked station.left station.new next on → GoesOn asked station.left station.new.err on.err
    follows-on asked station next on follows = by-how asked station.left next station.new.err on.err follows.how
run_on asked station next on (other ∷ stations) end runs follows (begun_is, old_is, other_runs, others) = (
  refl,
  refl,
  runs,
  (
    subst (λ (begun : Begun). Follows asked station.left station.new begun other.old) (sym begun_is) (subst (λ (old : Streams). Follows asked station.left station.new next old) (sym old_is) follows),
    other_runs,
    others,
  ),
)

-- a run ends after a station that has run
pub run_ends : (asked : RunPlan) (station : Station) (end : RunEnd) → RunsStation station → EndsRun asked station.left station.new end → RunsFrom asked station.begun station.old (station ∷ []) end
run_ends asked station end runs ends = (refl, refl, runs, ends)

-- ---- the paths of a round

-- after a station the threads of its paths are those before it, each with its source, and what was counted of it
pub read_on : {I : Type 0} (paths : List (List ℕ)) (threads other : List (PathThread I)) (station : Station) → other ≡ threads → RunsStation station → AreRead paths threads station.begun.sources station.begun.answers → AreRead paths other station.left.sources station.left.answers
read_on paths threads other station same runs read = record {
  named = ap (λ ts. map (λ t. string_bytes t.path.now) ts) same ∙ read.named;
  take = subst (λ ts. AllTakeFrom (map (λ t. t.handle.promise) ts) station.left.sources) (sym same) (pumped-take _ _ _ _ _ _ _ runs.pumped read.take);
  few = let few = read.few in omega (arith, runs.pumped.many_sources, few);
  many = adds_length station.begun.answers station.left.counted station.left.answers runs.sums ∙ read.many ∙ sym runs.pumped.many_sources;
}

-- ---- the end of a run

pub leaves_by : (has_displays : Bool) (ends other : RunEnd → Type 0) (after : Option (Option (List ℕ))) (err_new : Told) (status : ℕ) → (leaves : Leaves has_displays ends after err_new status) → other leaves.end → Leaves has_displays other after err_new status
leaves_by has_displays ends other after err_new status leaves so = record {
  end = leaves.end;
  ends_so = so;
  out = leaves.out;
  err = leaves.err;
  displays_failed = leaves.displays_failed;
  displays = leaves.displays;
  status_is = leaves.status_is;
}

-- a round that is over, once it is printed what was counted, and which paths weren't read to their ends
pub round_over : (asked : RunPlan) (left : Left) (paths : List (List ℕ)) (known : List (Option (List ℕ))) (stopped : Bool) (err_old err_mid err_new : Told) (told status : ℕ)
    → left.hands_over ≡ false → (stopped ≡ true → is_some asked.stop ≡ true) → asked.paths ≡ paths → asked.known ≡ known
    → Tells err_old err_mid (flat_map pump_lines left.answers ++ output_lines left.is_broken)
    → told ≡ max (fold (λ worst answer. max worst (status_of answer)) 0 left.answers) (fault_status left.is_broken)
    → (unfinished : List (List ℕ)) × GaveAllBut stopped paths known left.sources unfinished × Tells err_mid err_new (unfinished_lines told unfinished) × (status ≡ max told (unfinished_status unfinished))
    → (round : EndsRound asked left err_old err_new status) × (round.stopped ≡ stopped)
round_over asked left paths known stopped err_old err_mid err_new told status stays may_stop named known_is counts told_is ended = (
  record {
    stays = stays;
    err_mid = err_mid;
    told = told;
    counts = counts;
    told_is = told_is;
    stopped = stopped;
    may_stop = may_stop;
    unfinished = ended.0;
    whole = rw (named, known_is) ended.1;
    told_too = ended.2;
    status_is = ended.3;
  },
  refl,
)

-- a round that is over without a fault in a run that isn't stopped
pub ends_well : (asked : RunPlan) (left : Left) (err_old err_new : Told) (status : ℕ) → status ≡ 0 → (round : EndsRound asked left err_old err_new status) → round.stopped ≡ false
    → (well : EndsRound asked left err_old err_new 0) × (well.stopped ≡ false)
ends_well asked left err_old err_new zero none round goes_on = (round, goes_on)
ends_well asked left err_old err_new (suc status) none round goes_on = absurd (omega (arith, none))

-- the end after the last round
pub over : (asked : RunPlan) (left : Left) (old : Streams) (err_round err_mid err_new : Told) (of_round told : ℕ) (after : Option (Option (List ℕ))) (status : ℕ)
    → (round : EndsRound asked left old.err err_round of_round) → NoRoundAfter left.rounds_left round.stopped err_round err_mid of_round told
    → ClosesOutput asked.has_displays old.out.taken old.out.has_failed old.recording err_mid err_new told after status → Leaves asked.has_displays (EndsRun asked left old) after err_new status
over asked left old err_round err_mid err_new of_round told after status round no_more closes = record {
  end = record { out = after; out_failed = old.out.has_failed || closes.has_failed; recording = old.recording; err = err_new; status = max told (fault_status (old.out.has_failed || closes.has_failed)) };
  ends_so = inl (record {
    err_round = err_round;
    of_round = of_round;
    round = round;
    err_mid = err_mid;
    told = told;
    no_more = no_more;
    output = closes.output;
    out = closes.out;
    has_failed = closes.has_failed;
    once = closes.once;
    out_failed = refl;
    gives = closes.gives;
    told_too = closes.told;
    recording = refl;
    status_is = refl;
  });
  out = refl;
  err = refl;
  displays_failed = closes.displays_failed;
  displays = closes.displays;
  status_is = closes.status_is;
}

-- the end without an output
pub lost : (has_displays : Bool) (paths : List (List ℕ)) (err_old err_new : Told) (after : Option (Option (List ℕ))) (status : ℕ) → after ≡ None → EndsEarly paths err_old err_new status → Leaves has_displays (IsLost paths err_old) after err_new status
lost has_displays paths err_old err_new after status gone early = record {
  end = record { out = after; out_failed = false; recording = None; err = err_new; status = status };
  ends_so = record { out = gone; early = early };
  out = refl;
  err = refl;
  displays_failed = false;
  displays = none_failed has_displays;
  status_is = omega arith;
}

pub lost_on : (asked : RunPlan) (left : Left) (old : Streams) (err err_new : Told) (after : Option (Option (List ℕ))) (status : ℕ) → GoesOn asked left old.err err → after ≡ None → EndsEarly asked.paths err err_new status
    → Leaves asked.has_displays (EndsRun asked left old) after err_new status
lost_on asked left old err err_new after status goes_on gone early =
    let leaves = lost asked.has_displays asked.paths err err_new after status gone early in
    leaves_by asked.has_displays (IsLost asked.paths err) (EndsRun asked left old) after err_new status leaves (inr (err, goes_on, leaves.ends_so))

-- ---- the start of a run

pub blank_for : (file : Option (List ℕ)) (alarm : Option (List ℕ)) → (blank : Option Recording) × IsBlank file alarm blank
blank_for None alarm = (None, refl)
blank_for (Some file) alarm =
    let blank : Recording = record { taken = None; recorded = 0; has_failed = false; alarm = record { taken = alarm; has_failed = false } } in
    (Some blank, (blank, refl, record { recorded = refl; well = refl; alarm = refl }))

-- a pipe that can't be opened, or for which there is no memory, is why a run can't start
pub cannot_wait : (asked : RunPlan) (pipe : List ℕ) (f : Fault) → asked.stop ≡ Some pipe → IsUnopened (pipe ∷ []) f → CannotStart asked f
cannot_wait asked pipe fault.NoMemory is why = inr (inr (ap is_some is))
cannot_wait asked pipe (fault.CannotOpen path) is (zero, inside, same) = is ∙ ap Some same
cannot_wait asked pipe (fault.CannotOpen path) is (suc k, inside, same) = absurd (omega (arith, inside))
cannot_wait asked pipe fault.Read is why = absurd why
cannot_wait asked pipe fault.Write is why = absurd why
cannot_wait asked pipe fault.OutputStalled is why = absurd why
cannot_wait asked pipe (fault.OutputGoesOn count) is why = absurd why
cannot_wait asked pipe fault.TooManyReads is why = absurd why
cannot_wait asked pipe fault.ThreadNotStarted is why = absurd why
cannot_wait asked pipe (fault.CannotRecord path reason) is why = absurd why
cannot_wait asked pipe (fault.Record reason) is why = absurd why
cannot_wait asked pipe (fault.CannotWrite path reason) is why = absurd why
cannot_wait asked pipe (fault.WritesAgain path) is why = absurd why
cannot_wait asked pipe fault.JournalFull is why = absurd why
cannot_wait asked pipe fault.TableFull is why = absurd why
cannot_wait asked pipe (fault.Unfinished path) is why = absurd why
