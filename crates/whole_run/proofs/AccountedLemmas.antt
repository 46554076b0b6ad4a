-- The journal of each station of a run as a merge of what its seats did.
use Rattle.std.proofs.Common.{◌≡◌, ◌∙◌, ◌⊎◌, inl, inr, ℕ, zero, suc, ◌+◌, ◌<◌, ◌≤◌, Bool, true, false, cond, eqb, List, [], ◌∷◌, All, ap, arith, eq-eqb, length, refl, slice_index_or, subst, sym}
use Rattle.std.specs.List.{Contains}
use Rattle.std.proofs.lemmas.Bool.Decides.{eqb_tells}
use Rattle.std.proofs.lemmas.List.Elements.{All-cons, All-nil, Contains-get_or}
use native.Mathlib.Decide.{dec_lt}
use Rattle.station_journal.specs.declared.entry.Entry.{Entry}
use Rattle.station_lines.specs.Calls.{frames_of}
use Rattle.station_shared.specs.Seats.{Seated, new_seat}
use Rattle.station_reporter.proofs.PrefixLemmas.{begins-trans}
use Rattle.shown_again.proofs.LookLemmas.{tables-grow}
use Rattle.station_run.specs.Taken.{Portion}
use Rattle.station_run.proofs.Common.{RunEnd, RunPlan, Runs, RunsOn, RunsStation, Shows, Station, Streams}
use Rattle.one_journal.specs.Merge.{Deed, Did}
use Rattle.one_journal.specs.Receiver.{feeds}
use Rattle.one_journal.proofs.SeatLemmas.{receiver-calls, receiver-did, seats-merge, sees-whole}
use Rattle.one_journal.proofs.StepLemmas.{Stepped, did-steps}
use Rattle.whole_run.specs.Accounted.{CallsWith, IsAccounted, IsOneJournal, TakesPortions, calls_of, tick_times}
use Rattle.whole_run.proofs.DeedLemmas.{TicksAt}
use Rattle.whole_run.proofs.ReporterLemmas.{last-seen, reporter-ticks, reporter-told}

-- ---- a station

module _ (station : Station) (runs : RunsStation station) (shows : Shows station) (portions : ℕ → Portion) (takes : TakesPortions station portions) where
  abbrev n : ℕ
  n = length station.begun.sources

  abbrev entries : List Entry
  entries = station.begun.given.entries

  abbrev reporter : Seated
  reporter = station.left.closing.reporter

  abbrev seats : List Seated
  seats = reporter ∷ station.left.closing.receivers

  as-many : length station.left.closing.receivers ≡ n
  as-many = runs.pumped.many_seats

  ticked : TicksAt station.left.start (new_seat entries true n) (tick_times station shows) reporter
  ticked = reporter-ticks station shows

  -- what the receiver at a place did
  abbrev of-receiver : (place : ℕ) → place < n → List Deed
  of-receiver place inside = let works = (takes place inside).works in feeds place (frames_of works.pumps.lines) works.pumps.answers

  abbrev after-receivers : Bool → List Deed
  after-receivers is_reporter = cond is_reporter ticked.deeds []

  abbrev deeds-at : (k : ℕ) → Dec (k < n) → List Deed
  deeds-at k (yes inside) = of-receiver k inside
  deeds-at k (no outside) = after-receivers (eqb k n)

  abbrev did : ℕ → List Deed
  did k = deeds-at k (dec_lt k n)

  at-reporter : (d : Dec (n < n)) → deeds-at n d ≡ ticked.deeds
  at-reporter (yes inside) = absurd (omega (arith, inside))
  at-reporter (no outside) = ap after-receivers (eq-eqb n n refl)

  at-nobody : (k : ℕ) → n < k → (d : Dec (k < n)) → deeds-at k d ≡ []
  at-nobody k above (yes inside) = absurd (omega (arith, above, inside))
  at-nobody k above (no outside) = ap after-receivers (other (eqb_tells k n))
    where
      other : ((eqb k n ≡ true) × (k ≡ n)) ⊎ ((eqb k n ≡ false) × (¬ (k ≡ n))) → eqb k n ≡ false
      other (inl same) = absurd (omega (arith, same.1, above))
      other (inr apart) = apart.0

  -- each seat did so, and ended as one of the closing
  abbrev Ends : ℕ → List Deed → Type 0
  Ends k deeds = (end : Seated) × Contains seats end × ((can_look : Bool) × Did station.left.start (new_seat entries can_look k) deeds end)

  reporter-ends : Ends n ticked.deeds
  reporter-ends = (reporter, (zero, omega arith, refl), (true, ticked.did))

  each-ends : (k : ℕ) → k < n + 1 → (d : Dec (k < n)) → Ends k (deeds-at k d)
  each-ends k below (yes inside) =
      let it = takes k inside in
      let end = slice_index_or station.left.closing.receivers k it.seat in
      let among = Contains-get_or station.left.closing.receivers k it.seat (omega (arith, inside, as-many)) in
      let within = among.1 in
      (end, (suc among.0, omega (arith, within), among.2), (false, (receiver-did station.left.start (new_seat entries false k) end _ _ _ _ it.works).1))
  each-ends k below (no outside) =
      let same : k ≡ n = omega (arith, below, outside) in
      subst (λ (m : ℕ). Ends m (after-receivers (eqb m n))) (sym same) (subst (λ (b : Bool). Ends n (after-receivers b)) (sym (eq-eqb n n refl)) reporter-ends)

  each-did : (k : ℕ) → k < length station.left.closing.receivers + 1 → Ends k (did k)
  each-did k below = each-ends k (omega (arith, below, as-many)) (dec_lt k n)

  each-stepped : (k : ℕ) → k < length station.left.closing.receivers + 1 → (end : Seated) × Contains seats end × ((can_look : Bool) × Stepped station.left.start (new_seat entries can_look k) (did k) end)
  each-stepped k below = let it = each-did k below in (it.0, it.1, (it.2.0, did-steps station.left.start (new_seat entries it.2.0 k) it.0 (did k) it.2.1))

  nobody-else : (k : ℕ) → length station.left.closing.receivers + 1 ≤ k → did k ≡ []
  nobody-else k above = at-nobody k (omega (arith, above, as-many)) (dec_lt k n)

  whole-seen : reporter.seen ≡ station.left.closing.journal
  whole-seen =
      sees-whole station.left.start entries station.left.closing.journal (length station.left.closing.receivers + 1) seats did runs.goes_on.resumed (omega arith) runs.closed.closes each-stepped nobody-else
      reporter.seen runs.closed.closes.seen.0 (reporter-told station shows)

  calls-with : (place : ℕ) → place < n → (d : Dec (place < n)) → CallsWith station place (portions place) (deeds-at place d)
  calls-with place below (yes inside) =
      let it = takes place inside in
      record {
        source = it.source;
        answer = it.answer;
        calls = receiver-calls station.left.start (new_seat entries false place) (slice_index_or station.left.closing.receivers place it.seat) _ _ _ _ it.works;
        lines_are = sym it.lines_are;
      }
  calls-with place below (no outside) = absurd (outside below)

  journal-of : IsOneJournal station shows portions did
  journal-of =
      let grown = tables-grow station shows in
      let last = last-seen station.left.start shows.mid reporter _ shows.last shows.looks in
      record {
        merge = seats-merge station.left.start entries station.left.closing.journal (length station.left.closing.receivers + 1) seats did runs.goes_on.resumed (omega arith) runs.closed.closes each-stepped nobody-else;
        receivers = λ place below. calls-with place below (dec_lt place n);
        reporter = ap calls_of (at-reporter (dec_lt n n)) ∙ ticked.calls;
        nobody_else = λ k above. at-nobody k above (dec_lt k n);
        grow = grown.grows;
        begin = begins-trans _ reporter.seen station.left.closing.journal grown.last runs.closed.closes.seen.0;
        last = λ k d inside. last k d inside ∙ whole-seen;
      }

  pub one-journal : (deeds : ℕ → List Deed) × IsOneJournal station shows portions deeds
  one-journal = (did, journal-of)

pub accounted : (station : Station) → RunsStation station → IsAccounted station
accounted station runs = one-journal station runs

-- ---- a run

stations-accounted : (asked : RunPlan) (station : Station) (stations : List Station) (end : RunEnd) → RunsStation station → RunsOn asked station stations end → All IsAccounted (station ∷ stations)
stations-accounted asked station [] end runs on = All-cons IsAccounted station [] (accounted station runs) (All-nil IsAccounted)
stations-accounted asked station (next ∷ stations) end runs (follows, next_runs, on) = All-cons IsAccounted station (next ∷ stations) (accounted station runs) (stations-accounted asked next stations end next_runs on)

pub run-accounted : (asked : RunPlan) (old : Streams) (stations : List Station) (end : RunEnd) → Runs asked old stations end → All IsAccounted stations
run-accounted asked old [] end runs = All-nil IsAccounted
run-accounted asked old (station ∷ stations) end (inl (none, lost)) = absurd (cc (none))
run-accounted asked old (station ∷ stations) end (inr (begun, given, rounds, first, (begun_is, old_is, runs, on))) = stations-accounted asked station stations end runs on
