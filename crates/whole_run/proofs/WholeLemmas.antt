-- All stations of a run, one after another: their history is a merge, and their tables show its beginnings.
use Rattle.std.proofs.Common.{◌≡◌, ◌∙◌, inl, inr, ℕ, ◌+◌, ◌<◌, ◌≤◌, arith, eqb, List, [], ◌∷◌, ◌++◌, All, append_assoc, append-nil, ap, drop, length, refl, subst, sym}
use Rattle.std.proofs.lemmas.List.Elements.{filter-append}
use mathlib.Core.List.{IsPrefix}
use Rattle.station_journal.specs.declared.entry.Entry.{Entry}
use Rattle.station_journal.proofs.Common.{IsLegal, Log, Site, most_entries}
use Rattle.station_history.proofs.Common.{Start}
use Rattle.station_record.proofs.Common.{new_log}
use Rattle.station_record.proofs.RoundLemmas.{first-continues}
use Rattle.station_shared.specs.Seats.{own_entries, seat_of}
use Rattle.station_reporter.proofs.PrefixLemmas.{begins-same, begins-trans}
use Rattle.station_run.proofs.Common.{Begun, RoundStart, RunEnd, RunPlan, Runs, RunsOn, RunsStation, Shows, Station, Streams, no_start}
use Rattle.one_journal.specs.Merge.{Deed, DoesIn, IsMerge, accepted_in, entries_of_seat}
use Rattle.one_journal.proofs.ClosedLemmas.{dropped-whole}
use Rattle.one_journal.proofs.WalkLemmas.{accepted-append}
use Rattle.shown_again.proofs.KeptEndLemmas.{Begins, wide}
use Rattle.shown_again.proofs.LookLemmas.{grows-last, tables-grow}
use Rattle.whole_run.specs.Accounted.{tables_of}
use Rattle.whole_run.specs.OneHistory.{AllShowBeginnings, BeginsWithNothing, ShowsBeginning, accepted_by, deeds_after, did_after, history_of}
use Rattle.whole_run.proofs.HistoryLemmas.{all-legal, next-begins, station-shows, station-stands, whole-log}
use Rattle.whole_run.proofs.LiftLemmas.{accepted-after, lifted}

-- the journal of a station begins with what it goes on from
begun-with : (station : Station) → RunsStation station → IsPrefix station.begun.given.entries station.left.closing.journal
begun-with station runs =
    let grown = tables-grow station runs.shows in
    let reporter = station.left.closing.reporter in
    begins-trans station.begun.given.entries reporter.seen station.left.closing.journal
    (begins-trans station.begun.given.entries _ reporter.seen (grows-last station.begun.given.entries (tables_of station runs.shows) grown.grows) grown.last) runs.closed.closes.seen.0

-- the journal of each station is a merge of what its seats did
abbrev pub AreMerges : List Station → List (ℕ → List Deed) → Type 0
AreMerges [] dids = Unit {0}
AreMerges (station ∷ stations) [] = ⊥
AreMerges (station ∷ stations) (did ∷ dids) = IsMerge station.left.start station.begun.given.entries station.left.closing.journal did × AreMerges stations dids

-- the accepted calls of a seat in all stations
each-all : (before : List Entry) (stations : List Station) (dids : List (ℕ → List Deed)) → AreMerges stations dids → (seat : ℕ) → entries_of_seat seat (history_of stations) ≡ accepted_in (did_after before stations dids seat)
each-all before [] dids merges seat = refl
each-all before (station ∷ stations) [] merges seat = absurd merges
each-all before (station ∷ stations) (did ∷ dids) (merge, merges) seat =
    let deeds = deeds_after before station.left.start (did seat) in
    let later = did_after (before ++ accepted_by station) stations dids seat in
    filter-append (λ (e : Entry). eqb (seat_of e) seat) (accepted_by station) (history_of stations)
    ∙ ap (λ (es : List Entry). es ++ entries_of_seat seat (history_of stations)) (merge.each seat ∙ sym (accepted-after before station.left.start (did seat)))
    ∙ ap (λ (es : List Entry). accepted_in deeds ++ es) (each-all (before ++ accepted_by station) stations dids merges seat)
    ∙ sym (accepted-append deeds later)

module _ (site : Site) (n : ℕ) (wider : most_entries ≤ n) (history : List Entry) (few : length history < n) (asked : RunPlan) (end : RunEnd) where
  -- the stations from one on, after these entries
  pub record Rest (before : List Entry) (station : Station) (stations : List Station) : Type 0 where
    pub runs : RunsStation station
    pub on : RunsOn asked station stations end
    pub begins : Begins n station.begun.given before
    pub site_is : station.begun.given.site ≡ site
    pub parts : before ++ (accepted_by station ++ history_of stations) ≡ history

  within : (before : List Entry) (station : Station) (stations : List Station) → Rest before station stations → IsPrefix (before ++ accepted_by station) history
  within before station stations rest = (history_of stations, append_assoc before (accepted_by station) (history_of stations) ∙ rest.parts)

  -- those after it
  next : (before : List Entry) (station other : Station) (stations : List Station) → Rest before station (other ∷ stations) → Rest (before ++ accepted_by station) other stations
  next before station other stations rest =
      let on = rest.on in
      let kept = next-begins n wider station rest.runs before history rest.begins (within before station (other ∷ stations) rest) few (begun-with station rest.runs) other.begun.given station.new.recording other.old.recording on.0.is_kept in
      record {
        runs = on.1;
        on = on.2;
        begins = kept.0;
        site_is = kept.1 ∙ rest.site_is;
        parts = append_assoc before (accepted_by station) (history_of (other ∷ stations)) ∙ rest.parts;
      }

  tables-here : (before : List Entry) (station : Station) (stations : List Station) → Rest before station stations → (shows : Shows station) → All (ShowsBeginning site station.left.start history before) (tables_of station shows)
  tables-here before station stations rest shows =
      subst (λ (at : Site). All (ShowsBeginning at station.left.start history before) (tables_of station shows)) rest.site_is
      (station-shows n wider station rest.runs before history rest.begins (within before station stations rest) few shows)

  pub tables-all : (before : List Entry) (station : Station) (stations : List Station) → Rest before station stations → AllShowBeginnings site history before (station ∷ stations)
  tables-all before station [] rest = (tables-here before station [] rest, tt)
  tables-all before station (other ∷ stations) rest =
      (tables-here before station (other ∷ stations) rest, tables-all (before ++ accepted_by station) other stations (next before station other stations rest))

  pub legal-all : (before : List Entry) (station : Station) (stations : List Station) → Rest before station stations → IsLegal (new_log (wide site n) history)
  legal-all before station [] rest =
      let here = all-legal n wider station rest.runs before history rest.begins (within before station [] rest) few (begun-with station rest.runs) in
      let whole : before ++ accepted_by station ≡ history = ap (λ (es : List Entry). before ++ es) (sym (append-nil (accepted_by station))) ∙ rest.parts in
      subst (λ (at : Site). IsLegal (new_log (wide at n) history)) rest.site_is (subst (λ (es : List Entry). IsLegal (new_log (wide station.begun.given.site n) es)) whole here)
  legal-all before station (other ∷ stations) rest = legal-all (before ++ accepted_by station) other stations (next before station other stations rest)

  module _ (whole_start : Start) (nothing : BeginsWithNothing site n whole_start) (seat : ℕ) where
    abbrev Does : List Entry → List Entry → List Deed → Type 0
    Does mine seen deeds = DoesIn whole_start history seat mine seen deeds

    one-station : (before : List Entry) (station : Station) (stations : List Station) (did : ℕ → List Deed) (more : List Deed) → Rest before station stations
        → IsMerge station.left.start station.begun.given.entries station.left.closing.journal did
        → Does (entries_of_seat seat (before ++ accepted_by station)) (before ++ accepted_by station) more → Does (entries_of_seat seat before) before (deeds_after before station.left.start (did seat) ++ more)
    one-station before station stations did more rest merge later =
        let start = station.left.start in
        let entries = station.begun.given.entries in
        let deeds = deeds_after before start (did seat) in
        let earlier = entries_of_seat seat before in
        let mine : entries_of_seat seat (before ++ accepted_by station) ≡ earlier ++ accepted_in (did seat) =
        filter-append (λ (e : Entry). eqb (seat_of e) seat) before (accepted_by station) ∙ ap (λ (es : List Entry). earlier ++ es) (merge.each seat) in
        let none : own_entries start entries ≡ [] = ap {B = List Entry} (λ (k : ℕ). drop k entries) rest.runs.goes_on.resumed ∙ dropped-whole entries in
        let stands = station-stands n wider station rest.runs before history rest.begins (within before station stations rest) few whole_start
        (subst (λ (at : Site). BeginsWithNothing at n whole_start) (sym rest.site_is) nothing) in
        let all = lifted whole_start start nothing.resumed before entries station.left.closing.journal history rest.runs.goes_on.resumed (within before station stations rest) stands seat [] entries (did seat) more
        (begins-same entries entries refl) (merge.decided seat) (subst (λ (es : List Entry). Does es (before ++ accepted_by station) more) mine later) in
        subst (λ (es : List Entry). Does es before (deeds ++ more)) (append-nil earlier)
        (subst (λ (es : List Entry). Does (earlier ++ []) es (deeds ++ more)) (ap (λ (es : List Entry). before ++ es) none ∙ append-nil before) all)

    pub does-all : (before : List Entry) (station : Station) (stations : List Station) (dids : List (ℕ → List Deed)) → Rest before station stations → AreMerges (station ∷ stations) dids
        → Does (entries_of_seat seat before) before (did_after before (station ∷ stations) dids seat)
    does-all before station stations [] rest merges = absurd merges
    does-all before station [] (did ∷ dids) rest (merge, merges) = one-station before station [] did [] rest merge (within before station [] rest)
    does-all before station (other ∷ stations) (did ∷ dids) rest (merge, merges) =
        one-station before station (other ∷ stations) did (did_after (before ++ accepted_by station) (other ∷ stations) dids seat) rest merge
        (does-all (before ++ accepted_by station) other stations dids (next before station other stations rest) merges)

-- ---- a run

first-rest : (asked : RunPlan) (end : RunEnd) (n : ℕ) (wider : most_entries ≤ n) (station : Station) (stations : List Station) (few : length (history_of (station ∷ stations)) < n)
    → station.begun.given ≡ no_start asked.site → RunsStation station → RunsOn asked station stations end → Rest asked.site n wider (history_of (station ∷ stations)) few asked end [] station stations
first-rest asked end n wider station stations few given runs on =
    let none : Begins n (no_start asked.site) [] = record { continues = first-continues (wide asked.site n) []; legal = tt } in
    record {
      runs = runs;
      on = on;
      begins = subst (λ (from : RoundStart). Begins n from []) (sym given) none;
      site_is = ap (λ (from : RoundStart). from.site) given;
      parts = refl;
    }

-- the first station begins with nothing
pub first-given : (asked : RunPlan) (old : Streams) (station : Station) (stations : List Station) (end : RunEnd) → Runs asked old (station ∷ stations) end
    → (station.begun.given ≡ no_start asked.site) × RunsStation station × RunsOn asked station stations end
first-given asked old station stations end (inl (none, lost)) = absurd (cc (none))
first-given asked old station stations end (inr (begun, given, rounds, first, (begun_is, old_is, runs, on))) = (ap (λ (b : Begun). b.given) begun_is ∙ given, runs, on)

-- the history of the first station is one that begins with nothing
pub run-begins : (asked : RunPlan) (old : Streams) (station : Station) (stations : List Station) (end : RunEnd) → Runs asked old (station ∷ stations) end → (n : ℕ)
    → BeginsWithNothing asked.site n (record { history = station.left.start.history; limits = record { entries = n; aircraft = 512; site = asked.site }; resumed = 0 })
run-begins asked old station stations end runs n =
    let first = first-given asked old station stations end runs in
    record { base = first.1.goes_on.base ∙ ap (λ (from : RoundStart). from.base) first.0; resumed = refl; limits = refl }

pub run-merge : (asked : RunPlan) (old : Streams) (stations : List Station) (end : RunEnd) → Runs asked old stations end → (dids : List (ℕ → List Deed)) → AreMerges stations dids
    → (n : ℕ) → most_entries ≤ n → length (history_of stations) < n → (start : Start) → BeginsWithNothing asked.site n start → IsMerge start [] (history_of stations) (did_after [] stations dids)
run-merge asked old [] end runs dids merges n wider few start nothing =
    let own : own_entries start [] ≡ [] = ap {B = List Entry} (λ (k : ℕ). drop k []) nothing.resumed in
    record { legal = tt; begins = sym own; each = λ seat. ap (entries_of_seat seat) own; decided = λ seat. begins-same [] [] refl }
run-merge asked old (station ∷ stations) end runs dids merges n wider few start nothing =
    let found = first-given asked old station stations end runs in
    let history = history_of (station ∷ stations) in
    let rest = first-rest asked end n wider station stations few found.0 found.1 found.2 in
    let own : own_entries start history ≡ history = ap {B = List Entry} (λ (k : ℕ). drop k history) nothing.resumed in
    record {
      legal = subst (λ (log : Log). IsLegal log) (sym (whole-log asked.site n start nothing history)) (legal-all asked.site n wider history few asked end [] station stations rest);
      begins = sym own;
      each = λ seat. ap (entries_of_seat seat) own ∙ each-all [] (station ∷ stations) dids merges seat;
      decided = λ seat. does-all asked.site n wider history few asked end start nothing seat [] station stations dids rest merges;
    }

pub run-tables : (asked : RunPlan) (old : Streams) (stations : List Station) (end : RunEnd) → Runs asked old stations end → AllShowBeginnings asked.site (history_of stations) [] stations
run-tables asked old [] end runs = tt
run-tables asked old (station ∷ stations) end runs =
    let found = first-given asked old station stations end runs in
    let history = history_of (station ∷ stations) in
    let n = most_entries + (length history + 1) in
    let rest = first-rest asked end n (omega arith) station stations (omega arith) found.0 found.1 found.2 in
    tables-all asked.site n (omega arith) history (omega arith) asked end [] station stations rest
