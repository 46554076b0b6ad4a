-- All stations of a run as one history.
use Rattle.std.proofs.Common.{◌≡◌, ◌∙◌, ℕ, ◌<◌, ◌≤◌, List, ◌++◌, All, append_assoc, ap, arith, length, length-append, refl, subst, sym}
use mathlib.Core.List.{IsPrefix}
use Rattle.station_journal.specs.declared.entry.Entry.{Entry}
use Rattle.station_journal.specs.declared.limits.Limits.{Limits}
use Rattle.station_journal.proofs.Common.{IsLegal, Log, Site, most_entries, refusal_of}
use Rattle.station_journal.proofs.LegalJournalLemmas.{legal_front}
use Rattle.station_history.proofs.Common.{base_of, Start, log_of}
use Rattle.station_record.proofs.Common.{new_log, IsNext}
use Rattle.station_record.proofs.RoundLemmas.{next-continues}
use Rattle.station_shared.specs.Seats.{own_entries}
use Rattle.station_reporter.proofs.PrefixLemmas.{begins-same, begins-trans}
use Rattle.station_run.proofs.Common.{KeepsRecent, RoundStart, RunsStation, Shows, Station}
use Rattle.one_journal.proofs.WalkLemmas.{longer}
use Rattle.shown_again.proofs.KeptEndLemmas.{Begins, later, left, resumed_log, wide, widened, widened-legal}
use Rattle.shown_again.proofs.LookLemmas.{Legal, all-so, tables-grow}
use Rattle.whole_run.specs.Accounted.{tables_of}
use Rattle.whole_run.specs.OneHistory.{BeginsWithNothing, ShowsBeginning, accepted_by}
use Rattle.whole_run.proofs.BeginningLemmas.{own-after, shows-beginning, verdict-stands, whole-is, whole-legal}
use Rattle.whole_run.proofs.LiftLemmas.{Stands}

-- ---- the whole journal

pub whole-log : (site : Site) (n : ℕ) (start : Start) → BeginsWithNothing site n start → (es : List Entry) → log_of start es ≡ new_log (wide site n) es
whole-log site n start nothing es =
    ap (λ (b : ℕ). record { base = b; limits = start.limits; resumed = start.resumed; entries = es }) nothing.base
    ∙ ap (λ (l : Limits). record { base = 0; limits = l; resumed = start.resumed; entries = es }) nothing.limits
    ∙ ap (λ (r : ℕ). record { base = 0; limits = wide site n; resumed = r; entries = es }) nothing.resumed

front-legal : (start : Start) (seen journal : List Entry) → IsPrefix seen journal → Legal start journal → Legal start seen
front-legal start seen journal p legal = legal_front start.limits (base_of start.history) start.resumed seen p.0 (subst (λ (es : List Entry). Legal start es) (sym p.1) legal)

-- ---- one station of it

module _ (n : ℕ) (wider : most_entries ≤ n) (station : Station) (runs : RunsStation station) (before history : List Entry) (begins : Begins n station.begun.given before) (within : IsPrefix (before ++ accepted_by station) history) (few : length history < n) where
  abbrev start : Start
  start = station.left.start

  abbrev given : RoundStart
  given = station.begun.given

  abbrev journal : List Entry
  journal = station.left.closing.journal

  legal : Legal start journal
  legal = runs.closed.closes.legal

  -- a beginning of the journal is one of the whole
  inside : (seen : List Entry) → IsPrefix given.entries seen → IsPrefix seen journal → IsPrefix (before ++ own_entries start seen) history
  inside seen from to =
      let front : IsPrefix (before ++ own_entries start seen) (before ++ accepted_by station) =
      (to.0, append_assoc before (own_entries start seen) to.0 ∙ ap (λ (es : List Entry). before ++ es) (own-front seen from to)) in
      begins-trans (before ++ own_entries start seen) (before ++ accepted_by station) history front within
    where
      own-front : (seen : List Entry) (from : IsPrefix given.entries seen) (to : IsPrefix seen journal) → own_entries start seen ++ to.0 ≡ own_entries start journal
      own-front seen from to =
          ap (λ (es : List Entry). own_entries start es ++ to.0) (sym from.1) ∙ ap (λ (es : List Entry). es ++ to.0) (own-after given start runs.goes_on from.0)
          ∙ sym (own-after given start runs.goes_on (from.0 ++ to.0)) ∙ ap (own_entries start) (sym (append_assoc given.entries from.0 to.0) ∙ ap (λ (es : List Entry). es ++ to.0) from.1 ∙ to.1)

  small : (seen : List Entry) → IsPrefix given.entries seen → IsPrefix seen journal → length (before ++ own_entries start seen) < n
  small seen from to = omega (arith, few, longer (before ++ own_entries start seen) history (inside seen from to))

  room : (seen : List Entry) → IsPrefix given.entries seen → IsPrefix seen journal → length (before ++ own_entries start seen) ≤ n
  room seen from to = omega (arith, small seen from to)

  pub station-stands : (whole_start : Start) → BeginsWithNothing given.site n whole_start → Stands whole_start start before given.entries journal
  station-stands whole_start nothing = λ at entry from to other.
      ap (λ (log : Log). refusal_of log entry) (whole-log given.site n whole_start nothing (before ++ own_entries start at))
      ∙ verdict-stands n wider given start runs.goes_on before begins at from (front-legal start at journal to legal) (room at from to) entry (small at from to) other

  pub station-shows : (shows : Shows station) → All (ShowsBeginning given.site start history before) (tables_of station shows)
  station-shows shows =
      let grown = tables-grow station shows in
      all-so start given.entries journal (ShowsBeginning given.site start history before)
      (λ seen from to seen_legal. shows-beginning n wider given start runs.goes_on before begins seen from seen_legal (room seen from to) history (inside seen from to))
      given.entries (tables_of station shows) (begins-same given.entries given.entries refl) grown.grows
      (begins-trans _ station.left.closing.reporter.seen journal grown.last runs.closed.closes.seen.0) grown.legal

  module _ (begun_with : IsPrefix given.entries journal) where
    pub all-legal : IsLegal (new_log (wide given.site n) (before ++ accepted_by station))
    all-legal = whole-legal n wider given start runs.goes_on before begins journal begun_with legal (room journal begun_with (begins-same journal journal refl))

    -- the station after it
    pub next-begins : (kept : RoundStart) → (was is : _) → KeepsRecent start journal kept was is → Begins n kept (before ++ accepted_by station) × (kept.site ≡ given.site)
    next-begins kept was is keeps =
        let front = left n wider given start runs.goes_on before begins in
        let same = whole-is n wider given start runs.goes_on before begins journal begun_with in
        let few_now = room journal begun_with (begins-same journal journal refl) in
        let on = later n wider given start runs.goes_on before begins journal begun_with legal (omega (arith, few_now, ap {B = ℕ} (λ (es : List Entry). length es) same, length-append front journal)) in
        let site_is : kept.site ≡ given.site = keeps.site ∙ ap (λ (l : Limits). l.site) runs.goes_on.limits in
        let next : IsNext (widened n wider given start runs.goes_on journal) (resumed_log n kept) = record { limits = ap (λ (site : Site). wide site n) site_is; base = keeps.base; entries = keeps.entries } in
        let begins_next : Begins n kept (front ++ journal) = record {
          continues = next-continues (front ++ journal) (widened n wider given start runs.goes_on journal) (resumed_log n kept) on.kept_end (widened-legal n wider given start runs.goes_on journal legal) next;
          legal = subst (λ (site : Site). IsLegal (new_log (wide site n) (front ++ journal))) (sym site_is) on.same.legal;
        } in
        (subst (Begins n kept) (sym same) begins_next, site_is)
