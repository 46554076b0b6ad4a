-- A station after all entries before it: what a beginning of its journal says is what one of the whole history says.
use Rattle.std.proofs.Common.{◌≡◌, ◌∙◌, ℕ, ◌<◌, ◌≤◌, nat_le, false, List, ◌++◌, append_assoc, ap, arith, drop, length, length-append, reverse, refl, subst, sym}
use Rattle.std.proofs.lemmas.Bool.Decides.{nat_tests}
use Rattle.std.proofs.lemmas.List.{length-reverse}
use mathlib.Core.List.{IsPrefix}
use Rattle.station_journal.specs.declared.entry.Entry.{Entry}
use Rattle.station_journal.specs.declared.limits.Limits.{Limits}
use Rattle.station_journal.proofs.Common.{IsLegal, IsOther, Site, clock, is_full, most_entries, placed_table, refusal, refusal_of, table}
use Rattle.station_report.specs.Format.{table_text}
use Rattle.station_report.specs.declared.formats.Format.{Format}
use Rattle.station_history.proofs.Common.{base_of, Start, log_of}
use Rattle.station_record.proofs.Common.{new_log, Continues}
use Rattle.station_record.proofs.RoundLemmas.{same-clock, same-table}
use Rattle.station_shared.specs.Seats.{own_entries}
use Rattle.station_run.proofs.Common.{GoesOnFrom, RoundStart}
use Rattle.one_journal.proofs.ClosedLemmas.{dropped-front}
use Rattle.shown_again.proofs.KeptEndLemmas.{Begins, Later, later, left, wide, widened}
use Rattle.shown_again.proofs.LookLemmas.{Legal}
use Rattle.whole_run.specs.OneHistory.{ShowsBeginning}
use Rattle.whole_run.proofs.StandLemmas.{same-placed, same-verdict, with-room}

-- the entries that a station adds to those that it began with
pub own-after : (given : RoundStart) (start : Start) → GoesOnFrom given start → (more : List Entry) → own_entries start (given.entries ++ more) ≡ more
own-after given start goes_on more = ap {B = List Entry} (λ (k : ℕ). drop k (given.entries ++ more)) goes_on.resumed ∙ dropped-front given.entries more

module _ (n : ℕ) (wider : most_entries ≤ n) (given : RoundStart) (start : Start) (goes_on : GoesOnFrom given start) (before : List Entry) (begins : Begins n given before) where
  -- all entries up to one of the journal, in two ways
  pub whole-is : (seen : List Entry) → IsPrefix given.entries seen → before ++ own_entries start seen ≡ left n wider given start goes_on before begins ++ seen
  whole-is seen from =
      let front = left n wider given start goes_on before begins in
      ap (λ (es : List Entry). before ++ own_entries start es) (sym from.1) ∙ ap (λ (es : List Entry). before ++ es) (own-after given start goes_on from.0)
      ∙ ap (λ (es : List Entry). es ++ from.0) begins.continues.parts ∙ append_assoc front given.entries from.0 ∙ ap (λ (es : List Entry). front ++ es) from.1

  module _ (seen : List Entry) (from : IsPrefix given.entries seen) (legal : Legal start seen) (few : length (before ++ own_entries start seen) ≤ n) where
    abbrev whole : List Entry
    whole = before ++ own_entries start seen

    it : Later n wider given start goes_on before begins seen
    it =
        let front = left n wider given start goes_on before begins in
        later n wider given start goes_on before begins seen from legal (omega (arith, few, ap {B = ℕ} (λ (es : List Entry). length es) (whole-is seen from), length-append front seen))

    continues : Continues whole (widened n wider given start goes_on seen)
    continues = subst (λ (es : List Entry). Continues es (widened n wider given start goes_on seen)) (sym (whole-is seen from)) it.kept_end

    pub whole-legal : IsLegal (new_log (wide given.site n) whole)
    whole-legal = subst (λ (es : List Entry). IsLegal (new_log (wide given.site n) es)) (sym (whole-is seen from)) it.same.legal

    site-is : start.limits.site ≡ given.site
    site-is = ap (λ (l : Limits). l.site) goes_on.limits

    pub shows-beginning : (history : List Entry) → IsPrefix whole history → ShowsBeginning given.site start history before seen
    shows-beginning history to = record {
      shown = whole;
      parts = refl;
      begins = to;
      text = λ (format : Format).
          ap (λ (site : Site). table_text format (table site (base_of start.history) (reverse seen)) (placed_table site (base_of start.history) (reverse seen)) (clock (base_of start.history) (reverse seen)) (length seen)) site-is
          ∙ ap (λ rows. table_text format rows (placed_table given.site (base_of start.history) (reverse seen)) (clock (base_of start.history) (reverse seen)) (length seen))
          (sym (same-table whole (widened n wider given start goes_on seen) continues whole-legal))
          ∙ ap (λ moments. table_text format (table given.site 0 (reverse whole)) moments (clock (base_of start.history) (reverse seen)) (length seen))
          (sym (same-placed whole (widened n wider given start goes_on seen) continues whole-legal))
          ∙ ap (λ (now : ℕ). table_text format (table given.site 0 (reverse whole)) (placed_table given.site 0 (reverse whole)) now (length seen))
          (sym (same-clock whole (widened n wider given start goes_on seen) continues whole-legal));
    }

    -- a call whose answer isn't that the station's journal is full
    pub verdict-stands : (entry : Entry) → length whole < n → IsOther (refusal_of (log_of start seen) entry) → refusal_of (new_log (wide given.site n) whole) entry ≡ refusal_of (log_of start seen) entry
    verdict-stands entry room other =
        let past = reverse seen in
        let base = base_of start.history in
        let not_full : nat_le n (length (reverse whole)) ≡ false = has-room n (length (reverse whole)) (omega (arith, room, length-reverse whole)) in
        ap (λ (full : _). refusal full 512 0 (reverse whole) entry) not_full
        ∙ same-verdict whole (widened n wider given start goes_on seen) continues whole-legal 512 entry
        ∙ ap (λ (m : ℕ). refusal false m base past entry) (sym (ap (λ (l : Limits). l.aircraft) goes_on.limits))
        ∙ sym (with-room (is_full start.limits past) start.limits.aircraft base past entry other)
      where
        has-room : (limit k : ℕ) → k < limit → nat_le limit k ≡ false
        has-room limit k h = grind (arith, nat_tests)
