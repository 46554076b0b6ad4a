use Rattle.std.proofs.Common.{◌≡◌, ap, sym, ◌∙◌, arith, reverse, slice_get}
use Rattle.station_journal.proofs.Common.{live_addresses, first}
use Rattle.station_journal.proofs.FoundLemmas.{live_next, live_from_zero}
use Rattle.station_journal.proofs.RowLemmas.{first_of_rest, nothing_past, rest_next}
use Rattle.station_journal.proofs.plain.search.rows.nth_live.Goals as goal

pub loop-place-init : goal.loop-place-init
loop-place-init c = record { passed = live_from_zero c.args.base (reverse c.args.entries.now); low = omega arith }

pub loop-place-preserved : goal.loop-place-preserved
loop-place-preserved c =
    let past = reverse c.args.entries.now in
    let a = c.in_ok-from.field-0 in
    let next = live_next c.loop-place.from c.args.base past a _ c.next_live.ensures.first c.in_ok-from.was in
    record {
      passed = sym (rest_next (live_addresses c.args.base past) c.loop-place._place a _ (sym c.loop-place.invariant.passed ∙ next));
      low = omega (arith, c.in_ok-from.ensures.small);
    }

pub returns-in_err-from : goal.returns-in_err-from
returns-in_err-from c =
    let past = reverse c.args.entries.now in
    let none = ap first (sym c.loop-place.invariant.passed) ∙ sym c.next_live.ensures.first ∙ c.in_err-from.was in
    c.from_residual.ensures ∙ sym (nothing_past (live_addresses c.args.base past) c.loop-place._place c.args.i none (omega arith))

pub returns : goal.returns
returns c =
    let past = reverse c.args.entries.now in
    let last : c.loop-place._place ≡ c.args.i = omega arith in
    c.next_live-2.ensures.first ∙ ap first c.loop-place.invariant.passed ∙ first_of_rest (live_addresses c.args.base past) c.loop-place._place ∙ ap (slice_get (live_addresses c.args.base past)) last
