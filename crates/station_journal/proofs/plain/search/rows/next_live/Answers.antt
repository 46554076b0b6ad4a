use Rattle.std.proofs.Common.{◌<◌, ◌≤◌, subst, ap, ◌∙◌, reverse}
use Rattle.station_journal.specs.Found.{is_live_from, best_after}
use Rattle.station_journal.proofs.FoundLemmas.{next_best, last_best}
use Rattle.station_journal.proofs.plain.search.rows.next_live.Goals as goal

pub loop-place-preserved : goal.loop-place-preserved
loop-place-preserved c =
    let test = is_live_from c.args.from c.args.base (reverse c.args.entries.now) in
    let next = c.best_after-best.ensures.best ∙ ap (best_after test c.loop-place.best) c.at.ensures.index in
    record {
      best = next_best test c.args.entries.now c.loop-place.place c.at.result.now _ _ (subst (λ n. c.loop-place.place < n) c.len-place-end.ensures c.loop-place-test.true) next c.loop-place.invariant.best;
      small = c.best_after-best.ensures.small;
    }

pub returns-clause-first : goal.returns-clause-first
returns-clause-first c = last_best c.args.base c.args.from c.args.entries.now c.loop-place.place _ (subst (λ n. n ≤ c.loop-place.place) c.len-place-end.ensures c.loop-place-test.false) c.loop-place.invariant.best
