use Rattle.std.proofs.Common.{◌<◌, subst, ap, ◌∙◌}
use Rattle.station_journal.specs.Looked.{looked_next}
use Rattle.station_journal.proofs.RepeatLemmas.{looked_more}
use Rattle.station_journal.proofs.plain.repeats.is_repeated.Goals as goal

pub loop-place-preserved : goal.loop-place-preserved
loop-place-preserved c =
    let next = c.looked_next-looked.ensures ∙ ap (looked_next c.args.frame.now c.loop-place.looked) c.at.ensures.index in
    looked_more c.args.frame.now c.args.entries.now c.loop-place.place c.at.result.now _ _ (subst (λ n. c.loop-place.place < n) c.len-place-end.ensures c.loop-place-test.true) next c.loop-place.invariant
