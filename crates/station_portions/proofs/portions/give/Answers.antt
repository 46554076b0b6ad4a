use Rattle.std.proofs.Common.{drop, ◌∙◌, arith, length-take-le}
use Rattle.station_portions.proofs.GivingLemmas.{give_split}
use Rattle.station_portions.proofs.portions.give.Goals as goal

pub returns-clause-given : goal.returns-clause-given
returns-clause-given c =
    let batch = c.in-Some.batch in
    let at = c.args.at.now in
    let n = c.min-count.result in
    let rest = drop n c.args.buffer.now in
    rw c.in-Some.is
    (give_split batch.buffer.bytes.items batch.count at n c.copy_from_slice.new.self rest
    (c.copy_from_slice.ensures.len ∙ length-take-le n c.args.buffer.now (omega (arith, c.min-count.ensures)))
    (omega (arith, c.min-count.ensures, c.if-from-batch.false))
    (grind (arith, c.copy_from_slice.ensures.after, c.deref.ensures.value)))
