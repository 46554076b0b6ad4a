use Rattle.std.proofs.Common.{arith}
use Rattle.command_line.proofs.PlaceLemmas.{ten_to}
use Rattle.command_line.proofs.site.number.Goals as goal

pub returns-clause-most : goal.returns-clause-most
returns-clause-most c =
    let most = ten_to c.loop-digit.digit-index (omega (arith, c.loop-digit.auto.digit-index-end, c.as_bytes-digit-items.ensures.len, c.if-text-most.false, c.requires)) in
    omega (arith, c.loop-digit.invariant.size, most)
