use Rattle.std.proofs.Common.{length, ap, arith, reverse}
use Rattle.station_journal.proofs.FoundLemmas.{live_next, live_next_above, live_from_zero}
use Rattle.station_journal.proofs.plain.search.rows.live_count.Goals as goal

pub loop-address-init : goal.loop-address-init
loop-address-init c = record { counted = omega (arith, ap length (live_from_zero c.args.base (reverse c.args.entries.now))); few = omega arith; low = omega arith }

pub loop-address-smaller : goal.loop-address-smaller
loop-address-smaller c =
    let next = live_next c.loop-address.from c.args.base (reverse c.args.entries.now) c.in-Some.address _ c.next_live.ensures.first c.in-Some.is in
    omega (arith, ap length next)

pub loop-address-preserved : goal.loop-address-preserved
loop-address-preserved c =
    let next = live_next c.loop-address.from c.args.base (reverse c.args.entries.now) c.in-Some.address _ c.next_live.ensures.first c.in-Some.is in
    record { counted = omega (arith, ap length next); few = omega (arith, live_next_above c.loop-address.from c.args.base (reverse c.args.entries.now) c.in-Some.address _ c.next_live.ensures.first c.in-Some.is); low = omega (arith, c.in-Some.ensures.small) }
