use Rattle.std.proofs.Common.{length, map, ap, arith, reverse}
use Rattle.station_journal.specs.Table.{row}
use Rattle.station_journal.proofs.FoundLemmas.{live_next, live_from_zero, rows_next}
use Rattle.station_journal.proofs.plain.search.rows.all_rows.Goals as goal

pub loop-address-init : goal.loop-address-init
loop-address-init c = record { listed = rw c.new-rows.ensures.items (ap (map (row c.args.site c.args.base (reverse c.args.entries.now))) (live_from_zero c.args.base (reverse c.args.entries.now))); low = omega arith }

pub loop-address-smaller : goal.loop-address-smaller
loop-address-smaller c =
    let next = live_next c.loop-address.from c.args.base (reverse c.args.entries.now) c.in-Some.address _ c.next_live.ensures.first c.in-Some.is in
    omega (arith, ap length next)

pub loop-address-preserved : goal.loop-address-preserved
loop-address-preserved c =
    let next = live_next c.loop-address.from c.args.base (reverse c.args.entries.now) c.in-Some.address _ c.next_live.ensures.first c.in-Some.is in
    record { listed = rw c.in_ok-append.ensures (rows_next (row c.args.site c.args.base (reverse c.args.entries.now)) c.loop-address.rows.items c.row.result c.in-Some.address _ _ _ c.loop-address.invariant.listed next c.row.ensures); low = omega (arith, c.in-Some.ensures.small) }
