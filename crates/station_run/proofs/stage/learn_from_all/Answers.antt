use Rattle.std.proofs.Common.{◌≡◌, ◌<◌, ◌≤◌, ap, arith, get_or, length}
use Rattle.station_run.proofs.SeatLemmas.{learns-all, learns-next}
use Rattle.station_run.proofs.stage.learn_from_all.Goals as goal

pub loop-receiver-preserved : goal.loop-receiver-preserved
loop-receiver-preserved g c =
    let ws = c.args.receivers.now.items in
    let i = c.loop-receiver.receiver-index in
    let w = c.receiver-item.result in
    let inside : i < length ws = omega (arith, ap length c.deref-receiver-items.ensures.value) in
    let at : w ≡ get_or ws i w = cc in
    learns-next (λ r. r.seat) ws i w c.args.seat.now c.loop-receiver.seat c.learn_from.new.self inside at c.loop-receiver.invariant c.learn_from.ensures.told

pub returns : goal.returns
returns g c =
    let ws = c.args.receivers.now.items in
    let i = c.loop-receiver.receiver-index in
    let over : length ws ≤ i = omega (arith, ap length c.deref-receiver-items.ensures.value) in
    learns-all (λ r. r.seat) ws i c.args.seat.now c.loop-receiver.seat over c.loop-receiver.invariant
