use Rattle.std.proofs.Common.{◌∙◌, ◌++◌, List, ap, sym}
use Rattle.rtrb.specs.Ring.{known_items}
use Rattle.station_output.specs.declared.table.Table.{Table}
use Rattle.station_output.proofs.WritingLemmas.{gives-back, nothing-written}
use Rattle.station_output.proofs.table_queue.TableQueue.close.Goals as goal

pub slots_beside-left-requires : goal.slots_beside-left-requires
slots_beside-left-requires g c =
    let ring = c.join-out.ensures.ring.0 in (
      ring.0 ∙ sym (ap (λ r. r.words) c.requires),
      ring.1 ∙ sym (ap (λ r. r.slots) c.requires),
      ring.2 ∙ sym (ap (λ r. r.names) c.requires),
      ring.3 ∙ sym (ap (λ r. r.heap) c.requires),
    )

pub returns : goal.returns
returns g c =
    let first = (g.S.Sink.state c.args.thread.handle.promise.begun.value.out).taken in
    let begun = c.args.thread.begun in
    let was = c.join-out.ensures.written first (rw (begun.0, begun.1) (nothing-written first)) in
    let beside = c.slots_beside-left.ensures in
    let fifo = ap (λ (l : List Table). l ++ known_items c.slots_beside-left.new.self) (sym beside.looked.1) ∙ beside.fifo ∙ beside.producer.1 in
    rw (c.written.ensures.out, c.written.ensures.failed) (gives-back first _ _ _ _ _ _ was fifo beside.value)
