use Rattle.std.proofs.Common.{◌≡◌, arith}
use Rattle.station_shared.proofs.worker.run_receivers.Goals as goal

pub returns : goal.returns
returns g c i d h =
    let f = (c.for_each_chunk_mut.ensures.by_index i d h).1 in
    let zero : f.offset ≡ 0 = omega (arith, f.offset_in_chunk, f.argument_is.at_most_size) in
    rw (← f.old_element, ← f.new_element, zero) (f.call d)
