use Rattle.std.proofs.Common.{length, take, drop, ap, ◌∙◌, arith, nat_eq, length-take-le, take_at}
use Rattle.std.specs.Io.Buffered.{reader_buffer, reader_capacity, reader_inner}
use Rattle.streams.proofs.BufferLemmas.{held_first}
use Rattle.streams.proofs.from_read.take_held.Goals as goal

pub returns-clause-bytes : goal.returns-clause-bytes
returns-clause-bytes g c =
    let reader = c.args.reader.now in
    let room = c.args.room.now in
    let n = c.min-count.result in
    let copied = c.copy_from_slice.new.self in
    let many = c.copy_from_slice.ensures.len ∙ length-take-le n room (omega (arith, c.min-count.ensures)) in
    held_first (nat_eq (reader_capacity reader) 0) (reader_buffer reader) (g.R.Read.remaining (reader_inner reader)) _ n _
    (omega (arith, c.min-count.ensures, ap length c.buffer-held.ensures))
    (take_at copied (drop n room) n many ∙ c.copy_from_slice.ensures.after ∙ ap (take n) c.buffer-held.ensures)
    c.consume.ensures.bytes
