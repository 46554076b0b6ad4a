use Rattle.std.proofs.Common.{ap, ◌∙◌, arith}
use Rattle.std.specs.Io.Buffered.{reader_buffer, reader_capacity, reader_inner, reader_remaining, writer_buffer, writer_contents, writer_inner}
use Rattle.station_run.specs.Output.{buffered_of}
use Rattle.station_main.proofs.ReplayLemmas.{all_left, appended_nil, ends_replay}
use Rattle.station_main.proofs.replay_job.replay_input.Goals as goal

pub returns-clause-ended : goal.returns-clause-ended
returns-clause-ended g c =
    let remaining = g.I.Read.remaining in
    let contents = g.O.Write.contents in
    let reader = c.in-Ok-Ok.input in
    let writer = c.in-Ok-Ok.output in
    let read = c.in-Ok-Ok.ensures in
    let write = c.in-Ok-Ok.ensures' in
    let whole = ap (λ r. reader_remaining remaining r) c.new-4.ensures.inner ∙ all_left (reader_capacity reader) (reader_buffer reader) (remaining (reader_inner reader)) read.capacity read.empty ∙ ap remaining read.inner in
    let start = ap (λ w. writer_contents contents w) c.new-to.ensures.inner ∙ appended_nil (contents (writer_inner writer)) (writer_buffer writer) write.empty ∙ ap contents write.inner in
    ends_replay c.args.options.format _ c.in-Ok.desk.log c.replay_forgetting-answer.new.desk.log _ _ _ _ (buffered_of contents c.replay_forgetting-answer.new.out) _ _ _ c.replay_forgetting-answer.result c.take_out-out.result.has_failed _ _ _ _ _
    (omega arith) (rw c.limits.ensures at c.in-Ok.ensures) whole start c.new-to.ensures.failures c.replay_forgetting-answer.ensures (rw c.into_inner.ensures at c.take_out-out.ensures) c.tell_replay_end.ensures.told c.tell_replay_end.ensures.value
