use Rattle.station_output.proofs.WritingLemmas.{left-out, written-more}
use Rattle.station_output.proofs.writing.Writing.write.Goals as goal

pub returns-then-self-clause-written : goal.returns-then-self-clause-written
returns-then-self-clause-written g c = λ first texts was.
    rw c.if-self.true (left-out first _ texts c.args.text.now (rw c.if-self.true at was))

pub returns-clause-written : goal.returns-clause-written
returns-clause-written g c = λ first texts was.
    rw c.is_err-self.ensures.value (written-more first (g.S.Sink.state c.args.self.now.out) _ texts c.args.text.now _ (c.flush_after.ensures _ _ c.write_all-written.ensures) (rw c.if-self.false at was))
