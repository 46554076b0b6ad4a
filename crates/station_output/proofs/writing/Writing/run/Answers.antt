use Rattle.station_output.proofs.WritingLemmas.{writes-then}
use Rattle.station_output.proofs.writing.Writing.run.Goals as goal

pub loop-preserved-in-Some-write_next : goal.loop-preserved-in-Some-write_next
loop-preserved-in-Some-write_next g c = writes-then _ _ _ _ _ _ _ _ _ (writes-then _ _ _ _ _ _ _ _ _ c.loop.invariant c.is_over-is_over.ensures) c.write_next.ensures

pub returns-in-None-write_next : goal.returns-in-None-write_next
returns-in-None-write_next g c = writes-then _ _ _ _ _ _ _ _ _ (writes-then _ _ _ _ _ _ _ _ _ c.loop.invariant c.is_over-is_over.ensures) c.write_next.ensures

pub loop-preserved : goal.loop-preserved
loop-preserved g c = writes-then _ _ _ _ _ _ _ _ _ (writes-then _ _ _ _ _ _ _ _ _ c.loop.invariant c.is_over-is_over.ensures) c.write_next.ensures
