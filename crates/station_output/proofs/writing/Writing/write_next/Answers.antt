use Rattle.station_output.proofs.WritingLemmas.{writes-next, writes-nothing}
use Rattle.station_output.proofs.writing.Writing.write_next.Goals as goal

pub returns-in-Ok : goal.returns-in-Ok
returns-in-Ok g c = writes-next _ _ _ _ _ _ _ c.in-Ok.table _ c.in-Ok.ensures.ring c.in-Ok.ensures.ok.0 c.write.ensures.tables c.as_slice.ensures.value c.write.ensures.written

pub returns-in-Err : goal.returns-in-Err
returns-in-Err g c = writes-nothing _ _ _ _ c.in-Err.ensures.ring c.in-Err.ensures.empty.0
