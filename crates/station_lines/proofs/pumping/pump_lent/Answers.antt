use Rattle.station_lines.proofs.PumpLemmas.{PumpsAll-ended}
use Rattle.station_lines.proofs.pumping.pump_lent.Goals as goal

pub returns-clause-pumps : goal.returns-clause-pumps
returns-clause-pumps g c =
    let all = c.take_lines-ended.ensures.taken in
    rw c.answer.ensures (PumpsAll-ended g.F.Feed.gives c.requires.new c.take_lines-ended.result (record { lines = all.lines; draws = all.draws; took = all.took.0 }))
