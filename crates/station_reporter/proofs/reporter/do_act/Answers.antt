use Rattle.std.proofs.Common.{refl}
use Rattle.station_reporter.proofs.ReportLemmas.{ticks_of}
use Rattle.station_reporter.proofs.reporter.do_act.Goals as goal

pub returns-in-Print : goal.returns-in-Print
returns-in-Print g c =
    let ticks = ticks_of g.L.StationName.start c.args.reported.seat c.tick.new.seat c.in-Print.at (λ k. k.name) g.L.StationName.start.history c.tick.result c.tick.ensures.accepted c.tick.ensures.refused in
    let shows = rw c.date.ensures at c.show.ensures in
    rw c.in-Print.is (c.tick.new.seat, ticks, shows, refl, refl, refl)
