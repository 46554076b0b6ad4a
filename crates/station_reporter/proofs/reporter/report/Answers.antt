use Rattle.std.proofs.Common.{refl}
use Rattle.station_reporter.proofs.ReportLemmas.{ticks_of}
use Rattle.station_reporter.proofs.reporter.report.Goals as goal

pub returns-then-not-is_full : goal.returns-then-not-is_full
returns-then-not-is_full g c =
    let reports = c.report_at-reported.ensures.reports in
    rw c.report_at-reported.ensures.asked (record {
      moments = reports.0;
      due = c.report_at-reported.result.0.due;
      mid = c.report_at-reported.result.0.seat;
      reports = reports.2;
      hands_over = (refl, refl);
    })

pub returns : goal.returns
returns g c =
    let reports = c.report_at-reported.ensures.reports in
    let is = c.if-not-is_full.false in
    record {
      moments = reports.0;
      due = c.report_at-reported.result.0.due;
      mid = c.report_at-reported.result.0.seat;
      reports = reports.2;
      hands_over = record {
        full = c.report_at-reported.ensures.full is;
        well = c.report_at-reported.ensures.well is;
        ticks = ticks_of g.L.StationName.start c.report_at-reported.result.0.seat c.tick.new.seat c.now-at.result (λ k. k.name) g.L.StationName.start.history c.tick.result c.tick.ensures.accepted c.tick.ensures.refused;
        next_is = c.after_tick-reported.ensures;
      };
    }
