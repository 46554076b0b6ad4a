use Rattle.std.specs.Prelude.{◌≡◌, None}
use Rattle.station_reporter.proofs.ReportLemmas.{ReportsTo}
use Rattle.station_reporter.proofs.reporter.report_at.Given as goal

-- the showings so far
abbrev pub invariant-loop : goal.invariant-loop
invariant-loop g l =
    record {
      asked : l.reported.asked_at ≡ None;
      so_far : ReportsTo g.L.StationName.start l.duties.tables l.duties.due l.reported.due (g.M.Moments.given l.fn.moments) (g.M.Moments.given l.moments) l.fn.reporter.seat l.reported.seat l.fn.reporter.out l.reported.out
          l.fn.reporter.beside.record l.reported.beside.record l.reported.written_at;
    }
