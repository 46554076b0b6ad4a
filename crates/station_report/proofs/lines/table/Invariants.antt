use Rattle.std.proofs.Common.{◌++◌, take, length, flat_map}
use Rattle.station_report.specs.Text.{first_line, header, row_text}
use Rattle.streams.proofs.TakenLemmas.{Took}
use Rattle.station_report.proofs.lines.table.Given as goal

-- the lines so far were taken, and nothing failed
abbrev pub invariant-loop-i : goal.invariant-loop-i
invariant-loop-i g l =
    let rows = g.R.Rows.rows l.rows in
    Took (g.S.Sink.state l.fn.out) (g.S.Sink.state l.out) (first_line l.now (length rows) ++ header ++ flat_map (row_text l.now) (take l.i rows))
