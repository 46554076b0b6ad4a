use Rattle.std.proofs.Common.{◌++◌, take, zip}
use Rattle.station_report.specs.Json.{head, object, with_commas}
use Rattle.streams.proofs.TakenLemmas.{Took}
use Rattle.station_report.proofs.json.table_json.Given as goal

-- the aircraft so far were taken, and nothing failed
abbrev pub invariant-loop-i : goal.invariant-loop-i
invariant-loop-i g l =
    let items = zip (g.R.Rows.rows l.rows) (g.R.PlacedRows.moments l.rows) in
    Took (g.S.Sink.state l.fn.out) (g.S.Sink.state l.out) (head l.origin l.now l.entries ++ with_commas (object l.now) (take l.i items))
