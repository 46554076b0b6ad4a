use Rattle.std.proofs.Common.{◌+◌, drop, [], ◌++◌, sym, ap, ◌∙◌, length, take, append_assoc, append-nil, flat_map}
use Rattle.station_report.specs.Text.{IsPrintableRow, first_line, header, row_text}
use Rattle.station_report.proofs.RowLemmas.{one_more, and_the_rest, All_at}
use Rattle.streams.proofs.TakenLemmas.{Took-nil, Took-then, TakesAll-fails}
use Rattle.station_report.proofs.lines.table.Goals as goal

pub returns-in_err-write_all : goal.returns-in_err-write_all
returns-in_err-write_all g c =
    let rows = g.R.Rows.rows c.args.rows.now in
    let lines = flat_map (row_text c.args.now) rows in
    let first = c.as_slice.ensures.value ∙ c.count_line.ensures ∙ ap (first_line c.args.now) c.len.ensures in
    TakesAll-fails _ _ _ [] _ _ (header ++ lines) _ _ _ (Took-nil _) c.in_err-write_all.ensures
    (append_assoc (first_line c.args.now (length rows)) header lines ∙ ap (λ p. p ++ (header ++ lines)) (sym first)) c.from_residual.ensures.1

pub returns-in_err-write_all-2 : goal.returns-in_err-write_all-2
unfolding header
returns-in_err-write_all-2 g c =
    let lines = flat_map (row_text c.args.now) (g.R.Rows.rows c.args.rows.now) in
    let first = c.as_slice.ensures.value ∙ c.count_line.ensures ∙ ap (first_line c.args.now) c.len.ensures in
    let one = Took-then _ _ _ [] _ (Took-nil _) c.in_ok-write_all.ensures in
    TakesAll-fails _ _ _ _ _ _ lines _ _ _ one c.in_err-write_all-2.ensures
    (ap (λ p. (p ++ header) ++ lines) (sym first)) c.from_residual-in_err-write_all-2.ensures.1

pub loop-i-init : goal.loop-i-init
unfolding header
loop-i-init g c =
    let first = c.as_slice.ensures.value ∙ c.count_line.ensures ∙ ap (first_line c.args.now) c.len.ensures in
    let one = Took-then _ _ _ [] _ (Took-nil _) c.in_ok-write_all.ensures in
    rw (← first, append-nil) (Took-then _ _ _ _ _ one c.in_ok-write_all-2.ensures)

pub row_line-requires : goal.row_line-requires
row_line-requires g c = All_at (IsPrintableRow c.args.now) _ c.loop-i.i c.row.result c.requires.rows c.row.ensures

pub returns-in_err-write_all-3 : goal.returns-in_err-write_all-3
returns-in_err-write_all-3 g c =
    let now = c.args.now in
    let rows = g.R.Rows.rows c.args.rows.now in
    let piece = c.as_slice-in-loop-i.ensures.value ∙ c.row_line.ensures in
    TakesAll-fails _ _ _ _ _ _ _ _ _ _ c.loop-i.invariant c.in_err-write_all-3.ensures
    (and_the_rest (row_text now) (first_line now (length rows) ++ header) rows c.loop-i.i c.row.result c.row.ensures ∙ ap (λ p. ((first_line now (length rows) ++ header ++ flat_map (row_text now) (take c.loop-i.i rows)) ++ p) ++ flat_map (row_text now) (drop (c.loop-i.i + 1) rows)) (sym piece)) c.from_residual-in_err-write_all-3.ensures.1

pub loop-i-preserved : goal.loop-i-preserved
loop-i-preserved g c =
    let now = c.args.now in
    let rows = g.R.Rows.rows c.args.rows.now in
    let piece = c.as_slice-in-loop-i.ensures.value ∙ c.row_line.ensures in
    let more = Took-then _ _ _ _ _ c.loop-i.invariant c.in_ok-write_all-3.ensures in
    rw (← one_more (row_text now) (first_line now (length rows) ++ header) rows c.loop-i.i c.row.result c.row.ensures, ← piece) more
