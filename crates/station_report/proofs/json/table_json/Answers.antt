use Rattle.std.proofs.Common.{◌++◌, [], codes, sym, ap, subst, ◌∙◌, take, append_assoc, append-nil, arith, zip}
use Rattle.std.specs.Io.KnownBytes.{Appends}
use Rattle.station_report.specs.Text.{IsPrintableRow}
use Rattle.station_report.specs.Json.{head, object, with_commas}
use Rattle.station_report.proofs.CommaLemmas.{text_at, after, one_text_more, texts_and_the_rest, zip_at, all_taken}
use Rattle.station_report.proofs.RowLemmas.{All_at}
use Rattle.streams.proofs.TakenLemmas.{Took, Took-nil, Took-then, TakesAll-fails}
use Rattle.station_report.proofs.json.table_json.Goals as goal

pub returns-in_err-write_all : goal.returns-in_err-write_all
returns-in_err-write_all g c =
    let front = head c.args.origin c.args.now c.args.entries in
    let objects = with_commas (object c.args.now) (zip (g.R.Rows.rows c.args.rows.now) (g.R.PlacedRows.moments c.args.rows.now)) in
    let first = c.as_slice.ensures.value ∙ c.head.ensures in
    TakesAll-fails _ _ _ [] _ _ (objects ++ codes "]}\n") _ _ _ (Took-nil _) c.in_err-write_all.ensures
    (append_assoc front objects (codes "]}\n") ∙ ap (λ p. p ++ (objects ++ codes "]}\n")) (sym first)) c.from_residual.ensures.1

pub item-text-requires : goal.item-text-requires
item-text-requires g c = All_at (IsPrintableRow c.args.now) _ c.loop-i.i c.row.result c.requires.rows c.row.ensures

pub returns-in_err-write_all-2 : goal.returns-in_err-write_all-2
returns-in_err-write_all-2 g c =
    let front = head c.args.origin c.args.now c.args.entries in
    let f = object c.args.now in
    let i = c.loop-i.i in
    let rows = g.R.Rows.rows c.args.rows.now in
    let moments = g.R.PlacedRows.moments c.args.rows.now in
    let at = zip_at rows moments i c.row.result c.placed.result c.row.ensures c.placed.ensures in
    let piece = c.as_slice-in-loop-i.ensures.value ∙ c.item-text.ensures in
    TakesAll-fails _ _ _ _ _ _ _ _ _ _ c.loop-i.invariant c.in_err-write_all-2.ensures
    (texts_and_the_rest f front (codes "]}\n") (zip rows moments) i (c.row.result, c.placed.result) at
    ∙ ap (λ p. ((front ++ with_commas f (take i (zip rows moments))) ++ p) ++ after f (zip rows moments) i (codes "]}\n")) (sym piece))
    c.from_residual-in_err-write_all-2.ensures.1

pub loop-i-preserved : goal.loop-i-preserved
loop-i-preserved g c =
    let front = head c.args.origin c.args.now c.args.entries in
    let f = object c.args.now in
    let i = c.loop-i.i in
    let rows = g.R.Rows.rows c.args.rows.now in
    let moments = g.R.PlacedRows.moments c.args.rows.now in
    let items = zip rows moments in
    let at = zip_at rows moments i c.row.result c.placed.result c.row.ensures c.placed.ensures in
    let piece = c.as_slice-in-loop-i.ensures.value ∙ c.item-text.ensures in
    let more = Took-then _ _ _ _ _ c.loop-i.invariant c.in_ok-write_all-2.ensures in
    subst (Took _ _) (ap (λ p. (front ++ with_commas f (take i items)) ++ p) piece
    ∙ append_assoc front (with_commas f (take i items)) (text_at f i (c.row.result, c.placed.result))
    ∙ ap (λ l. front ++ l) (one_text_more f items i (c.row.result, c.placed.result) at)) more

pub returns-in_err-write_all-3 : goal.returns-in_err-write_all-3
returns-in_err-write_all-3 g c =
    let front = head c.args.origin c.args.now c.args.entries in
    let f = object c.args.now in
    let rows = g.R.Rows.rows c.args.rows.now in
    let moments = g.R.PlacedRows.moments c.args.rows.now in
    let all = all_taken rows moments c.loop-i.i (omega (arith, c.len-i-end.ensures)) in
    TakesAll-fails _ _ _ _ _ _ [] _ _ _ c.loop-i.invariant c.in_err-write_all-3.ensures
    (ap (λ l. front ++ with_commas f l ++ codes "]}\n") (sym all) ∙ sym (append-nil _)) c.from_residual-in_err-write_all-3.ensures.1

pub returns : goal.returns
returns g c =
    let front = head c.args.origin c.args.now c.args.entries in
    let f = object c.args.now in
    let rows = g.R.Rows.rows c.args.rows.now in
    let moments = g.R.PlacedRows.moments c.args.rows.now in
    let all = all_taken rows moments c.loop-i.i (omega (arith, c.len-i-end.ensures)) in
    let more = Took-then _ _ _ _ _ c.loop-i.invariant c.in_ok-write_all-3.ensures in
    record {
      bytes = subst (Appends _ _) (ap (λ l. front ++ with_commas f l ++ codes "]}\n") all) more.0;
      failures = more.1;
    }
