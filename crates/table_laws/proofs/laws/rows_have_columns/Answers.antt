use Rattle.std.proofs.lemmas.List.Elements.{All-weaker}
use Rattle.station_journal.proofs.Common.{clock_of, table_of}
use Rattle.station_report.specs.Text.{row_text}
use Rattle.table_laws.specs.Ranges.{IsInRange}
use Rattle.table_laws.specs.Columns.{IsLaidOut}
use Rattle.table_laws.proofs.RowLemmas.{rows_in_range}
use Rattle.table_laws.proofs.ColumnLemmas.{laid_out}
use Rattle.table_laws.proofs.laws.rows_have_columns.Goals as goal

pub returns : goal.returns
returns c log legal =
    All-weaker (IsInRange (clock_of log)) (λ row. IsLaidOut (clock_of log) row (row_text (clock_of log) row)) (λ row is. laid_out (clock_of log) row is) (table_of log) (rows_in_range log legal)
