use Rattle.table_laws.proofs.RowLemmas.{rows_in_range}
use Rattle.table_laws.proofs.laws.rows_are_in_range.Goals as goal

pub returns : goal.returns
returns c = rows_in_range
