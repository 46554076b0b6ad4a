use Rattle.table_laws.proofs.ReadLemmas.{rows_back, same_lines}
use Rattle.table_laws.proofs.laws.rows_read_back.Goals as goal

pub returns-clause-reading : goal.returns-clause-reading
returns-clause-reading c = rows_back

pub returns-clause-same : goal.returns-clause-same
returns-clause-same c = same_lines
