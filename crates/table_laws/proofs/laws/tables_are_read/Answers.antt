use Rattle.table_laws.proofs.TableTextLemmas.{table_read}
use Rattle.table_laws.proofs.laws.tables_are_read.Goals as goal

pub returns : goal.returns
returns c = table_read
