use Rattle.table_laws.proofs.JsonLineLemmas.{table_is_json}
use Rattle.table_laws.proofs.laws.json_reads_back.Goals as goal

pub returns : goal.returns
returns c = table_is_json
