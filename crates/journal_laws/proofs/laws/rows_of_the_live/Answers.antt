use Rattle.station_journal.specs.Log.{past_of}
use Rattle.station_journal.proofs.FoundLemmas.{find_row_in_table}
use Rattle.journal_laws.proofs.laws.rows_of_the_live.Goals as goal

pub returns : goal.returns
returns c log a = find_row_in_table log.limits.site log.base (past_of log) a
