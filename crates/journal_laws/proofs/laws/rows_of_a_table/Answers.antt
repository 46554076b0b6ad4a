use Rattle.station_journal.specs.Log.{past_of}
use Rattle.station_journal.proofs.RisingLemmas.{increasing}
use Rattle.station_journal.proofs.LegalJournalLemmas.{timed_from_legal}
use Rattle.station_journal.proofs.TableLemmas.{rising_table, rows_of_table}
use Rattle.journal_laws.proofs.laws.rows_of_a_table.Goals as goal

pub returns-clause-addresses : goal.returns-clause-addresses
returns-clause-addresses c log = increasing _ (rising_table log.limits.site log.base (past_of log))

pub returns-clause-rows : goal.returns-clause-rows
returns-clause-rows c log legal = rows_of_table log.limits.site log.base (past_of log) (timed_from_legal log.limits log.base _ (past_of log) legal)
