use Rattle.station_journal.proofs.UnlimitedLemmas.{recent_stays, base_stays}
use Rattle.journal_laws.proofs.laws.forgotten_entries_stay_old.Goals as goal

pub returns-clause-entries : goal.returns-clause-entries
returns-clause-entries c = recent_stays

pub returns-clause-base : goal.returns-clause-base
returns-clause-base c = base_stays
