use Rattle.station_journal.proofs.MappedLemmas.{rate_in_row}
use Rattle.journal_laws.proofs.laws.rate_of_a_row.Goals as goal

pub returns : goal.returns
returns c = rate_in_row
