use Rattle.station_journal.proofs.UnlimitedLemmas.{recent_goes_on}
use Rattle.journal_laws.proofs.laws.recent_entries_go_on.Goals as goal

pub returns : goal.returns
returns c = recent_goes_on
