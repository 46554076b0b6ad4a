use Rattle.station_journal.proofs.NewestLemmas.{finds_newest_position}
use Rattle.journal_laws.proofs.laws.newest_position.Goals as goal

pub returns : goal.returns
returns c = finds_newest_position
