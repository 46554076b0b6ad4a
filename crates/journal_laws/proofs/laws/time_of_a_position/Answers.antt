use Rattle.station_journal.proofs.PlacedLemmas.{placed_at, placed_with_position}
use Rattle.journal_laws.proofs.laws.time_of_a_position.Goals as goal

pub returns-clause-frame : goal.returns-clause-frame
returns-clause-frame c = placed_at

pub returns-clause-row : goal.returns-clause-row
returns-clause-row c = placed_with_position
