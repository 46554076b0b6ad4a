use Rattle.station_journal.proofs.StandsLemmas.{recent_stands, sound_from_legal}
use Rattle.journal_laws.proofs.laws.recent_entries_stand.Goals as goal

pub returns-clause-stand : goal.returns-clause-stand
returns-clause-stand c = recent_stands

pub returns-clause-legal : goal.returns-clause-legal
returns-clause-legal c = sound_from_legal
