use Rattle.station_replay.proofs.KeepingLemmas.{never-full}
use Rattle.station_replay.proofs.laws.a_journal_that_is_never_full.Goals as goal

pub returns : goal.returns
returns c limits most few lines room sparse = never-full most few limits lines room sparse
