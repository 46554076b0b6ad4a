use Rattle.station_replay.proofs.KeepingLemmas.{nothing-lost}
use Rattle.station_replay.proofs.laws.forgetting_loses_nothing.Goals as goal

pub returns : goal.returns
returns c limits most few lines room sparse = nothing-lost most few limits lines room sparse
