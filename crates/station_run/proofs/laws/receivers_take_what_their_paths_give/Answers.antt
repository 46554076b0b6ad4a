use Rattle.station_run.proofs.TakenLemmas.{runs-take}
use Rattle.station_run.proofs.laws.receivers_take_what_their_paths_give.Goals as goal

pub returns : goal.returns
returns c = runs-take
