use Rattle.station_report.proofs.RootLemmas.{root_is}
use Rattle.station_report.proofs.laws.the_root_is_the_greatest.Goals as goal

pub returns : goal.returns
returns c = root_is
