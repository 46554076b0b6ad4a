use Rattle.station_report.proofs.TangentLemmas.{tangents_are}
use Rattle.station_report.proofs.laws.the_table_is_that_of_the_tangents.Goals as goal

pub returns : goal.returns
returns c = tangents_are
