use Rattle.station_portions.proofs.WholeLemmas.{given_lines}
use Rattle.station_portions.proofs.laws.a_path_given_to_its_end_has_its_lines.Goals as goal

pub returns : goal.returns
returns c = given_lines
