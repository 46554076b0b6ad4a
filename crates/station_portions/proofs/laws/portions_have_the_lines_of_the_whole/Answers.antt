use Rattle.station_portions.proofs.SendingLemmas.{cuts_portions}
use Rattle.station_portions.proofs.laws.portions_have_the_lines_of_the_whole.Goals as goal

pub returns : goal.returns
returns c = cuts_portions
