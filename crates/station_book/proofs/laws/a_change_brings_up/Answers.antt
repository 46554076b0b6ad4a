use Rattle.station_book.proofs.CatchingLemmas.{catches_up}
use Rattle.station_book.proofs.laws.a_change_brings_up.Goals as goal

pub returns : goal.returns
returns c = λ n book call change fit is. catches_up n book call change fit is
