use Rattle.station_book.proofs.LawLemmas.{match_after_accepted}
use Rattle.station_book.proofs.laws.a_match_stays.Goals as goal

pub returns : goal.returns
returns c = match_after_accepted
