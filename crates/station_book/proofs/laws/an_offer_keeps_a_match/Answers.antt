use Rattle.station_book.proofs.LawLemmas.{match_after_offer}
use Rattle.station_book.proofs.laws.an_offer_keeps_a_match.Goals as goal

pub returns : goal.returns
returns c = match_after_offer
