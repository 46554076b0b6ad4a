use Rattle.station_book.proofs.LawLemmas.{shows_from_match}
use Rattle.station_book.proofs.laws.a_match_shows_the_search.Goals as goal

pub returns : goal.returns
returns c = shows_from_match
