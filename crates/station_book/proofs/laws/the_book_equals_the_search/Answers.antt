use Rattle.station_book.proofs.LawLemmas.{book_equals_search}
use Rattle.station_book.proofs.laws.the_book_equals_the_search.Goals as goal

pub returns : goal.returns
returns c = book_equals_search
