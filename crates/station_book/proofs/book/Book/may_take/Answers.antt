use Rattle.station_book.proofs.RoomLemmas.{table_in_book}
use Rattle.station_book.proofs.book.Book.may_take.Goals as goal

pub is_full-requires : goal.is_full-requires
is_full-requires g c = table_in_book g.row.N (search)
