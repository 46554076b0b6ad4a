use Rattle.station_book.proofs.RoomLemmas.{table_in_book}
use Rattle.station_book.proofs.book.Book.sweep.Goals as goal

pub sweep-requires : goal.sweep-requires
sweep-requires g c = table_in_book g.row.N (search)
