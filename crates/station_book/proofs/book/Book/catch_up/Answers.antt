use Rattle.station_book.proofs.RoomLemmas.{table_in_book}
use Rattle.station_book.proofs.book.Book.catch_up.Goals as goal

pub sweep-requires : goal.sweep-requires
sweep-requires g c = search

pub copy_track-requires : goal.copy_track-requires
copy_track-requires g c = table_in_book g.row.N (search)
