use Rattle.std.proofs.Common.{rules}
use Rattle.station_book.proofs.RoomLemmas.{table_in_book}
use Rattle.station_book.proofs.book.Book.fits.Goals as goal

pub locate-requires : goal.locate-requires
locate-requires g c = table_in_book g.row.N (search)

pub may_take-requires : goal.may_take-requires
may_take-requires g c = (search, search rules)
