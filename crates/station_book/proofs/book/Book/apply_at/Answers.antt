use Rattle.std.proofs.Common.{rules}
use Rattle.station_book.proofs.RoomLemmas.{table_in_book}
use Rattle.station_book.proofs.book.Book.apply_at.Goals as goal

pub hear-requires : goal.hear-requires
hear-requires g c = (table_in_book g.row.N (search), search rules)
