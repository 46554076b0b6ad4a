use Rattle.std.proofs.Common.{rules}
use Rattle.station_book.proofs.RoomLemmas.{table_in_book}
use Rattle.station_book.proofs.book.Book.offer_frame.Goals as goal

pub locate-place-requires : goal.locate-place-requires
locate-place-requires g c = table_in_book g.row.N (search)

pub may_take-requires : goal.may_take-requires
may_take-requires g c = (search, search rules)

pub apply_at-requires : goal.apply_at-requires
apply_at-requires g c = (search, search rules)
