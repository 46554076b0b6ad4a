use Rattle.std.proofs.Common.{rules}
use Rattle.station_book.proofs.RoomLemmas.{table_in_book}
use Rattle.station_book.proofs.book.Book.verdict_of.Goals as goal

pub verdict_tick-requires : goal.verdict_tick-requires
verdict_tick-requires g c = search

pub locate-place-requires : goal.locate-place-requires
locate-place-requires g c = table_in_book g.row.N (search)

pub verdict_at-requires : goal.verdict_at-requires
verdict_at-requires g c = (search, search rules)
