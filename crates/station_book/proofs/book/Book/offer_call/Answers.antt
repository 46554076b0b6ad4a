use Rattle.std.proofs.Common.{rules}
use Rattle.station_book.proofs.book.Book.offer_call.Goals as goal

pub offer_tick-requires : goal.offer_tick-requires
offer_tick-requires g c = (search, search rules)

pub offer_frame-requires : goal.offer_frame-requires
offer_frame-requires g c = (search, search rules)
