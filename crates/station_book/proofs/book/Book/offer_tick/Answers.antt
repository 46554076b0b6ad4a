use Rattle.station_book.proofs.book.Book.offer_tick.Goals as goal

pub sweep-requires : goal.sweep-requires
sweep-requires g c = search
