use Rattle.station_book.proofs.table.Table.locate.Goals as goal

pub is_at-requires : goal.is_at-requires
is_at-requires g c = search

pub search-requires : goal.search-requires
search-requires g c = search
