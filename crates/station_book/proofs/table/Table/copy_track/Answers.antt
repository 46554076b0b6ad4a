use Rattle.std.proofs.Common.{rules}
use Rattle.station_book.proofs.table.Table.copy_track.Goals as goal

pub locate-requires : goal.locate-requires
locate-requires g c = search

pub track-requires : goal.track-requires
track-requires g c = (search, search rules)

pub put-requires : goal.put-requires
put-requires g c = search
