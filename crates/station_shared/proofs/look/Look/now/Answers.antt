use Rattle.station_desk.proofs.RoomLemmas.{book_fits, copy_fits, none_within}
use Rattle.station_shared.proofs.RoomLemmas.{few}
use Rattle.station_shared.proofs.look.Look.now.Goals as goal

pub get-requires : goal.get-requires
get-requires g c κs = let fits = copy_fits g.row.N (few g.row.N c.self.inside.small) in search none_within

pub now-requires : goal.now-requires
now-requires g c = book_fits g.row.N (few g.row.N c.self.inside.small)
