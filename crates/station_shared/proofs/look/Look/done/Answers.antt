use Rattle.station_desk.proofs.RoomLemmas.{copy_fits, none_within}
use Rattle.station_shared.proofs.RoomLemmas.{few}
use Rattle.station_shared.proofs.look.Look.done.Goals as goal

pub leave-requires : goal.leave-requires
leave-requires g c κs = let fits = copy_fits g.row.N (few g.row.N c.self.inside.small) in search none_within
