use Rattle.station_desk.proofs.RoomLemmas.{copy_fits, none_within}
use Rattle.station_shared.proofs.RoomLemmas.{few}
use Rattle.station_shared.proofs.seat.Seat.into_account.Goals as goal

pub drop-self-inside-requires : goal.drop-self-inside-requires
drop-self-inside-requires g c κs = let fits = copy_fits g.row.N (few g.row.N c.self.inside.small) in search none_within
