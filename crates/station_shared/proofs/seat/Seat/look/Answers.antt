use Rattle.std.proofs.Common.{arith}
use Rattle.station_desk.proofs.RoomLemmas.{copy_fits, none_within}
use Rattle.station_shared.proofs.RoomLemmas.{few}
use Rattle.station_shared.proofs.seat.Seat.look.Goals as goal

pub apart-account-requires : goal.apart-account-requires
apart-account-requires g c = (omega arith, copy_fits g.row.N (few g.row.N (search)))

pub enter-requires : goal.enter-requires
enter-requires g c = copy_fits g.row.N (few g.row.N (search))

pub lacks-requires : goal.lacks-requires
lacks-requires g c = copy_fits g.row.N (few g.row.N (search))

pub leave-requires : goal.leave-requires
leave-requires g c κs = let fits = copy_fits g.row.N (few g.row.N (search)) in search none_within

pub get-requires : goal.get-requires
get-requires g c κs = let fits = copy_fits g.row.N (few g.row.N (search)) in search none_within

pub get-requires-in-Ok : goal.get-requires-in-Ok
get-requires-in-Ok g c κs = let fits = copy_fits g.row.N (few g.row.N (search)) in search none_within
