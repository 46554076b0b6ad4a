use Rattle.station_desk.proofs.RoomLemmas.{none_within}
use Rattle.station_shared.proofs.look.lacks.Goals as goal

pub get-requires : goal.get-requires
get-requires g c κs = search none_within
