use Rattle.station_desk.proofs.RoomLemmas.{none_within}
use Rattle.station_desk.proofs.publisher.take_apart.Goals as goal

pub take-requires : goal.take-requires
take-requires g c κs outlives = search none_within

pub drop-take-requires : goal.drop-take-requires
drop-take-requires g c κs = search none_within
