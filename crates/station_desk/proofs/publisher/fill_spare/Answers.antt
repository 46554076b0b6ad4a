use Rattle.station_desk.proofs.RoomLemmas.{none_within}
use Rattle.station_desk.proofs.publisher.fill_spare.Goals as goal

pub open-open-requires : goal.open-open-requires
open-open-requires g c κs outlives = search none_within

pub fill-filled-requires : goal.fill-filled-requires
fill-filled-requires g c = (search, search)

pub take_apart-requires : goal.take_apart-requires
take_apart-requires g c = search
