use Rattle.station_desk.proofs.RoomLemmas.{copy_fits}
use Rattle.station_desk.proofs.copies.Copies.end.Goals as goal

pub take_apart-requires : goal.take_apart-requires
take_apart-requires g c = copy_fits g.row.N c.self.invariant.0

pub drop-self-inside-requires-room-T-Destruct : goal.drop-self-inside-requires-room-T-Destruct
drop-self-inside-requires-room-T-Destruct g c κs = copy_fits g.row.N c.self.invariant.0
