use Rattle.station_desk.proofs.RoomLemmas.{book_fits}
use Rattle.station_desk.proofs.copies.Copies.take.Goals as goal

pub offer_call-requires : goal.offer_call-requires
offer_call-requires g c = book_fits g.row.N c.self.invariant.0
