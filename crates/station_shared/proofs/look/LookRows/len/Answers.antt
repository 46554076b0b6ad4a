use Rattle.std.proofs.Common.{ap, ◌∙◌, length}
use Rattle.station_book.specs.State.{rows}
use Rattle.station_shared.specs.Seats.{Seated}
use Rattle.station_shared.proofs.LookLemmas.{table_looked}
use Rattle.station_desk.proofs.RoomLemmas.{book_fits, copy_fits, none_within}
use Rattle.station_shared.proofs.RoomLemmas.{few}
use Rattle.station_shared.proofs.look.LookRows.len.Goals as goal

pub returns : goal.returns
returns g c = c.len.ensures ∙ ap length (ap (λ s. rows s.book) c.get.ensures ∙ table_looked g.row.N g.L.StationName.start _ _ c.args.self.now c.self.invariant.1 c.self.invariant.3 (ap (λ (s : Seated). s.seen) c.self.view_is))

pub get-requires : goal.get-requires
get-requires g c κs = let fits = copy_fits g.row.N (few g.row.N c.self.inside.small) in search none_within

pub len-requires : goal.len-requires
len-requires g c = book_fits g.row.N (few g.row.N c.self.inside.small)
