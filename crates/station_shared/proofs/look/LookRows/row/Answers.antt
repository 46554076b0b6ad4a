use Rattle.std.proofs.Common.{ap, sym, ◌∙◌, length, arith, slice_get}
use Rattle.station_book.specs.State.{rows}
use Rattle.station_shared.specs.Seats.{Seated}
use Rattle.station_shared.proofs.LookLemmas.{table_looked}
use Rattle.station_desk.proofs.RoomLemmas.{book_fits, copy_fits, none_within}
use Rattle.station_shared.proofs.RoomLemmas.{few}
use Rattle.station_shared.proofs.look.LookRows.row.Goals as goal

pub row-requires : goal.row-requires
row-requires g c =
    let same = ap length (ap (λ s. rows s.book) c.get.ensures ∙ table_looked g.row.N g.L.StationName.start _ _ c.args.self.now c.self.invariant.1 c.self.invariant.3 (ap (λ (s : Seated). s.seen) c.self.view_is)) in
    (book_fits g.row.N (few g.row.N c.self.inside.small), omega (arith, same, c.requires))

pub returns : goal.returns
returns g c =
    let same = ap (λ s. rows s.book) c.get.ensures ∙ table_looked g.row.N g.L.StationName.start _ _ c.args.self.now c.self.invariant.1 c.self.invariant.3 (ap (λ (s : Seated). s.seen) c.self.view_is) in
    ap (λ rows. slice_get rows c.args.i) (sym same) ∙ c.row.ensures

pub get-requires : goal.get-requires
get-requires g c κs = let fits = copy_fits g.row.N (few g.row.N c.self.inside.small) in search none_within
