use Rattle.std.proofs.Common.{ap, sym, ◌∙◌, length, arith, slice_get}
use Rattle.station_book.specs.State.{rows, placed_rows}
use Rattle.station_shared.specs.Seats.{Seated}
use Rattle.station_shared.proofs.LookLemmas.{table_looked, placed_looked}
use Rattle.station_desk.proofs.RoomLemmas.{book_fits, copy_fits, none_within}
use Rattle.station_shared.proofs.RoomLemmas.{few}
use Rattle.station_shared.proofs.look.LookPlacedRows.placed.Goals as goal

pub placed-requires : goal.placed-requires
placed-requires g c =
    let same = ap length (ap (λ s. rows s.book) c.get.ensures ∙ table_looked g.row.N g.L.StationName.start _ _ c.args.self.now c.self.invariant.1 c.self.invariant.3 (ap (λ (s : Seated). s.seen) c.self.view_is)) in
    (book_fits g.row.N (few g.row.N c.self.inside.small), omega (arith, same, c.requires))

pub returns : goal.returns
returns g c =
    let same = ap (λ s. placed_rows s.book) c.get.ensures ∙ placed_looked g.row.N g.L.StationName.start _ _ c.args.self.now c.self.invariant.1 c.self.invariant.3 (ap (λ (s : Seated). s.seen) c.self.view_is) in
    ap (λ moments. slice_get moments c.args.i) (sym same) ∙ c.placed.ensures

pub get-requires : goal.get-requires
get-requires g c κs = let fits = copy_fits g.row.N (few g.row.N c.self.inside.small) in search none_within
