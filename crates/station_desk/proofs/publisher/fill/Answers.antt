use Rattle.std.proofs.Common.{ap, sym, ◌∙◌}
use Rattle.station_journal.proofs.Common.{Site}
use Rattle.station_book.proofs.Common.{BookState}
use Rattle.station_book.specs.State.{starting}
use Rattle.station_desk.proofs.RoomLemmas.{book_in_copy}
use Rattle.station_desk.proofs.publisher.fill.Goals as goal

pub take_all-requires : goal.take_all-requires
take_all-requires g c =
    let made = c.starting-copy.ensures in
    let site = ap (λ (book : BookState). book.site) made in (
      book_in_copy g.row.N (search),
      (made ∙ ap (λ (s : Site). starting s c.args.base) (sym site), search),
    )
