use Rattle.std.proofs.Common.{◌≡◌, ap, ◌∙◌, reverse, Some, rules}
use Rattle.station_book.proofs.Common.{BookState, book_after}
use Rattle.station_book.proofs.LawLemmas.{site_of_past}
use Rattle.station_desk.specs.Published.{Sheet, sheet, sheet_of}
use Rattle.station_desk.proofs.StartLemmas.{begins}
use Rattle.station_desk.proofs.publisher.begin.Goals as goal

pub show_spare-publisher-requires : goal.show_spare-publisher-requires
show_spare-publisher-requires g c =
    let filled = c.in_ok-publisher in
    let after : BookState = book_after c.args.origin.limits.site c.args.base c.args.entries.now in
    let book : filled.publisher.desk.spare.value.book ≡ after = ap (λ (s : Sheet). s.book) filled.ensures.sheet in (
      search,
      rw filled.ensures.sheet
          (begins g.row.N c.args.base (sheet_of filled.publisher.desk.shown.value) after c.args.front c.args.origin c.args.entries.now
          (ap (λ p. p.value.origin) filled.ensures.shown ∙ c.requires.new) c.requires.front.0 c.requires.front.1 c.requires.origin (rw book at filled.ensures.matched) (site_of_past c.args.origin.limits.site c.args.base (reverse c.args.entries.now))),
    )

pub fill_spare-requires : goal.fill_spare-requires
fill_spare-requires g c = (search, search)

pub returns-clause-site : goal.returns-clause-site
returns-clause-site g c =
    let shown : sheet_of c.copy_shown.result.desk.shown.value ≡ sheet (book_after c.args.origin.limits.site c.args.base c.args.entries.now) c.args.front (Some c.args.origin) = search rules in
    ap (λ (s : Sheet). s.book.site) shown ∙ site_of_past c.args.origin.limits.site c.args.base (reverse c.args.entries.now)
