use Rattle.station_book.proofs.LawLemmas.{match_after_fit, offer_of_fit}
use Rattle.station_book.proofs.book.Book.apply.Goals as goal

pub returns-clause-value : goal.returns-clause-value
returns-clause-value g c = rw c.offer.ensures.value (offer_of_fit g.row.N c.args.self.now _ c.requires.fits c.requires.few)

pub returns-clause-kept : goal.returns-clause-kept
returns-clause-kept g c base journal m =
    rw (c.offer.ensures.value, offer_of_fit g.row.N c.args.self.now _ c.requires.fits c.requires.few) (match_after_fit g.row.N base c.args.self.now journal c.args.entry.now c.requires.fits m)
