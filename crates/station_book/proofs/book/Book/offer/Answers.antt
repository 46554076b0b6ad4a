use Rattle.station_book.proofs.OfferLemmas.{match_or_same}
use Rattle.station_book.proofs.book.Book.offer.Goals as goal

pub returns-clause-kept : goal.returns-clause-kept
returns-clause-kept g c base journal m = rw (c.offer_call.ensures, c.of.ensures) (match_or_same g.row.N base c.args.self.now journal c.args.entry.now m)
