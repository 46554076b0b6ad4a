use Rattle.station_book.proofs.ForgettingLemmas.{matches_recent_log}
use Rattle.station_book.proofs.book.Book.forget_old.Goals as goal

pub returns-clause-kept : goal.returns-clause-kept
returns-clause-kept g c log m is = matches_recent_log g.row.N c.args.count log _ (rw (← c.self.view_is) at m) is
