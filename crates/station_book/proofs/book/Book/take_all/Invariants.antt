use Rattle.std.proofs.Common.{◌≡◌, take}
use Rattle.station_book.specs.Matching.{Matches, book_after}
use Rattle.station_book.proofs.book.Book.take_all.Given as goal

abbrev pub invariant-loop-entry : goal.invariant-loop-entry
invariant-loop-entry g l = record {
  after : l.self ≡ book_after l.fn.self.site l.base (take l.entry-index l.entries);
  matched : Matches g.row.N l.base l.self (take l.entry-index l.entries);
}
