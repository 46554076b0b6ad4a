use Rattle.std.proofs.Common.{◌≡◌, ℕ, false, take, ap, sym, subst, ◌∙◌, arith}
use Rattle.std.proofs.lemmas.Grind.{common_steps}
use Rattle.station_book.proofs.Common.{call_of, Matches, book_after, BookState, fits}
use Rattle.station_book.proofs.FillLemmas.{count_is, out_of_place}
use Rattle.station_book.proofs.book.Book.take_all.Goals as goal

pub returns-then-not-fits-clause-err : goal.returns-then-not-fits-clause-err
returns-then-not-fits-clause-err g c =
    let refused : fits g.row.N c.loop-entry.self (call_of c.entry-item.result) ≡ false = sym c.fits.ensures ∙ c.if-not-fits.true in
    out_of_place g.row.N c.args.base c.loop-entry.self c.args.entries.now c.loop-entry.entry-index c.entry-item.result c.loop-entry-test.true c.entry-item.is c.loop-entry.invariant.matched refused c.self.inside.count (ap (λ (s : BookState). s.entries) c.self.view_is)

pub returns-then-not-fits-clause-kept : goal.returns-then-not-fits-clause-kept
returns-then-not-fits-clause-kept g c =
    let book = c.loop-entry.self in
    let entries = c.args.entries.now in
    let i = c.loop-entry.entry-index in
    let taken = c.loop-entry.invariant in
    let at : i ≡ c.self.inside.count = sym (count_is g.row.N c.args.base book entries i c.entry-item.result c.loop-entry-test.true c.entry-item.is taken.matched) ∙ sym (ap (λ (s : BookState). s.entries) c.self.view_is) in
    subst (λ (k : ℕ). (book ≡ book_after c.args.self.now.site c.args.base (take k entries)) × Matches g.row.N c.args.base book (take k entries)) at (taken.after, taken.matched)

pub fits-requires : goal.fits-requires
fits-requires g c = search

pub apply-requires : goal.apply-requires
apply-requires g c = (search, grind (arith, common_steps))
