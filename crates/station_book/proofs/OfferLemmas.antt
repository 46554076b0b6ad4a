-- A book that is offered an entry still matches, with the entry or without it.
use Rattle.std.proofs.Common.{◌≡◌, ◌⊎◌, ℕ, Bool, true, false, List, [], ◌∷◌, ◌++◌, refl, nat_lt, inl, inr}
use Rattle.station_journal.specs.declared.entry.Entry.{Entry}
use Rattle.station_journal.specs.Log.{most_entries}
use Rattle.station_book.proofs.Common.{call_of, BookState, book_offered, fits, Matches}
use Rattle.station_book.proofs.LawLemmas.{match_after_fit}

module _ (n base : ℕ) (book : BookState) (journal : List Entry) (entry : Entry) (m : Matches n base book journal) where
  abbrev StillMatches : Type 0
  StillMatches = (book_offered n book (call_of entry) ≡ book) ⊎ Matches n base (book_offered n book (call_of entry)) (journal ++ entry ∷ [])

  by_tests : (fit few : Bool) → fits n book (call_of entry) ≡ fit → nat_lt book.entries most_entries ≡ few → StillMatches
  by_tests true true fit few = inr (rw (fit, few) (match_after_fit n base book journal entry fit m))
  by_tests true false fit few = inl (rw (fit, few) refl)
  by_tests false few fit is = inl (rw fit refl)

  -- the book matches the journal with the entry, or hasn't changed
  pub match_or_same : (book_offered n book (call_of entry) ≡ book) ⊎ Matches n base (book_offered n book (call_of entry)) (journal ++ entry ∷ [])
  match_or_same = by_tests (fits n book (call_of entry)) (nat_lt book.entries most_entries) refl refl
