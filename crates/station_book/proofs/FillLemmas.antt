-- The first entry of a list that doesn't fit those before it.
use Rattle.std.proofs.Common.{◌≡◌, ℕ, ◌+◌, ◌<◌, false, List, [], ◌∷◌, ◌++◌, length, take, get_or, sym, ap, ◌∙◌, subst, arith, length-take-le, reverse}
use Rattle.std.proofs.lemmas.Bool.{false≢true}
use Rattle.std.proofs.lemmas.List.{length-reverse, reverse-append, take_more}
use Rattle.station_journal.specs.declared.entry.Entry.{Entry}
use Rattle.station_journal.proofs.Common.{Sound, IsFirstUnsound}
use Rattle.station_book.proofs.Common.{call_of, BookState, fits, Matches}
use Rattle.station_book.proofs.VerdictLemmas.{fits_from}

module _ (n base : ℕ) (book : BookState) (entries : List Entry) (i : ℕ) (entry : Entry) (within : i < length entries) (is : entry ≡ get_or entries i entry) (m : Matches n base book (take i entries)) where
  pub count_is : book.entries ≡ i
  count_is = m.entries ∙ (length-reverse (take i entries) ∙ length-take-le i entries (omega (arith, within)))

  more : reverse (take (i + 1) entries) ≡ entry ∷ reverse (take i entries)
  more = ap (λ (l : List Entry). reverse l) (take_more entries i entry within ∙ ap (λ e. take i entries ++ e ∷ []) (sym is)) ∙ reverse-append (take i entries) (entry ∷ [])

  pub out_of_place : fits n book (call_of entry) ≡ false → (place : ℕ) → place ≡ book.entries → IsFirstUnsound n base entries place
  out_of_place refused place at = subst (λ k. IsFirstUnsound n base entries k) (sym (at ∙ count_is)) (record {
    within = within;
    before = m.sound;
    with_it = λ sound.
        let all : Sound n base (entry ∷ reverse (take i entries)) = subst (λ l. Sound n base l) more sound in
        false≢true (sym refused ∙ fits_from n base (reverse (take i entries)) book m entry all.0);
  })
