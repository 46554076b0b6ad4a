-- What a look shows.
use Rattle.std.proofs.Common.{◌≡◌, ℕ, List, ap, ◌∙◌, reverse}
use Rattle.station_journal.specs.declared.entry.Entry.{Entry}
use Rattle.station_journal.specs.Log.{table_of, placed_of}
use Rattle.station_journal.proofs.Common.{Site, table, placed_table}
use Rattle.station_book.proofs.Common.{BookState, rows, placed_rows, Matches, Shows}
use Rattle.station_book.proofs.LawLemmas.{shows_from_match}
use Rattle.station_history.proofs.Common.{base_of, Start, log_of}
use Rattle.station_shared.specs.Seats.{Seated}

module _ (n : ℕ) (start : Start) (book : BookState) (entries : List Entry) (seen : Seated) (matched : Matches n (base_of start.history) book entries) (site : book.site ≡ start.limits.site) (is : entries ≡ seen.seen) where
  shows : Shows n (base_of start.history) book entries
  shows = shows_from_match n (base_of start.history) book entries matched

  pub table_looked : rows book ≡ table_of (log_of start seen.seen)
  table_looked = shows.table ∙ ap (λ (s : Site). table s (base_of start.history) (reverse entries)) site ∙ ap (λ (es : List Entry). table_of (log_of start es)) is

  pub placed_looked : placed_rows book ≡ placed_of (log_of start seen.seen)
  placed_looked = shows.placed ∙ ap (λ (s : Site). placed_table s (base_of start.history) (reverse entries)) site ∙ ap (λ (es : List Entry). placed_of (log_of start es)) is
