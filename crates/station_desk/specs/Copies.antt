-- The copies of a running book, and how far one is behind the other.
use Rattle.std.specs.Prelude.{ℕ, Bool, true, false, Option, Some, None}
use Rattle.station_book.specs.State.{BookState, book_offered, caught_up}
use Rattle.station_book.specs.Call.{change_of}
use Rattle.station_book.specs.declared.call.Call.{Call}
use Rattle.station_book.specs.declared.call.Change.{Change}
use Rattle.station_history.specs.History.{Known}
use Rattle.station_desk.specs.declared.behind.Behind.{Behind}
use Rattle.station_desk.specs.declared.behind.Behind.TheVariants as behind
use Rattle.station_desk.specs.Published.{Sheet, sheet}

-- a book that lacks this of the one ahead, brought up to date
abbrev pub brought_up : ℕ → BookState → Behind → BookState → BookState
brought_up n ahead behind.Nothing book = book
brought_up n ahead (behind.Change change) book = caught_up n ahead change book
brought_up n ahead behind.Many book = ahead

-- what a book lacks after one change more of the one ahead
abbrev pub further_behind : Behind → Option Change → Behind
further_behind behind.Nothing (Some change) = behind.Change change
further_behind behind.Nothing None = behind.Many
further_behind (behind.Change before) change = behind.Many
further_behind behind.Many change = behind.Many

-- what readers are shown, the copy that is shown next, and what one of the two lacks of the other: while calls are taken the
-- next copy is ahead, and else the shown one
pub record CopiesState : Type 0 where
  pub shown : Sheet
  pub next : Sheet
  pub behind : Behind
  pub is_open : Bool

-- the next copy, brought up to date, takes calls
abbrev pub opened : ℕ → CopiesState → CopiesState
opened n c = record {
  shown = c.shown;
  next = sheet (brought_up n c.shown.book c.behind c.next.book) c.next.front c.next.origin;
  behind = behind.Nothing;
  is_open = true;
}

-- the next copy has taken one call more
abbrev pub with_call : ℕ → Call → CopiesState → CopiesState
with_call n call c = record {
  shown = c.shown;
  next = sheet (book_offered n c.next.book call) c.next.front c.next.origin;
  behind = further_behind c.behind (change_of call);
  is_open = c.is_open;
}

-- the next copy as it is shown, with this beginning of the history
abbrev pub next_shown : Known → CopiesState → Sheet
next_shown front c = sheet c.next.book front c.next.origin

-- the next copy is shown, and takes no more calls
abbrev pub turned : Known → CopiesState → CopiesState
turned front c = record { shown = next_shown front c; next = c.shown; behind = c.behind; is_open = false }
