-- The words that proofs of this crate and of those above it cite most, passed on from one place. Declares nothing.
pub use Rattle.station_book.specs.Call.{call_of, change_of, claim_change, entry_of}
pub use Rattle.station_book.specs.JournalBook.{HasMatchingBook}
pub use Rattle.station_book.specs.Matching.{Matches, MatchesPast, Shows, Tracks, TracksAt, book_after, book_of_past}
pub use Rattle.station_book.specs.State.{BookState, applied_book, book_claim_refusal, book_offered, book_refusal, book_tick_refusal, caught_up, claim_fits, fits, placed_rows, rows, starting, with_frame_ahead}
pub use Rattle.station_book.specs.Tracks.{AllAbove, HeardFrom, IsRank, Rising, StandsAt, address_of, find_track, has_place, put_track, track_or_blank, tracks_left, with_claimed, with_track}
pub use Rattle.station_book.specs.declared.call.Call.{Call}
pub use Rattle.station_book.specs.declared.call.Call.TheVariants.{Heard, Tick}
