-- The words that proofs of this crate and of those above it cite most, passed on from one place. Declares nothing.
pub use Rattle.station_shared.specs.Closing.{Backed, Closes, EachOnce, accepted_at, accepted_by, counts_below}
pub use Rattle.station_shared.specs.KeptLines.{TakesKept, parsed_all}
pub use Rattle.station_shared.specs.Seats.{Account, Looks, Seated, account_of, count_of_seat, new_seat, new_seats, newcomer, newcomers, own_entries, seat_of}
pub use Rattle.station_shared.specs.Workers.{Fed, SeatSteps, Within, Works, accepted_frames, heard_by}
