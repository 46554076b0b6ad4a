-- The words that proofs of this crate and of those above it cite most, passed on from one place. Declares nothing.
pub use Rattle.station_journal.specs.Follow.{IsFirstUnsound, claim_may_follow, moment_at}
pub use Rattle.station_journal.specs.Forgetting.{ForgetsOld, recent_log}
pub use Rattle.station_journal.specs.Found.{best_after, best_claim, first, found_in, from_on, is_live_from, is_recent, live_from, lower_of}
pub use Rattle.station_journal.specs.Log.{IsLegal, Log, clock_of, empty_log, most_entries, past_of, placed_of, refusal_of, table_of, with_entry}
pub use Rattle.station_journal.specs.Newest.{FindsNewest, FindsNewestPosition, GivesPosition, IsNewest, IsNewestPosition, IsPlacedAt, NonePairs, NoneReads, other_spot_of}
pub use Rattle.station_journal.specs.Past.{AgreeFrom, Site, airborne_spot, Frame, IsTimed, callsign_of, clock, even_spot_of, fix_by, fix_of, fresh, fresh_moment, heard_within, is_claim_of, live, newest, newest_fix, odd_spot_of, or_older, pair_with, pair_ms, partner, place_from, read_for, sighting_of, speaks_for, spot_from, spot_in, spot_of, stamp, surface_at, surface_fix, surface_spot}
pub use Rattle.station_journal.specs.Repeats.{first_heard, heard_since_tick, is_one_of, is_repeated, most_looked_at, same_frame, with_heard}
pub use Rattle.station_journal.specs.Resume.{ClaimFits, Enters, Fits, IsAssigned, IsOther, IsPlain, IsSound, IsUnsoundAt, LegalFrom, NoneFull, Refuses, Sound, StandsFor, left_at, left_of, moment, past_after, recent_at, recent_base, recent_of, replies}
pub use Rattle.station_journal.specs.Rising.{AllOver, IsRising}
pub use Rattle.station_journal.specs.Table.{IsTableRow, altitude_of, category_of, emergency_of, rate_of, find_row, insert_rising, live_addresses, moment_of, placed, placed_table, row, senders, squawk_of, table, ground_by, ground_in, ground_of, surface_velocity, velocity_in, velocity_of, vertical_of, with_claim}
pub use Rattle.station_journal.specs.Track.{blank, fix_from, track_placed, track_row, updated_track}
pub use Rattle.station_journal.specs.Unlimited.{GoesOnAs, unlimited_past, unlimited_refusal, unlimited_replies}
pub use Rattle.station_journal.specs.Verdict.{Accepts, claim_refusal, is_full, refusal, refuse_if, tick_refusal}
pub use Rattle.station_journal.specs.declared.aircraft.Aircraft.{Aircraft}
pub use Rattle.station_journal.specs.declared.aircraft.Stamped.{Stamped}
pub use Rattle.station_journal.specs.declared.entry.Entry.{Entry}
pub use Rattle.station_journal.specs.declared.entry.Entry.TheVariants.{Heard, Tick}
pub use Rattle.station_journal.specs.declared.limits.Limits.{Limits}
pub use Rattle.station_journal.specs.declared.refusal.Refusal.{Refusal}
pub use Rattle.station_journal.specs.declared.refusal.Refusal.TheVariants.{BookFull, JournalFull, NotLater, Repeated, Unknown}
pub use Rattle.station_journal.specs.declared.spot.Spot.{Spot}
