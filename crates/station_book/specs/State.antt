-- The value of a book, what it refuses, and what a call makes of it.
use Rattle.std.specs.Prelude.{ℕ, ◌+◌, Bool, false, not, ◌&&◌, nat_lt, nat_le, is_some, if◌then◌else◌, List, [], ◌++◌, Option, Some, Result, Ok, Err, length, map, take, drop}
use Rattle.modes_frame.specs.declared.claims.Claim.{Claim}
use Rattle.modes_frame.specs.declared.claims.CheckFault.{CheckFault}
use Rattle.modes_frame.specs.Claims.{claim_of, is_unassigned}
use Rattle.station_journal.specs.declared.aircraft.Aircraft.{Aircraft}
use Rattle.station_journal.specs.declared.refusal.Refusal.{Refusal}
use Rattle.station_journal.specs.declared.refusal.Refusal.TheVariants.{Unknown, BookFull, NotLater, Repeated}
use Rattle.station_journal.specs.Log.{most_entries}
use Rattle.station_journal.specs.Past.{Site, Frame, or_older}
use Rattle.station_journal.specs.Repeats.{is_one_of, with_heard}
use Rattle.station_journal.specs.Verdict.{refuse_if, fault_refusal}
use Rattle.station_book.specs.declared.call.Call.{Call}
use Rattle.station_book.specs.declared.call.Call.TheVariants.{Tick, Heard}
use Rattle.station_journal.specs.declared.tracks.Track.{Track}
use Rattle.station_book.specs.declared.call.Change.{Change}
use Rattle.station_book.specs.declared.call.Change.TheVariants as change
use Rattle.station_journal.specs.Track.{track_row, track_placed}
use Rattle.station_book.specs.Tracks.{find_track, tracks_left, with_claimed, has_place, with_track}

-- the site, the clock, the number of entries taken, the track of each live aircraft, and the first frames since the newest
-- tick
pub record BookState : Type 0 where
  pub site : Site
  pub moment : ℕ
  pub entries : ℕ
  pub tracks : List Track
  pub first_frames : List Frame

-- a book without entries, whose clock is the base
abbrev pub starting : Site → ℕ → BookState
starting site base = record { site = site; moment = base; entries = 0; tracks = []; first_frames = [] }

-- the rows that the book shows
abbrev pub rows : BookState → List Aircraft
rows book = map (track_row book.moment) book.tracks

-- the times of the positions in these rows
abbrev pub placed_rows : BookState → List (Option ℕ)
placed_rows book = map (track_placed book.moment) book.tracks

-- the book's refusal of a claim whose frame repeats another or not: the first that applies of its fault, Unknown,
-- Repeated and BookFull
abbrev pub book_claim_refusal : ℕ → BookState → Bool → Result Claim CheckFault → Option Refusal
book_claim_refusal n book repeated (Err fault) = Some (fault_refusal fault)
book_claim_refusal n book repeated (Ok claim) =
    or_older (refuse_if (if claim.overlaid then not (is_some (find_track claim.address book.tracks)) else false) (Unknown claim.address))
    (or_older (refuse_if repeated Repeated)
    (refuse_if (if is_some (find_track claim.address book.tracks) then false else nat_le n (length book.tracks)) BookFull))

-- the book's refusal of a tick
abbrev pub book_tick_refusal : BookState → ℕ → Option Refusal
book_tick_refusal book at = refuse_if (nat_le at book.moment) (NotLater book.moment)

-- the book's refusal of a call
abbrev pub book_refusal : ℕ → BookState → Call → Option Refusal
book_refusal n book (Tick at) = book_tick_refusal book at
book_refusal n book (Heard frame) = book_claim_refusal n book (is_one_of book.first_frames frame) (claim_of frame)

-- the first frames with a frame that has this claim
abbrev pub with_frame_of : Frame → Result Claim CheckFault → List Frame → List Frame
with_frame_of frame (Err fault) frames = frames
with_frame_of frame (Ok claim) frames = with_heard frame frames

-- the book that took a call
abbrev pub applied_book : BookState → Call → BookState
applied_book book (Tick at) = record { site = book.site; moment = at; entries = book.entries + 1; tracks = tracks_left at book.tracks; first_frames = [] }
applied_book book (Heard frame) = record {
  site = book.site;
  moment = book.moment;
  entries = book.entries + 1;
  tracks = with_claimed book.site book.moment frame (claim_of frame) book.tracks;
  first_frames = with_frame_of frame (claim_of frame) book.first_frames;
}

-- the claim is of an assigned address, which has a track or finds a place
abbrev pub claim_fits : ℕ → BookState → Result Claim CheckFault → Bool
claim_fits n book (Ok claim) = not (is_unassigned claim.address) && has_place n claim.address book.tracks
claim_fits n book (Err fault) = false

-- the call fits the book, so that it may be applied
abbrev pub fits : ℕ → BookState → Call → Bool
fits n book (Tick at) = nat_lt book.moment at
fits n book (Heard frame) = claim_fits n book (claim_of frame)

-- an offered call is applied where it fits and the book counts fewer than the most entries; else nothing changes
abbrev pub book_offered : ℕ → BookState → Call → BookState
book_offered n book call = if fits n book call && nat_lt book.entries most_entries then applied_book book call else book

-- the first frames with the next one of others that are ahead, if they have one
abbrev pub with_frame_ahead : List Frame → List Frame → List Frame
with_frame_ahead ahead frames = frames ++ take 1 (drop (length frames) ahead)

-- the book with what one entry changed, copied from a book that is ahead by that entry: the clock, the count, and the
-- change of the tracks and the first frames
abbrev pub caught_up : ℕ → BookState → Change → BookState → BookState
caught_up n ahead change.Clock book =
    record { site = book.site; moment = ahead.moment; entries = ahead.entries; tracks = tracks_left ahead.moment book.tracks; first_frames = [] }
caught_up n ahead (change.Track a) book = record {
  site = book.site;
  moment = ahead.moment;
  entries = ahead.entries;
  tracks = with_track n (find_track a ahead.tracks) book.tracks;
  first_frames = with_frame_ahead ahead.first_frames book.first_frames;
}
