-- When a book and a list of entries match: first of each aircraft, and then of the whole.
use Rattle.std.specs.Prelude.{◌≡◌, ℕ, true, false, List, [], ◌∷◌, Option, Some, None, length, reverse}
use Rattle.station_journal.specs.declared.entry.Entry.{Entry}
use Rattle.station_journal.specs.Past.{AgreeFrom, Site, clock, live, newest, newest_fix, sighting_of, callsign_of, even_spot_of, odd_spot_of, life_ms, pair_ms}
use Rattle.station_journal.specs.Table.{altitude_of, category_of, emergency_of, squawk_of, velocity_of, ground_of, rate_of, table, placed_table}
use Rattle.station_journal.specs.Repeats.{first_heard}
use Rattle.station_journal.specs.Resume.{Sound}
use Rattle.station_journal.specs.Verdict.{tick_refusal, refusal}
use Rattle.station_journal.specs.declared.tracks.Track.{Track}
use Rattle.station_book.specs.Call.{call_of}
use Rattle.station_book.specs.Tracks.{find_track, Rising}
use Rattle.station_book.specs.State.{BookState, rows, placed_rows, starting, applied_book, book_tick_refusal, book_refusal}

-- the track shows of an aircraft what a search finds, now and later
pub record Tracks (site : Site) (base : ℕ) (past : List Entry) (a : ℕ) (track : Track) : Type 0 where
  pub address : track.address ≡ a
  pub live : live base past a ≡ true
  pub heard : newest sighting_of base a past ≡ Some (record { value = 0; at = track.heard })
  pub callsign : AgreeFrom life_ms (clock base past) track.callsign (newest callsign_of base a past)
  pub category : AgreeFrom life_ms (clock base past) track.category (newest category_of base a past)
  pub altitude : AgreeFrom life_ms (clock base past) track.altitude (newest altitude_of base a past)
  pub squawk : AgreeFrom life_ms (clock base past) track.squawk (newest squawk_of base a past)
  pub emergency : AgreeFrom life_ms (clock base past) track.emergency (newest emergency_of base a past)
  pub velocity : AgreeFrom life_ms (clock base past) track.velocity (newest (velocity_of site) base a past)
  pub rate : AgreeFrom life_ms (clock base past) track.rate (newest rate_of base a past)
  pub on_ground : AgreeFrom life_ms (clock base past) track.on_ground (newest (ground_of site) base a past)
  pub even : AgreeFrom pair_ms (clock base past) track.even (newest (even_spot_of site) base a past)
  pub odd : AgreeFrom pair_ms (clock base past) track.odd (newest (odd_spot_of site) base a past)
  pub position : AgreeFrom life_ms (clock base past) track.position (newest_fix site base a past)

-- the aircraft has a track exactly where it is live
abbrev pub TracksAt : Site → ℕ → List Entry → ℕ → Option Track → Type 0
TracksAt site base past a None = live base past a ≡ false
TracksAt site base past a (Some track) = Tracks site base past a track

-- the book matches the past
pub record MatchesPast (n base : ℕ) (book : BookState) (past : List Entry) : Type 0 where
  pub sound : Sound n base past
  pub moment : book.moment ≡ clock base past
  pub entries : book.entries ≡ length past
  pub rising : Rising book.tracks
  pub each : (a : ℕ) → TracksAt book.site base past a (find_track a book.tracks)
  pub first_frames : book.first_frames ≡ first_heard past

-- the book matches the list of entries, the oldest first
abbrev pub Matches : ℕ → ℕ → BookState → List Entry → Type 0
Matches n base book entries = MatchesPast n base book (reverse entries)

-- what a match promises: the table with the times of its positions, the clock, the count, and each refusal but JournalFull
pub record Shows (n base : ℕ) (book : BookState) (entries : List Entry) : Type 0 where
  pub table : rows book ≡ table book.site base (reverse entries)
  pub placed : placed_rows book ≡ placed_table book.site base (reverse entries)
  pub moment : book.moment ≡ clock base (reverse entries)
  pub count : book.entries ≡ length entries
  pub tick : (at : ℕ) → book_tick_refusal book at ≡ tick_refusal false base (reverse entries) at
  pub entry : (entry : Entry) → book_refusal n book (call_of entry) ≡ refusal false n base (reverse entries) entry

-- the book that has applied each entry of the past in turn
abbrev pub book_of_past : Site → ℕ → List Entry → BookState
book_of_past site base [] = starting site base
book_of_past site base (entry ∷ past) = applied_book (book_of_past site base past) (call_of entry)

-- the book that has applied the entries, the oldest first
abbrev pub book_after : Site → ℕ → List Entry → BookState
book_after site base entries = book_of_past site base (reverse entries)
