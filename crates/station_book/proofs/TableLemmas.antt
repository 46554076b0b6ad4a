-- The rows of a matching book are the table.
use Rattle.std.proofs.Common.{◌≡◌, ℕ, Bool, true, false, if◌then◌else◌, List, [], ◌∷◌, length, map, Option, Some, None, is_some, refl, sym, ap, ◌∙◌, subst, arith, ◌==◌}
use Rattle.std.proofs.lemmas.Bool.Decides.{nat_tests}
use Rattle.std.proofs.lemmas.List.{length-map}
use Rattle.station_journal.specs.declared.entry.Entry.{Entry}
use Rattle.station_journal.specs.declared.aircraft.Aircraft.{Aircraft}
use Rattle.station_journal.proofs.Common.{clock, live, newest_fix, row, table, placed, placed_table, live_addresses, find_row, AllOver, IsRising, track_row, track_placed}
use Rattle.station_journal.proofs.FreshLemmas.{moments_agree}
use Rattle.station_journal.proofs.RisingLemmas.{is_in, same_rising, rising_live, in_live}
use Rattle.station_journal.specs.declared.tracks.Track.{Track}
use Rattle.station_book.proofs.Common.{address_of, find_track, AllAbove, Rising, BookState, rows, placed_rows, Tracks, TracksAt, MatchesPast}
use Rattle.station_book.proofs.TrackLemmas.{find_below}

over_from_above : (a : ℕ) (tracks : List Track) → AllAbove a tracks → AllOver a (map address_of tracks)
over_from_above a [] above = tt
over_from_above a (track ∷ rest) above = (above.0, over_from_above a rest above.1)

pub rising_addresses : (tracks : List Track) → Rising tracks → IsRising (map address_of tracks)
rising_addresses [] rising = tt
rising_addresses (track ∷ rest) rising = (over_from_above track.address rest rising.0, rising_addresses rest rising.1)

is_in_addresses : (a : ℕ) (tracks : List Track) → is_in a (map address_of tracks) ≡ is_some (find_track a tracks)
is_in_addresses a [] = refl
is_in_addresses a (track ∷ rest) = grind (arith, nat_tests, is_in_addresses a rest)

-- what is found in a list of rising tracks determines its addresses
rows_agree : {R : Type 0} (f : Track → R) (g : ℕ → R) (tracks : List Track) → Rising tracks → ((a : ℕ) (track : Track) → find_track a tracks ≡ Some track → f track ≡ g a) → map f tracks ≡ map g (map address_of tracks)
rows_agree f g [] rising agree = refl
rows_agree f g (track ∷ rest) rising agree =
    let here : f track ≡ g track.address = agree track.address track (grind (arith, nat_tests)) in
    let found : (a : ℕ) (t : Track) → find_track a rest ≡ Some t → find_track a (track ∷ rest) ≡ Some t = λ a t e. grind (arith, nat_tests, find_below a track.address rest rising.0) in
    let tails : map f rest ≡ map g (map address_of rest) = rows_agree f g rest rising.1 (λ a t e. agree a t (found a t e)) in
    cc

module _ (n base : ℕ) (past : List Entry) (book : BookState) (m : MatchesPast n base book past) where
  found_is_live : (a : ℕ) (kept : Option Track) → TracksAt book.site base past a kept → is_some kept ≡ live base past a
  found_is_live a None absent = sym absent
  found_is_live a (Some track) t = sym t.live

  -- an aircraft has a track exactly where it is live
  pub kept_is_live : (a : ℕ) → is_some (find_track a book.tracks) ≡ live base past a
  kept_is_live a = found_is_live a (find_track a book.tracks) (m.each a)

  -- the addresses of the tracks are the live ones, in the same order
  pub same_addresses : map address_of book.tracks ≡ live_addresses base past
  same_addresses = same_rising (map address_of book.tracks) (live_addresses base past) (rising_addresses book.tracks m.rising) (rising_live base past) (λ a. is_in_addresses a book.tracks ∙ kept_is_live a ∙ sym (in_live base past a))

  -- there are as many tracks as live aircraft
  pub same_count : length book.tracks ≡ length (live_addresses base past)
  same_count = sym (length-map book.tracks address_of) ∙ ap length same_addresses

  row_of_tracks : (a : ℕ) (track : Track) → Tracks book.site base past a track → track_row (clock base past) track ≡ row book.site base past a
  row_of_tracks a track t = rw (
    t.address,
    t.callsign (clock base past) (omega arith),
    t.category (clock base past) (omega arith),
    t.altitude (clock base past) (omega arith),
    t.squawk (clock base past) (omega arith),
    t.emergency (clock base past) (omega arith),
    t.velocity (clock base past) (omega arith),
    t.rate (clock base past) (omega arith),
    t.on_ground (clock base past) (omega arith),
    t.position (clock base past) (omega arith),
    t.heard,
  ) refl

  row_of_found : (a : ℕ) (track : Track) → find_track a book.tracks ≡ Some track → track_row book.moment track ≡ row book.site base past a
  row_of_found a track e = rw m.moment (row_of_tracks a track (subst (TracksAt book.site base past a) e (m.each a)))

  -- the rows are the table
  pub rows_are_table : rows book ≡ table book.site base past
  rows_are_table = rows_agree (track_row book.moment) (row book.site base past) book.tracks m.rising row_of_found ∙ ap (map (row book.site base past)) same_addresses

  placed_of_found : (a : ℕ) (track : Track) → find_track a book.tracks ≡ Some track → track_placed book.moment track ≡ placed book.site base past a
  placed_of_found a track e =
      let t : Tracks book.site base past a track = subst (TracksAt book.site base past a) e (m.each a) in
      rw m.moment (moments_agree 60000 (clock base past) track.position (newest_fix book.site base a past) t.position)

  -- the times of their positions are those of the table
  pub placed_are_table : placed_rows book ≡ placed_table book.site base past
  placed_are_table = rows_agree (track_placed book.moment) (placed book.site base past) book.tracks m.rising placed_of_found ∙ ap (map (placed book.site base past)) same_addresses

-- the row of the track that is found, if there is one
abbrev pub row_found : ℕ → Option Track → Option Aircraft
row_found now None = None
row_found now (Some track) = Some (track_row now track)

-- the row of an address is that of its track
pub find_row_of_tracks : (a now : ℕ) (tracks : List Track) → find_row a (map (track_row now) tracks) ≡ row_found now (find_track a tracks)
find_row_of_tracks a now [] = refl
find_row_of_tracks a now (track ∷ rest) = step (track.address == a) (find_row a (map (track_row now) rest)) (find_track a rest) (find_row_of_tracks a now rest)
  where
    step : (test : Bool) (r : Option Aircraft) (t : Option Track) → r ≡ row_found now t → (if test then Some (track_row now track) else r) ≡ row_found now (if test then Some track else t)
    step true r t e = refl
    step false r t e = e
