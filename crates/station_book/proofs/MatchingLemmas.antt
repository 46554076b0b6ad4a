-- A book that matches a past also matches it with one more entry that fits.
use Rattle.std.proofs.Common.{◌≡◌, ℕ, ◌-◌, ◌<◌, Bool, true, false, if◌then◌else◌, List, [], ◌∷◌, ◌++◌, Option, Some, None, Result, Ok, Err, refl, sym, subst, arith, nat_le, ◌==◌, unwrap_or, reverse, eqb-true}
use Rattle.std.proofs.lemmas.Bool.Decides.{nat_tests}
use Rattle.std.proofs.lemmas.List.{reverse-append}
use Rattle.station_journal.proofs.Common.{Site, Frame, clock, speaks_for, IsTimed, ClaimFits, Fits, blank, updated_track}
use Rattle.modes_frame.specs.declared.claims.Claim.{Claim}
use Rattle.modes_frame.specs.declared.claims.CheckFault.{CheckFault}
use Rattle.modes_frame.specs.Claims.{claim_of}
use Rattle.modes_fields.specs.Carried.{fields_of}
use Rattle.station_journal.specs.declared.entry.Entry.{Entry}
use Rattle.station_journal.specs.declared.entry.Entry.TheVariants.{Tick, Heard}
use Rattle.station_journal.specs.declared.tracks.Track.{Track}
use Rattle.station_book.proofs.Common.{call_of, find_track, with_claimed, BookState, applied_book, starting, Tracks, TracksAt, MatchesPast, Matches}
use Rattle.station_journal.proofs.RepeatLemmas.{first_heard_next}
use Rattle.station_journal.proofs.SoundLemmas.{timed_sound}
use Rattle.station_book.proofs.AircraftLemmas.{kept_by_tick, swept_by_tick, absent_after_tick, unchanged_by_other, heard_of_own}
use Rattle.station_book.proofs.TrackLemmas.{keep_if, find_put_as, find_filter, rising_put, rising_filter}

-- a book without entries matches the empty past
pub matches_starting : (site : Site) (n base : ℕ) → MatchesPast n base (starting site base) []
matches_starting site n base = record { sound = tt; moment = refl; entries = refl; rising = tt; each = λ a. refl; first_frames = refl }

module _ (n base : ℕ) (past : List Entry) where
  -- the track of one aircraft after a tick
  after_tick : (site : Site) (seat at a : ℕ) (kept : Option Track) → IsTimed base past → clock base past < at → TracksAt site base past a kept → TracksAt site base (Tick seat at ∷ past) a (keep_if (λ track. nat_le (at - track.heard) 60000) kept)
  after_tick site seat at a None timed later absent = absent_after_tick site base a past seat at later absent
  after_tick site seat at a (Some track) timed later tracks = by_test (nat_le (at - track.heard) 60000) refl
    where
      by_test : (test : Bool) → nat_le (at - track.heard) 60000 ≡ test → TracksAt site base (Tick seat at ∷ past) a (if test then Some track else None)
      by_test true recent = kept_by_tick site base a past seat at track timed later recent tracks
      by_test false old = swept_by_tick site base a past seat at track timed old tracks

  pub matches_tick : (seat at : ℕ) (book : BookState) → MatchesPast n base book past → clock base past < at → MatchesPast n base (applied_book book (call_of (Tick seat at))) (Tick seat at ∷ past)
  matches_tick seat at book m later = record {
    sound = (later, m.sound);
    moment = refl;
    entries = omega (arith, m.entries);
    rising = rising_filter (λ track. nat_le (at - track.heard) 60000) book.tracks m.rising;
    each = λ a. rw (find_filter a (λ track. nat_le (at - track.heard) 60000) book.tracks m.rising) (after_tick book.site seat at a (find_track a book.tracks) (timed_sound n base past m.sound) later (m.each a));
    first_frames = refl;
  }

  -- the track of an address has that address
  address_of_found : (site : Site) (a : ℕ) (kept : Option Track) → TracksAt site base past a kept → (unwrap_or kept (blank a)).address ≡ a
  address_of_found site a None absent = refl
  address_of_found site a (Some track) tracks = tracks.address

  -- the track that a frame of the address leaves
  abbrev pub track_after : Site → Frame → ℕ → List Track → Track
  track_after site frame a tracks = updated_track site (clock base past) (fields_of frame) (unwrap_or (find_track a tracks) (blank a))

  module _ (site : Site) (seat : ℕ) (frame : Frame) (claim : Claim) (tracks : List Track) (is : claim_of frame ≡ Ok claim) (each : (b : ℕ) → TracksAt site base past b (find_track b tracks)) where
    own_track : Tracks site base (Heard seat frame ∷ past) claim.address (track_after site frame claim.address tracks)
    own_track =
        let own : speaks_for claim.address frame ≡ true = rw is (grind (arith, nat_tests)) in
        heard_of_own site base claim.address past seat frame own (find_track claim.address tracks) (each claim.address)

    by_test : (b : ℕ) (test : Bool) → (claim.address == b) ≡ test → TracksAt site base (Heard seat frame ∷ past) b (if test then Some (track_after site frame claim.address tracks) else find_track b tracks)
    by_test b true same = subst (λ x. Tracks site base (Heard seat frame ∷ past) x (track_after site frame claim.address tracks)) (eqb-true claim.address b same) own_track
    by_test b false other =
        let not_own : speaks_for b frame ≡ false = rw is other in
        unchanged_by_other site base b past seat frame not_own (find_track b tracks) (each b)

    -- the track of each aircraft after the frame
    pub after_frame : (b : ℕ) → TracksAt site base (Heard seat frame ∷ past) b (find_track b (with_claimed site (clock base past) frame (Ok claim) tracks))
    after_frame b = rw (find_put_as claim.address b (track_after site frame claim.address tracks) tracks (address_of_found site claim.address (find_track claim.address tracks) (each claim.address))) (by_test b (claim.address == b) refl)

  pub matches_frame : (seat : ℕ) (frame : Frame) (claim : Result Claim CheckFault) (book : BookState) → claim_of frame ≡ claim → ClaimFits n base past claim → MatchesPast n base book past → MatchesPast n base (applied_book book (call_of (Heard seat frame))) (Heard seat frame ∷ past)
  matches_frame seat frame (Err fault) book is fit m = elim fit [ ]
  matches_frame seat frame (Ok claim) book is fit m = record {
    sound = (rw is fit, m.sound);
    moment = m.moment;
    entries = omega (arith, m.entries);
    rising = rw is (rising_put _ book.tracks m.rising);
    each = λ b. rw (is, m.moment) (after_frame book.site seat frame claim book.tracks is m.each b);
    first_frames = rw (is, m.first_frames) (sym (first_heard_next seat frame past));
  }

  -- one more entry that fits
  pub matches_applied : (entry : Entry) (book : BookState) → Fits n base past entry → MatchesPast n base book past → MatchesPast n base (applied_book book (call_of entry)) (entry ∷ past)
  matches_applied (Tick seat at) book fit m = matches_tick seat at book m fit
  matches_applied (Heard seat frame) book fit m = matches_frame seat frame (claim_of frame) book refl fit m

-- the same for a list with the oldest entry first
pub matches_push : (n base : ℕ) (entries : List Entry) (entry : Entry) (book : BookState) → Fits n base (reverse entries) entry → Matches n base book entries → Matches n base (applied_book book (call_of entry)) (entries ++ entry ∷ [])
matches_push n base entries entry book fit m = rw (reverse-append entries (entry ∷ [])) (matches_applied n base (reverse entries) entry book fit m)
