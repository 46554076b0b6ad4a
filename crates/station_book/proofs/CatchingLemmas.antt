-- A book that copies what a call changed equals the one that applied the call.
use Rattle.std.proofs.Common.{◌≡◌, ℕ, Bool, true, false, if◌then◌else◌, List, [], ◌∷◌, ◌++◌, length, Option, Some, Result, Ok, Err, refl, ◌∙◌, subst, arith, nat_lt, not, ◌&&◌}
use Rattle.modes_frame.specs.Claims.{claim_of, is_unassigned}
use Rattle.std.proofs.lemmas.Bool.Decides.{nat_tests}
use Rattle.std.proofs.lemmas.List.{append-nil, drop-append-le, drop_all}
use Rattle.modes_frame.specs.declared.claims.Claim.{Claim}
use Rattle.modes_frame.specs.declared.claims.CheckFault.{CheckFault}
use Rattle.station_journal.proofs.Common.{updated_track, Frame, most_looked_at, with_heard}
use Rattle.station_journal.specs.declared.tracks.Track.{Track as Kept}
use Rattle.station_book.proofs.Common.{Call, Tick, Heard, claim_change, change_of, BookState, applied_book, caught_up, claim_fits, fits, with_frame_ahead, find_track, put_track, track_or_blank, with_track, has_place}
use Rattle.station_book.specs.declared.call.Change.{Change}
use Rattle.station_book.specs.declared.call.Change.TheVariants.{Clock, Track}
use Rattle.modes_fields.specs.Carried.{fields_of}
use Rattle.station_book.proofs.TrackLemmas.{find_put_as, found_address}

place_from_fit : (unassigned place : Bool) → not unassigned && place ≡ true → place ≡ true
place_from_fit true place fit = cc
place_from_fit false place fit = fit

-- a copy of the track that was put gives the same tracks
copied : (n a : ℕ) (track : Kept) (tracks : List Kept) → track.address ≡ a → has_place n a tracks ≡ true →
    with_track n (find_track a (put_track track tracks)) tracks ≡ put_track track tracks
copied n a track tracks named place =
    let found : find_track a (put_track track tracks) ≡ Some track = find_put_as a a track tracks named ∙ grind (arith, nat_tests) in
    rw (found, named, place) refl

-- a copy of the frame that was added gives the same frames, and of none where there were 256
frame_copied : (frame : Frame) (frames : List Frame) → with_frame_ahead (with_heard frame frames) frames ≡ with_heard frame frames
frame_copied frame frames = by_room (nat_lt (length frames) most_looked_at) refl
  where
    by_room : (room : Bool) → nat_lt (length frames) most_looked_at ≡ room → with_frame_ahead (if room then frames ++ frame ∷ [] else frames) frames ≡ (if room then frames ++ frame ∷ [] else frames)
    by_room true is = rw (drop-append-le (length frames) frames (frame ∷ []) (omega arith), drop_all (length frames) frames (omega arith)) refl
    by_room false is = rw (drop_all (length frames) frames (omega arith)) (append-nil frames)

-- what a call that fits changes, and that its copy gives the book that applied the call
Brings : ℕ → BookState → Call → Option Change → Type 0
Brings n book call found = (change : Change) × (found ≡ Some change) × (caught_up n (applied_book book call) change book ≡ applied_book book call)

by_claim : (n : ℕ) (book : BookState) (frame : Frame) (claim : Result Claim CheckFault) → claim_of frame ≡ claim → claim_fits n book claim ≡ true →
    Brings n book (Heard frame) (claim_change claim)
unfolding Brings
by_claim n book frame (Err fault) is fit = cc
by_claim n book frame (Ok claim) is fit =
    let a = claim.address in
    let place = place_from_fit (is_unassigned a) _ fit in
    let tracks = copied n a (updated_track book.site book.moment (fields_of frame) (track_or_blank a book.tracks)) book.tracks (found_address a book.tracks) place in
    (Track a, refl, rw (is, tracks, frame_copied frame book.first_frames) refl)

pub brings : (n : ℕ) (book : BookState) (call : Call) → fits n book call ≡ true →
    (change : Change) × (change_of call ≡ Some change) × (caught_up n (applied_book book call) change book ≡ applied_book book call)
unfolding Brings
brings n book (Tick at) fit = (Clock, refl, refl)
brings n book (Heard frame) fit = by_claim n book frame (claim_of frame) refl fit

-- the book that copies a change equals the one that applied the call
pub catches_up : (n : ℕ) (book : BookState) (call : Call) (change : Change) → fits n book call ≡ true → change_of call ≡ Some change →
    caught_up n (applied_book book call) change book ≡ applied_book book call
catches_up n book call change fit is =
    let found = brings n book call fit in
    let same : found.0 ≡ change = cc (found.1, is) in
    subst (λ c. caught_up n (applied_book book call) c book ≡ applied_book book call) same found.2
