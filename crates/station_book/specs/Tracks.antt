-- The tracks of all live aircraft, by rising address.
use Rattle.std.specs.Prelude.{◌≡◌, ℕ, ◌-◌, ◌<◌, Bool, true, ◌==◌, nat_le, nat_lt, if◌then◌else◌, List, [], ◌∷◌, Option, Some, None, Result, Ok, Err, unwrap_or, is_some, filter, length, slice_index_or, ◌≤◌, slice_get, insert, slice_set}
use Rattle.modes_fields.specs.Carried.{fields_of}
use Rattle.modes_frame.specs.declared.claims.Claim.{Claim}
use Rattle.modes_frame.specs.declared.claims.CheckFault.{CheckFault}
use Rattle.station_journal.specs.Past.{Site, Frame, life_ms}
use Rattle.station_journal.specs.Track.{blank, updated_track}
use Rattle.station_journal.specs.declared.tracks.Track.{Track}

-- the track of the address, if there is one
abbrev pub find_track : ℕ → List Track → Option Track
find_track a [] = None
find_track a (track ∷ rest) = if track.address == a then Some track else find_track a rest

-- the tracks with this one in its place by rising address, over the one of that address if there is one
abbrev pub put_track : Track → List Track → List Track
put_track track [] = track ∷ []
put_track track (other ∷ rest) =
    if nat_lt track.address other.address then track ∷ other ∷ rest
    else (if track.address == other.address then track ∷ rest else other ∷ put_track track rest)

-- the tracks heard at most 60,000 ms before now
abbrev pub tracks_left : ℕ → List Track → List Track
tracks_left now tracks = filter (λ track. nat_le (now - track.heard) life_ms) tracks

-- the track of the address, or a blank one
abbrev pub track_or_blank : ℕ → List Track → Track
track_or_blank a tracks = unwrap_or (find_track a tracks) (blank a)

-- the tracks after a frame with this claim, heard at the time now
abbrev pub with_claimed : Site → ℕ → Frame → Result Claim CheckFault → List Track → List Track
with_claimed site now frame (Err fault) tracks = tracks
with_claimed site now frame (Ok claim) tracks = put_track (updated_track site now (fields_of frame) (track_or_blank claim.address tracks)) tracks

-- the address has a track, or there are fewer than n
abbrev pub has_place : ℕ → ℕ → List Track → Bool
has_place n a tracks = if is_some (find_track a tracks) then true else nat_lt (length tracks) n

-- the tracks, at most n, with this one in its place, if there is one for it
abbrev pub with_track : ℕ → Option Track → List Track → List Track
with_track n None tracks = tracks
with_track n (Some track) tracks = if has_place n track.address tracks then put_track track tracks else tracks

-- all addresses are greater than a
abbrev pub AllAbove : ℕ → List Track → Type 0
AllAbove a [] = Unit {0}
AllAbove a (track ∷ rest) = (a < track.address) × AllAbove a rest

-- the addresses rise
abbrev pub Rising : List Track → Type 0
Rising [] = Unit {0}
Rising (track ∷ rest) = AllAbove track.address rest × Rising rest

abbrev pub address_of : Track → ℕ
address_of track = track.address

-- the first i of the rising addresses are below a, and those from i on are not
pub record IsRank (addresses : List ℕ) (a i : ℕ) : Type 0 where
  pub in_range : i ≤ length addresses
  pub before : (k d : ℕ) → k < i → slice_index_or addresses k d < a
  pub after : (d : ℕ) → i < length addresses → a ≤ slice_index_or addresses i d

-- no track was heard before this time
abbrev pub HeardFrom : ℕ → List Track → Type 0
HeardFrom moment [] = Unit {0}
HeardFrom moment (track ∷ rest) = (moment ≤ track.heard) × HeardFrom moment rest

-- Ok: the track of the address is at this place; Err: there is none, and it would be there
abbrev pub StandsAt : List Track → ℕ → Result ℕ ℕ → Type 0
StandsAt tracks a (Ok i) = (i < length tracks) × (slice_get tracks i ≡ find_track a tracks) × ((track : Track) → track.address ≡ a → slice_set tracks i track ≡ put_track track tracks)
StandsAt tracks a (Err i) = (i ≤ length tracks) × (find_track a tracks ≡ None) × ((track : Track) → track.address ≡ a → insert tracks i track ≡ put_track track tracks)
