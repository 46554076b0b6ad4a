-- The tracks by rising address: what is found once one is put in its place or some are swept.
use Rattle.std.proofs.Common.{◌≡◌, ℕ, ◌<◌, ◌≤◌, Bool, true, false, if◌then◌else◌, List, [], ◌∷◌, Option, Some, None, refl, subst, arith, ◌==◌, filter, unwrap_or, eqb-true}
use Rattle.std.proofs.lemmas.Bool.Decides.{nat_tests}
use Rattle.station_journal.proofs.Common.{blank}
use Rattle.station_journal.specs.declared.tracks.Track.{Track}
use Rattle.station_book.proofs.Common.{find_track, put_track, track_or_blank, AllAbove, Rising}

-- the track, if it passes the test
abbrev pub keep_if : (Track → Bool) → Option Track → Option Track
keep_if test None = None
keep_if test (Some track) = if test track then Some track else None

-- a track that was put is found, and nothing else changes
pub find_put : (a : ℕ) (track : Track) (tracks : List Track) → find_track a (put_track track tracks) ≡ (if track.address == a then Some track else find_track a tracks)
find_put a track [] = refl
find_put a track (other ∷ rest) = grind (arith, nat_tests, find_put a track rest)

-- the same with the address as a variable
pub find_put_as : (a b : ℕ) (track : Track) (tracks : List Track) → track.address ≡ a → find_track b (put_track track tracks) ≡ (if a == b then Some track else find_track b tracks)
find_put_as a b track tracks e = subst (λ x. find_track b (put_track track tracks) ≡ (if x == b then Some track else find_track b tracks)) e (find_put b track tracks)

-- an address below all others isn't found
pub find_below : (a b : ℕ) (tracks : List Track) → AllAbove b tracks → a ≤ b → find_track a tracks ≡ None
find_below a b [] above le = refl
find_below a b (track ∷ rest) above le = grind (arith, nat_tests, find_below a b rest above.1 le)

above_put : (b : ℕ) (track : Track) (tracks : List Track) → b < track.address → AllAbove b tracks → AllAbove b (put_track track tracks)
above_put b track [] lt above = (lt, tt)
above_put b track (other ∷ rest) lt above = grind (arith, nat_tests, above_put b track rest lt above.1)

above_above : (b c : ℕ) (tracks : List Track) → b ≤ c → AllAbove c tracks → AllAbove b tracks
above_above b c [] le above = tt
above_above b c (track ∷ rest) le above = (omega arith, above_above b c rest le above.1)

pub rising_put : (track : Track) (tracks : List Track) → Rising tracks → Rising (put_track track tracks)
rising_put track [] rising = (tt, tt)
rising_put track (other ∷ rest) rising = grind (arith, nat_tests, rising_put track rest rising.1, above_put other.address track rest, above_above track.address other.address rest)

above_filter : (b : ℕ) (test : Track → Bool) (tracks : List Track) → AllAbove b tracks → AllAbove b (filter test tracks)
above_filter b test [] above = tt
above_filter b test (track ∷ rest) above = elim (test track) as (λ t. AllAbove b (if t then track ∷ filter test rest else filter test rest)) [
  | true ↦ (above.0, above_filter b test rest above.1)
  | false ↦ above_filter b test rest above.1
]

pub rising_filter : (test : Track → Bool) (tracks : List Track) → Rising tracks → Rising (filter test tracks)
rising_filter test [] rising = tt
rising_filter test (track ∷ rest) rising = elim (test track) as (λ t. Rising (if t then track ∷ filter test rest else filter test rest)) [
  | true ↦ (above_filter track.address test rest rising.0, rising_filter test rest rising.1)
  | false ↦ rising_filter test rest rising.1
]

-- in a filtered list exactly the tracks that pass are found
pub find_filter : (a : ℕ) (test : Track → Bool) (tracks : List Track) → Rising tracks → find_track a (filter test tracks) ≡ keep_if test (find_track a tracks)
find_filter a test [] rising = refl
find_filter a test (track ∷ rest) rising = grind (arith, nat_tests, find_filter a test rest rising.1, find_below a track.address rest rising.0)

-- a track that is found has the address
found_address_step : (a : ℕ) (track : Track) (rest : List Track) (test : Bool) → (track.address == a) ≡ test → (track_or_blank a rest).address ≡ a → (unwrap_or (if test then Some track else find_track a rest) (blank a)).address ≡ a
found_address_step a track rest true same before = eqb-true track.address a same
found_address_step a track rest false other before = before

pub found_address : (a : ℕ) (tracks : List Track) → (track_or_blank a tracks).address ≡ a
found_address a [] = refl
found_address a (track ∷ rest) = found_address_step a track rest (track.address == a) refl (found_address a rest)
