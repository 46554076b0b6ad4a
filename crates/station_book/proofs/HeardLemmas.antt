-- Times before which no track was heard.
use Rattle.std.proofs.Common.{◌≡◌, ℕ, ◌-◌, ◌≤◌, List, [], ◌∷◌, ◌++◌, refl, arith}
use Rattle.std.proofs.lemmas.Bool.Decides.{nat_tests}
use Rattle.station_journal.specs.declared.tracks.Track.{Track}
use Rattle.station_book.proofs.Common.{put_track, tracks_left, HeardFrom}

pub heard_earlier : (early late : ℕ) (tracks : List Track) → early ≤ late → HeardFrom late tracks → HeardFrom early tracks
heard_earlier early late [] le heard = tt
heard_earlier early late (track ∷ rest) le heard = (omega (arith, heard.0), heard_earlier early late rest le heard.1)

pub heard_put : (moment : ℕ) (track : Track) (tracks : List Track) → moment ≤ track.heard → HeardFrom moment tracks → HeardFrom moment (put_track track tracks)
heard_put moment track [] le heard = (le, tt)
heard_put moment track (other ∷ rest) le heard = grind (arith, nat_tests, heard_put moment track rest le heard.1)

pub heard_append : (moment : ℕ) (track : Track) (tracks : List Track) → moment ≤ track.heard → HeardFrom moment tracks → HeardFrom moment (tracks ++ track ∷ [])
heard_append moment track [] le heard = (le, tt)
heard_append moment track (other ∷ rest) le heard = (heard.0, heard_append moment track rest le heard.1)

-- a sweep drops nothing where no track is old
pub none_swept : (moment now : ℕ) (tracks : List Track) → now - moment ≤ 60000 → HeardFrom moment tracks → tracks_left now tracks ≡ tracks
none_swept moment now [] recent heard = refl
none_swept moment now (track ∷ rest) recent heard = grind (arith, nat_tests, heard.0, none_swept moment now rest recent heard.1)
