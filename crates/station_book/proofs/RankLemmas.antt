-- What is at the rank of an address among rising tracks, and what an edit there does.
use Rattle.std.proofs.Common.{◌≡◌, ℕ, zero, suc, ◌<◌, ◌≤◌, ◌≢◌, List, [], ◌∷◌, length, map, get_or, ltb, true, false, set, drop, None, Some, is_some, Ok, Err, refl, ap, sym, subst, ◌∙◌, arith, slice_get, unwrap_or}
use Rattle.std.specs.List.{insert, refill}
use Rattle.std.proofs.lemmas.Option.{slice_get-get_or}
use Rattle.modes_fields.specs.declared.fields.Fields.{Fields}
use Rattle.std.specs.List.Sorted.{IsPartitionPoint}
use Rattle.std.proofs.Math.Seq.{take-append_seam}
use Rattle.std.proofs.lemmas.Bool.Decides.{nat_tests}
use Rattle.std.proofs.lemmas.List.{length-map}
use Rattle.station_journal.specs.Rising.{AllOver, IsRising}
use Rattle.station_journal.proofs.Common.{Site, blank, updated_track}
use Rattle.station_journal.specs.declared.tracks.Track.{Track}
use Rattle.station_book.proofs.Common.{find_track, put_track, track_or_blank, address_of, Rising, IsRank, StandsAt, with_track}
use Rattle.station_book.proofs.TrackLemmas.{find_below, found_address}

-- a slice that is written back whole
pub refill_same : (xs ws : List Track) → length ws ≡ length xs → refill (length xs) xs ws ≡ ws
refill_same xs ws e = rw (← e) (take-append_seam ws (drop (length ws) xs))

rank_tail : (x : ℕ) (xs : List ℕ) (a i : ℕ) → IsRank (x ∷ xs) a (suc i) → IsRank xs a i
rank_tail x xs a i r = record {
  in_range = omega (arith, r.in_range);
  before = λ k d lt. r.before (suc k) d (omega arith);
  after = λ d lt. r.after d (omega arith);
}

-- a put at the rank of a track of the same address writes over it
pub set_is_put : (t : Track) (xs : List Track) (i d : ℕ) → IsRank (map address_of xs) t.address i → i < length xs → get_or (map address_of xs) i d ≡ t.address → set xs i t ≡ put_track t xs
set_is_put t [] i d r lt same = absurd (omega arith)
set_is_put t (x ∷ xs) zero d r lt same = grind (arith, nat_tests)
set_is_put t (x ∷ xs) (suc i) d r lt same = grind (arith, nat_tests, r.before 0 d (omega arith), set_is_put t xs i d (rank_tail x.address (map address_of xs) t.address i r) (omega arith) same)

-- a put at a rank without such a track inserts there
pub insert_is_put : (t : Track) (xs : List Track) (i d : ℕ) → IsRank (map address_of xs) t.address i → (i < length xs → get_or (map address_of xs) i d ≢ t.address) → insert xs i t ≡ put_track t xs
insert_is_put t [] zero d r gap = refl
insert_is_put t [] (suc i) d r gap = absurd (omega (arith, r.in_range))
insert_is_put t (x ∷ xs) zero d r gap = grind (arith, nat_tests, r.after d (omega arith), gap (omega arith))
insert_is_put t (x ∷ xs) (suc i) d r gap = grind (arith, nat_tests, r.before 0 d (omega arith), insert_is_put t xs i d (rank_tail x.address (map address_of xs) t.address i r) (λ lt. gap (omega arith)))

-- a track of the address at its rank is found
find_at_rank : (a : ℕ) (xs : List Track) (i d : ℕ) → IsRank (map address_of xs) a i → i < length xs → get_or (map address_of xs) i d ≡ a → slice_get xs i ≡ find_track a xs
find_at_rank a [] i d r lt same = absurd (omega arith)
find_at_rank a (x ∷ xs) zero d r lt same = grind (arith, nat_tests)
find_at_rank a (x ∷ xs) (suc i) d r lt same = grind (arith, nat_tests, r.before 0 d (omega arith), find_at_rank a xs i d (rank_tail x.address (map address_of xs) a i r) (omega arith) same)

-- where the rank has another address or none, nothing is found
find_at_gap : (a : ℕ) (xs : List Track) (i d : ℕ) → Rising xs → IsRank (map address_of xs) a i → (i < length xs → get_or (map address_of xs) i d ≢ a) → find_track a xs ≡ None
find_at_gap a [] i d up r gap = refl
find_at_gap a (x ∷ xs) zero d up r gap = grind (arith, nat_tests, r.after d (omega arith), gap (omega arith), find_below a x.address xs up.0)
find_at_gap a (x ∷ xs) (suc i) d up r gap = grind (arith, nat_tests, r.before 0 d (omega arith), find_at_gap a xs i d up.1 (rank_tail x.address (map address_of xs) a i r) (λ lt. gap (omega arith)))

-- the place of an address that has a track at its rank
pub place_at_rank : (a : ℕ) (xs : List Track) (i d : ℕ) → IsRank (map address_of xs) a i → i < length (map address_of xs) → get_or (map address_of xs) i d ≡ a → StandsAt xs a (Ok i)
place_at_rank a xs i d r lt same =
    let within : i < length xs = omega (arith, length-map xs address_of) in
    (within, find_at_rank a xs i d r within same, λ t is. set_is_put t xs i d (subst (λ x. IsRank (map address_of xs) x i) (sym is) r) within (same ∙ sym is))

-- the place of an address that has none there
pub place_at_gap : (a : ℕ) (xs : List Track) (i d : ℕ) → Rising xs → IsRank (map address_of xs) a i → (i < length (map address_of xs) → get_or (map address_of xs) i d ≢ a) → StandsAt xs a (Err i)
place_at_gap a xs i d up r gap =
    let gap' : i < length xs → get_or (map address_of xs) i d ≢ a = λ lt. gap (omega (arith, length-map xs address_of)) in
    let bound : i ≤ length xs = omega (arith, length-map xs address_of, r.in_range) in
    (bound, find_at_gap a xs i d up r gap', λ t is. insert_is_put t xs i d (subst (λ x. IsRank (map address_of xs) x i) (sym is) r) (λ lt same. gap' lt (same ∙ is)))

over_at : (b : ℕ) (xs : List ℕ) (k d : ℕ) → AllOver b xs → k < length xs → b < get_or xs k d
over_at b [] k d up lt = absurd (omega arith)
over_at b (x ∷ xs) zero d up lt = up.0
over_at b (x ∷ xs) (suc k) d up lt = over_at b xs k d up.1 (omega arith)

-- rising addresses, in terms of places
pub rising_at : (xs : List ℕ) → IsRising xs → (i j d : ℕ) → i ≤ j → j < length xs → get_or xs i d ≤ get_or xs j d
rising_at [] up i j d le lt = absurd (omega arith)
rising_at (x ∷ xs) up zero zero d le lt = omega arith
rising_at (x ∷ xs) up zero (suc j) d le lt = let above : x < get_or xs j d = over_at x xs j d up.0 (omega arith) in omega arith
rising_at (x ∷ xs) up (suc i) zero d le lt = absurd (omega arith)
rising_at (x ∷ xs) up (suc i) (suc j) d le lt = rising_at xs up.1 i j d (omega arith) (omega arith)

-- the place of an address among rising ones is its rank
below_at : (xs : List ℕ) → IsRising xs → (k i d e : ℕ) → k < i → i < length xs → get_or xs k d < get_or xs i e
below_at [] up k i d e lt within = absurd (omega arith)
below_at (x ∷ xs) up k zero d e lt within = absurd (omega arith)
below_at (x ∷ xs) up zero (suc i) d e lt within = over_at x xs i e up.0 (omega arith)
below_at (x ∷ xs) up (suc k) (suc i) d e lt within = below_at xs up.1 k i d e (omega arith) (omega arith)

same_within : (xs : List ℕ) (i d e : ℕ) → i < length xs → get_or xs i d ≡ get_or xs i e
same_within [] i d e within = absurd (omega arith)
same_within (x ∷ xs) zero d e within = refl
same_within (x ∷ xs) (suc i) d e within = same_within xs i d e (omega arith)

pub rank_where_it_stands : (xs : List ℕ) (a i d : ℕ) → IsRising xs → i < length xs → get_or xs i d ≡ a → IsRank xs a i
rank_where_it_stands xs a i d up within same = record {
  in_range = omega (arith, within);
  before = λ k e lt. let below : get_or xs k e < get_or xs i d = below_at xs up k i e d lt within in omega (arith, same);
  after = λ e lt. let here : get_or xs i e ≡ get_or xs i d = same_within xs i e d within in omega (arith, same);
}

-- a binary search finds the rank
pub rank_from_point : (xs : List ℕ) (a i : ℕ) → i ≤ length xs → IsPartitionPoint (λ x. ltb x a ≡ true) (λ x. ltb x a ≡ false) xs i → IsRank xs a i
rank_from_point xs a i le point = record {
  in_range = le;
  before = λ k d lt. let test : ltb (get_or xs k d) a ≡ true = point.0 k d (omega arith) lt in grind (arith, nat_tests);
  after = λ d lt. let test : ltb (get_or xs i d) a ≡ false = point.1 i d (omega arith) lt in grind (arith, nat_tests);
}

-- the addresses after an edit of the tracks
pub map_set : (t : Track) (xs : List Track) (i : ℕ) (d : Track) → i < length xs → (get_or xs i d).address ≡ t.address → map address_of (set xs i t) ≡ map address_of xs
map_set t [] i d lt same = absurd (omega arith)
map_set t (x ∷ xs) zero d lt same = ap (λ a. a ∷ map address_of xs) (sym same)
map_set t (x ∷ xs) (suc i) d lt same = ap (λ rest. x.address ∷ rest) (map_set t xs i d (omega arith) same)

pub map_insert : (t : Track) (xs : List Track) (i : ℕ) → map address_of (insert xs i t) ≡ insert (map address_of xs) i t.address
map_insert t [] zero = refl
map_insert t [] (suc i) = refl
map_insert t (x ∷ xs) zero = refl
map_insert t (x ∷ xs) (suc i) = ap (λ rest. x.address ∷ rest) (map_insert t xs i)

-- an update of the track at its place is a put of the updated track
pub update_there : (site : Site) (a i now : ℕ) (fields : Fields) (xs : List Track) (d : Track) → StandsAt xs a (Ok i) → set xs i (updated_track site now fields (get_or xs i d)) ≡ put_track (updated_track site now fields (track_or_blank a xs)) xs
update_there site a i now fields xs d place =
    let stood : get_or xs i d ≡ track_or_blank a xs = ap (λ o. unwrap_or o (blank a)) (sym (slice_get-get_or xs i d place.0) ∙ place.1) in
    let address : (updated_track site now fields (get_or xs i d)).address ≡ a = ap address_of stood ∙ found_address a xs in
    place.2 (updated_track site now fields (get_or xs i d)) address ∙ ap (λ t. put_track (updated_track site now fields t) xs) stood

-- the track at the place of an address has that address
pub stands_there : (a i : ℕ) (xs : List Track) (d : Track) → StandsAt xs a (Ok i) → (get_or xs i d).address ≡ a
stands_there a i xs d place = ap (λ o. (unwrap_or o (blank a)).address) (sym (slice_get-get_or xs i d place.0) ∙ place.1) ∙ found_address a xs

-- a copy over the track at its place is a put
pub copy_there : (n i : ℕ) (t : Track) (xs : List Track) → StandsAt xs t.address (Ok i) → set xs i t ≡ with_track n (Some t) xs
copy_there n i t xs place =
    let known : is_some (find_track t.address xs) ≡ true = ap is_some (sym place.1 ∙ slice_get-get_or xs i t place.0) in
    rw known (place.2 t refl)
