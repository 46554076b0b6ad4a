-- What hints and digests say of the kept frames.
use Rattle.std.proofs.Common.{◌≡◌, ◌≢◌, ℕ, ◌+◌, ◌%◌, ◌<◌, Bool, true, false, ◌&&◌, ◌||◌, List, [], ◌∷◌, ◌++◌, length, map, take, set, get_or, nat_lt, refl, sym, ap, ◌∙◌, arith, ◌==◌, nat_eq, eq-eqb, eqb-true, true≢false}
use Rattle.std.specs.List.{list_any}
use Rattle.std.proofs.lemmas.Bool.Decides.{nat_tests}
use Rattle.std.proofs.lemmas.List.{get_or-set_same, get_or-set_other, get_or-map}
use Rattle.std.proofs.lemmas.List.Folds.{list_any_more}
use Rattle.std.proofs.lemmas.Slice.Eq.{bytes_eq-Decides}
use Rattle.station_journal.proofs.Common.{Frame, same_frame, is_one_of}
use Rattle.station_book.specs.Digests.{digest_of, Hinted}

-- equal frames have the same digest
same_digest : (frame other : Frame) → same_frame frame other ≡ true → digest_of frame ≡ digest_of other
same_digest frame other same = ap digest_of ((bytes_eq-Decides frame other).0 same)

-- where the hint is 0, the frame isn't one of them
pub absent_by_hint : (hints : List ℕ) (frame : Frame) (frames : List Frame) → get_or hints (digest_of frame % 8192) 0 ≡ 0 → Hinted hints frames → is_one_of frames frame ≡ false
absent_by_hint hints frame [] none hinted = refl
absent_by_hint hints frame (other ∷ rest) none hinted = by_test (same_frame frame other) refl (absent_by_hint hints frame rest none hinted.1)
  where
    by_test : (test : Bool) → same_frame frame other ≡ test → is_one_of rest frame ≡ false → (test || is_one_of rest frame) ≡ false
    by_test true same absent =
        let there : 0 < get_or hints (digest_of frame % 8192) 0 = rw (same_digest frame other same) hinted.0 in
        absurd (omega (arith, there, none))
    by_test false same absent = absent

-- the hints stay right when another is set
hinted_at : (hints : List ℕ) (i hint j : ℕ) → 0 < hint → i < length hints → 0 < get_or hints j 0 → 0 < get_or (set hints i hint) j 0
hinted_at hints i hint j some within before = by_test (j == i) refl
  where
    by_test : (test : Bool) → (j == i) ≡ test → 0 < get_or (set hints i hint) j 0
    by_test true same = rw (eqb-true j i same, get_or-set_same hints i hint 0 within) some
    by_test false other = rw (get_or-set_other hints i j hint 0 (grind (arith, nat_tests))) before

hinted_set : (hints : List ℕ) (i hint : ℕ) (frames : List Frame) → 0 < hint → i < length hints → Hinted hints frames → Hinted (set hints i hint) frames
hinted_set hints i hint [] some within hinted = tt
hinted_set hints i hint (frame ∷ rest) some within hinted =
    (hinted_at hints i hint (digest_of frame % 8192) some within hinted.0, hinted_set hints i hint rest some within hinted.1)

hinted_append : (hints : List ℕ) (frame : Frame) (frames : List Frame) → 0 < get_or hints (digest_of frame % 8192) 0 → Hinted hints frames → Hinted hints (frames ++ frame ∷ [])
hinted_append hints frame [] there hinted = (there, tt)
hinted_append hints frame (other ∷ rest) there hinted = (hinted.0, hinted_append hints frame rest there hinted.1)

-- the hints stay right when a frame is added with its own
pub hinted_push : (hints : List ℕ) (hint : ℕ) (frame : Frame) (frames : List Frame) → 0 < hint → digest_of frame % 8192 < length hints → Hinted hints frames → Hinted (set hints (digest_of frame % 8192) hint) (frames ++ frame ∷ [])
hinted_push hints hint frame frames some within hinted =
    let i = digest_of frame % 8192 in
    hinted_append (set hints i hint) frame frames (rw (get_or-set_same hints i hint 0 within) some) (hinted_set hints i hint frames some within hinted)

-- a frame that isn't at a place differs from the one there
pub other_at : (frame : Frame) (frames : List Frame) (place : ℕ) → place < length frames → (nat_lt place (length frames) && same_frame frame (get_or frames place [])) ≡ false → same_frame frame (get_or frames place []) ≡ false
other_at frame frames place within absent = grind (arith, nat_tests)

-- frames with different digests differ
pub other_by_digest : (frame : Frame) (frames : List Frame) (place d : ℕ) → place < length frames → get_or (map digest_of frames) place d ≢ digest_of frame → same_frame frame (get_or frames place []) ≡ false
other_by_digest frame frames place d within other = by_test (same_frame frame (get_or frames place [])) refl
  where
    by_test : (test : Bool) → same_frame frame (get_or frames place []) ≡ test → test ≡ false
    by_test true same = absurd (other (get_or-map digest_of frames place [] d within ∙ sym (same_digest frame (get_or frames place []) same)))
    by_test false same = refl

-- where no frame has the digest, the frame isn't one of them
pub absent_by_digest : (frame : Frame) (frames : List Frame) (d : ℕ) → d ≡ digest_of frame → list_any (nat_eq d) (map digest_of frames) ≡ false → is_one_of frames frame ≡ false
absent_by_digest frame [] d is none = refl
absent_by_digest frame (other ∷ rest) d is none = by_tests (nat_eq d (digest_of other)) (same_frame frame other) refl refl (absent_by_digest frame rest d is) none
  where
    by_tests : (digest same : Bool) → nat_eq d (digest_of other) ≡ digest → same_frame frame other ≡ same → (list_any (nat_eq d) (map digest_of rest) ≡ false → is_one_of rest frame ≡ false) → (digest || list_any (nat_eq d) (map digest_of rest)) ≡ false → (same || is_one_of rest frame) ≡ false
    by_tests true same test is_same later none = absurd (true≢false none)
    by_tests false true test is_same later none = absurd (true≢false (sym (eq-eqb d (digest_of other) (is ∙ same_digest frame other is_same)) ∙ test))
    by_tests false false test is_same later none = later none

-- one more place where the frame isn't
pub passed : (frame : Frame) (frames : List Frame) (place : ℕ) → place < length frames → same_frame frame (get_or frames place []) ≡ false → list_any (same_frame frame) (take place frames) ≡ false → list_any (same_frame frame) (take (place + 1) frames) ≡ false
passed frame frames place within other before = rw (list_any_more (same_frame frame) frames place [] within, before, other) refl
