-- Frames with zeros before them, 16 bytes in all.
use Rattle.std.proofs.Common.{◌≡◌, ◌≢◌, ℕ, ◌+◌, ◌-◌, ◌*◌, ◌%◌, ◌^◌, ◌≤◌, Bool, true, false, cond, not, ◌&&◌, List, [], ◌∷◌, ◌++◌, length, map, replicate, take, drop, get_or, nat_eq, nat_lt, w8, refl, sym, ap, ◌∙◌, arith, if◌then◌else◌}
use Rattle.std.specs.Cmp.Lexicographic.{pointwise}
use Rattle.std.specs.Simd.Lanes.{mask_l, top, zip2}
use Rattle.std.proofs.Math.Seq.{drop-append_seam}
use Rattle.std.proofs.lemmas.Bool.Decides.{nat_tests}
use Rattle.std.proofs.lemmas.List.{get_or_append_left, get_or-append_right, get_or-replicate, length-append, length-replicate, take_all}
use Rattle.std.proofs.lemmas.Simd.{length-zip2, mask_l-mod, tops_compared}
use Rattle.std.proofs.lemmas.Slice.Eq.{bytes_eq-Decides}
use Rattle.modes_frame.specs.Frames.{IsFrame, byte_bits, df_of}
use Rattle.modes_frame.proofs.FormatLemmas.{format-first}
use Rattle.station_journal.proofs.Common.{Frame, same_frame}
use Rattle.station_book.specs.Digests.{digest_of}

-- the bytes with zeros before them, 16 in all
abbrev pub padded_of : Frame → List ℕ
padded_of frame = replicate (16 - length frame) 0 ++ frame

few_bytes : (frame : Frame) → IsFrame frame → (7 ≤ length frame) × (length frame ≤ 14)
few_bytes frame is = by_test (nat_lt (df_of frame) 16) is
  where
    by_test : (test : Bool) → length frame ≡ (if test then 7 else 14) → (7 ≤ length frame) × (length frame ≤ 14)
    by_test true size = (omega (arith, size), omega (arith, size))
    by_test false size = (omega (arith, size), omega (arith, size))

-- the last bytes are at fixed places
padded_at : (frame : Frame) (i j : ℕ) → length frame ≤ 14 → 16 ≤ i + length frame → i + length frame ≡ j + 16 → get_or (padded_of frame) i 0 ≡ get_or frame j 0
padded_at frame i j few late same =
    let zeros : length (replicate {A = ℕ} (16 - length frame) 0) ≡ 16 - length frame = length-replicate {A = ℕ} (16 - length frame) 0 in
    get_or-append_right (replicate (16 - length frame) 0) frame (16 - length frame) i 0 zeros (omega (arith, late)) ∙ ap (λ k. get_or frame k 0) (omega (arith, few, late, same))

-- so are the three of the digest
pub padded_digest : (frame : Frame) → IsFrame frame → get_or (padded_of frame) 13 0 * 65536 + get_or (padded_of frame) 14 0 * 256 + get_or (padded_of frame) 15 0 ≡ digest_of frame
padded_digest frame is =
    let few = few_bytes frame is in
    let high = padded_at frame 13 (length frame - 3) few.1 (omega (arith, few.0)) (omega (arith, few.0)) in
    let middle = padded_at frame 14 (length frame - 2) few.1 (omega (arith, few.0)) (omega (arith, few.0)) in
    let low = padded_at frame 15 (length frame - 1) few.1 (omega (arith, few.0)) (omega (arith, few.0)) in
    rw (high, middle, low) refl

-- ---- the same frame

zero_format : df_of (0 ∷ []) ≡ 0
unfolding df_of byte_bits
zero_format = refl

-- a short frame has a 0 where a long one begins
short_begins : (frame : Frame) → length frame ≡ 7 → get_or (padded_of frame) 2 0 ≡ 0
short_begins frame size =
    let zeros : length (replicate {A = ℕ} (16 - length frame) 0) ≡ 16 - length frame = length-replicate {A = ℕ} (16 - length frame) 0 in
    get_or_append_left (replicate (16 - length frame) 0) frame 0 2 (omega (arith, size, zeros)) ∙ get_or-replicate (16 - length frame) 2 0 0 (omega (arith, size))

-- and a long one doesn't begin with 0
long_begins : (frame : Frame) → length frame ≡ 14 → IsFrame frame → get_or (padded_of frame) 2 0 ≢ 0
long_begins frame size is none =
    let first : get_or frame 0 0 ≡ 0 = sym (padded_at frame 2 0 (omega (arith, size)) (omega (arith, size)) (omega (arith, size))) ∙ none in
    let format : df_of frame ≡ 0 = format-first frame ∙ ap (λ b. df_of (b ∷ [])) first ∙ zero_format in
    let short : length frame ≡ 7 = is ∙ ap (λ df. if nat_lt df 16 then 7 else 14) format in
    omega (arith, size, short)

same_length : (frame other : Frame) → IsFrame frame → IsFrame other → padded_of frame ≡ padded_of other → length frame ≡ length other
same_length frame other is other_is same = by_tests (nat_lt (df_of frame) 16) (nat_lt (df_of other) 16) is other_is
  where
    by_tests : (test other_test : Bool) → length frame ≡ (if test then 7 else 14) → length other ≡ (if other_test then 7 else 14) → length frame ≡ length other
    by_tests true true size other_size = size ∙ sym other_size
    by_tests true false size other_size = absurd (long_begins other other_size other_is (ap (λ p. get_or p 2 0) (sym same) ∙ short_begins frame size))
    by_tests false true size other_size = absurd (long_begins frame size is (ap (λ p. get_or p 2 0) same ∙ short_begins other other_size))
    by_tests false false size other_size = size ∙ sym other_size

unpadded : (frame : Frame) → drop (16 - length frame) (padded_of frame) ≡ frame
unpadded frame = ap (λ n. drop n (padded_of frame)) (sym (length-replicate {A = ℕ} (16 - length frame) 0)) ∙ drop-append_seam (replicate (16 - length frame) 0) frame

same_padded : (frame other : Frame) → IsFrame frame → IsFrame other → padded_of frame ≡ padded_of other → frame ≡ other
same_padded frame other is other_is same =
    sym (unpadded frame) ∙ ap (λ n. drop (16 - n) (padded_of frame)) (same_length frame other is other_is same) ∙ ap (drop (16 - length other)) same ∙ unpadded other

same_test : (one other : Bool) → (one ≡ true → other ≡ true) → (other ≡ true → one ≡ true) → one ≡ other
same_test true true there back = refl
same_test true false there back = sym (there refl)
same_test false true there back = back refl
same_test false false there back = refl

same_by_padded : (frame other : Frame) → IsFrame frame → IsFrame other → pointwise nat_eq (padded_of frame) (padded_of other) ≡ same_frame frame other
same_by_padded frame other is other_is =
    same_test (pointwise nat_eq (padded_of frame) (padded_of other)) (same_frame frame other)
    (λ same. (bytes_eq-Decides frame other).1 (same_padded frame other is other_is ((bytes_eq-Decides (padded_of frame) (padded_of other)).0 same)))
    (λ same. (bytes_eq-Decides (padded_of frame) (padded_of other)).1 (ap padded_of ((bytes_eq-Decides frame other).0 same)))

-- ---- in lanes

abbrev differ : ℕ → ℕ → Bool
differ x y = not (nat_eq x y)

doubled_zero : (m : ℕ) → nat_eq (0 + 2 * m) 0 ≡ nat_eq m 0
doubled_zero m = grind (arith, nat_tests)

odd_nonzero : (m : ℕ) → nat_eq (1 + 2 * m) 0 ≡ false
odd_nonzero m = grind (arith, nat_tests)

-- no bit is set where the lanes are the same
none_differs : (xs ys : List ℕ) → length xs ≡ length ys → nat_eq (mask_l (zip2 differ xs ys)) 0 ≡ pointwise nat_eq xs ys
none_differs [] [] size = refl
none_differs [] (y ∷ ys) size = absurd (omega (arith, size))
none_differs (x ∷ xs) [] size = absurd (omega (arith, size))
none_differs (x ∷ xs) (y ∷ ys) size = by_test (nat_eq x y) (none_differs xs ys (omega (arith, size)))
  where
    by_test : (test : Bool) → nat_eq (mask_l (zip2 differ xs ys)) 0 ≡ pointwise nat_eq xs ys → nat_eq (cond (not test) 1 0 + 2 * mask_l (zip2 differ xs ys)) 0 ≡ (test && pointwise nat_eq xs ys)
    by_test true rest = doubled_zero (mask_l (zip2 differ xs ys)) ∙ rest
    by_test false rest = odd_nonzero (mask_l (zip2 differ xs ys))

size_of : (frame : Frame) → IsFrame frame → length (padded_of frame) ≡ 16
size_of frame is =
    let zeros : length (replicate {A = ℕ} (16 - length frame) 0) ≡ 16 - length frame = length-replicate {A = ℕ} (16 - length frame) 0 in
    let few = few_bytes frame is in
    length-append (replicate (16 - length frame) 0) frame ∙ omega (arith, zeros, few.1)

-- the comparison of both frames' lanes
pub same_by_lanes : (frame other padded other_padded : Frame) → IsFrame frame → IsFrame other → padded ≡ padded_of frame → other_padded ≡ padded_of other
    → nat_eq (mask_l (map (top 7) (zip2 (λ x y. cond (differ x y) 255 0) (take 16 padded) (take 16 other_padded))) % 2 ^ 64) 0 ≡ same_frame frame other
same_by_lanes frame other padded other_padded is other_is is_padded other_is_padded =
    let lanes : take 16 padded ≡ padded_of frame = ap (take 16) is_padded ∙ take_all 16 (padded_of frame) (omega (arith, size_of frame is)) in
    let other_lanes : take 16 other_padded ≡ padded_of other = ap (take 16) other_is_padded ∙ take_all 16 (padded_of other) (omega (arith, size_of other other_is)) in
    let size : length (padded_of frame) ≡ length (padded_of other) = size_of frame is ∙ sym (size_of other other_is) in
    let bits = zip2 differ (padded_of frame) (padded_of other) in
    let few : length bits ≤ 64 = omega (arith, length-zip2 differ (padded_of frame) (padded_of other) size, size_of frame is) in
    rw (lanes, other_lanes)
    (ap (λ bs. nat_eq (mask_l bs % 2 ^ 64) 0) (tops_compared w8 differ (padded_of frame) (padded_of other))
    ∙ ap (λ m. nat_eq m 0) (mask_l-mod bits 64 few)
    ∙ none_differs (padded_of frame) (padded_of other) size
    ∙ same_by_padded frame other is other_is)
