-- The bytes of several reads.
use Rattle.std.proofs.Common.{◌≡◌, ℕ, ◌+◌, ◌<◌, ◌≤◌, not, nat_lt, List, ◌++◌, length, take, Ok, refl, ◌∙◌, arith, take-add}
use Rattle.std.proofs.lemmas.Bool.Decides.{nat_tests}
use Rattle.std.proofs.lemmas.List.{take_at, drop_at, take-append-le, length-take-le}
use borrow.Rule.Slice.PartMut.{put_mid, post_of}
use Rattle.streams.specs.Source.{is_end}

-- the front of a list, once the part behind it was written
pub grown : (xs ys : List ℕ) (end k n : ℕ) → end ≤ length xs → n ≤ length ys → take (end + n) (put_mid end k xs ys) ≡ take end xs ++ take n ys
grown xs ys end k n within fits =
    let front = length-take-le end xs within in
    let after = ys ++ post_of end k xs in
    take-add end n (take end xs ++ after)
    ∙ (rw (take_at (take end xs) after end front, drop_at (take end xs) after end front, take-append-le n ys (post_of end k xs) fits) refl)

-- a read that had room found the end where it gave nothing
pub some_given : (E : Type 0) (n room : ℕ) → 0 < room → not (is_end {E = E} (Ok n) room) ≡ nat_lt 0 n
some_given E n room e = grind (arith, nat_tests)
