use Rattle.std.proofs.Common.{◌≡◌, ℕ, ◌+◌, ◌-◌, ◌*◌, ◌%◌, ◌≤◌, ◌++◌, List, drop, take, map, length, get_or, bit_or, refl, ap, sym, ◌∙◌, subst, inl, inr, w8}
use Rattle.std.specs.List.{range_with_len}
use Rattle.std.specs.Simd.Lanes.{chunk}
use Rattle.std.proofs.lemmas.Simd.{swz_l}
use borrow.Rule.Simd.Moves.{SwzOk}
use borrow.Rule.Slice.PartMut.{mid_of}
use Rattle.modes_frame.specs.Kept.{with_zeros}
use Rattle.modes_frame.specs.declared.digits.TheConstants.{PLACES}
use Rattle.modes_frame.proofs.LaneLemmas.{OfLength, merged, merged-is, of_length, small-values, zero_or_one}
use Rattle.modes_frame.proofs.digits.paired.Goals as goal

pub swizzle : goal.swizzle
swizzle c =
    let P : ℕ → Type 0 = λ n. SwzOk w8 16 16 0 (chunk 0 16 (mid_of {X = ℕ} (16 * n) (32 - 16 * n) PLACES)) in
    elim (zero_or_one c.args.longer c.requires.one) [
      | inl is ↦ subst P (sym is) search
      | inr is ↦ subst P (sym is) search
    ]

-- the bytes of all pairs, of which those of a frame are taken
abbrev pairs : List ℕ → List ℕ
pairs values = map (λ k. bit_or (get_or values (2 * k) 0 * 16 % 256) (get_or values (2 * k + 1) 0)) (range_with_len 0 16)

abbrev Placed : ℕ → List ℕ → List ℕ → Type 0
Placed n front back =
    swz_l w8 16 (pairs (front ++ back)) 0 (chunk 0 16 (mid_of {X = ℕ} (16 * n) (32 - 16 * n) PLACES)) ≡ with_zeros (merged (drop (14 - 14 * n) (take 14 front ++ take 14 back)))

placed-short : OfLength 16 (λ front. OfLength 16 (λ back. Placed 0 front back))
placed-short = λ a b c d e f g h i j k l m n o p a' b' c' d' e' f' g' h' i' j' k' l' m' n' o' p'. refl

placed-long : OfLength 16 (λ front. OfLength 16 (λ back. Placed 1 front back))
placed-long = λ a b c d e f g h i j k l m n o p a' b' c' d' e' f' g' h' i' j' k' l' m' n' o' p'. refl

placed : (n : ℕ) → n ≤ 1 → (front back : List ℕ) → length front ≡ 16 → length back ≡ 16 → Placed n front back
placed n le front back size_front size_back =
    elim (zero_or_one n le) [
      | inl is ↦ subst (λ k. Placed k front back) (sym is) (of_length 16 (Placed 0 front) (of_length 16 (λ xs. OfLength 16 (Placed 0 xs)) placed-short front size_front) back size_back)
      | inr is ↦ subst (λ k. Placed k front back) (sym is) (of_length 16 (Placed 1 front) (of_length 16 (λ xs. OfLength 16 (Placed 1 xs)) placed-long front size_front) back size_back)
    ]

pub returns : goal.returns
returns c =
    placed c.args.longer c.requires.one c.args.front c.args.back c.fits-front.0 c.fits-back.0
    ∙ ap with_zeros (merged-is _ (small-values c.args.longer c.requires.one c.args.front c.args.back c.fits-front.0 c.requires.front c.requires.back))
