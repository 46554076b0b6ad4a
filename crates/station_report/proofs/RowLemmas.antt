-- The lines of the rows, taken one at a time.
use Rattle.std.proofs.Common.{◌≡◌, ℕ, ◌+◌, List, [], ◌∷◌, ◌++◌, Some, sym, ap, ◌∙◌, subst, take, drop, append_assoc, take-append-drop, flat_map, slice_get, All}
use Rattle.std.proofs.lemmas.List.{flat_map_more, take_more}
use Rattle.std.proofs.lemmas.Grind.{flat_map-append}
use Rattle.std.proofs.lemmas.Option.{get_or_from_slice_get, slice_get_within}

module _ {X : Type 0} (f : X → List ℕ) (front : List ℕ) (xs : List X) (i : ℕ) (x : X) (at : slice_get xs i ≡ Some x) where
  take_next : take (i + 1) xs ≡ take i xs ++ x ∷ []
  take_next = take_more xs i x (slice_get_within xs i x at) ∙ ap (λ y. take i xs ++ y ∷ []) (get_or_from_slice_get xs i x x at)

  -- the lines up to here and the next one are the lines up to the next
  pub one_more : (front ++ flat_map f (take i xs)) ++ f x ≡ front ++ flat_map f (take (i + 1) xs)
  one_more = flat_map_more f front (take i xs) x ∙ ap (λ ys. front ++ flat_map f ys) (sym take_next)

  -- all lines are those up to the next and those after it
  pub and_the_rest : front ++ flat_map f xs ≡ ((front ++ flat_map f (take i xs)) ++ f x) ++ flat_map f (drop (i + 1) xs)
  and_the_rest =
      ap (λ ys. front ++ flat_map f ys) (sym (take-append-drop (i + 1) xs))
      ∙ ap (λ ys. front ++ ys) (flat_map-append f (take (i + 1) xs) (drop (i + 1) xs))
      ∙ sym (append_assoc front (flat_map f (take (i + 1) xs)) (flat_map f (drop (i + 1) xs)))
      ∙ ap (λ ys. ys ++ flat_map f (drop (i + 1) xs)) (sym one_more)

-- a fact about each element holds of the element at place i
pub All_at : {X : Type 0} (P : X → Type 0) (xs : List X) (i : ℕ) (x : X) → All P xs → slice_get xs i ≡ Some x → P x
All_at P xs i x all at = subst P (get_or_from_slice_get xs i x x at) (all i x (slice_get_within xs i x at))
