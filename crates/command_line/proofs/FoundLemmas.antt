-- Which elements of a list a search and a filter find.
use Rattle.std.proofs.Common.{◌≡◌, ◌∙◌, ◌⊎◌, inl, inr, Bool, true, false, List, [], ◌∷◌, Some, IfSome, All, refl, sym, ap, subst, cond, filter, find}
use Rattle.std.proofs.lemmas.Bool.{and_parts}
use Rattle.std.proofs.lemmas.List.Elements.{All-head, All-tail}
use Rattle.std.proofs.lemmas.Option.{IfSome_then}
use Rattle.std.specs.List.{list_all}

-- one of the elements is this one
abbrev pub Among : {X : Type 0} → X → List X → Type 0
Among a [] = ⊥
Among a (x ∷ xs) = (x ≡ a) ⊎ Among a xs

module _ {X : Type 0} (test : X → Bool) where
  found_step : (x : X) (xs : List X) (b : Bool) → test x ≡ b → IfSome (find test xs) (λ a. Among a xs × (test a ≡ true))
      → IfSome (cond b (Some x) (find test xs)) (λ a. Among a (x ∷ xs) × (test a ≡ true))
  found_step x xs true is rest = (inl refl, is)
  found_step x xs false is rest = IfSome_then (find test xs) rest (λ a there. (inr there.0, there.1))

  -- a search finds an element that passes its test
  pub found : (xs : List X) → IfSome (find test xs) (λ a. Among a xs × (test a ≡ true))
  found [] = tt
  found (x ∷ xs) = found_step x xs (test x) refl (found xs)

  kept_step : (b : Bool) (x a : X) (xs : List X) → Among a xs → Among a (cond b (x ∷ xs) xs)
  kept_step true x a xs there = inr there
  kept_step false x a xs there = there

  -- a filter keeps what passes its test
  pub filtered : (xs : List X) (a : X) → Among a xs → test a ≡ true → Among a (filter test xs)
  filtered [] a none passes = absurd none
  filtered (x ∷ xs) a (inl same) passes = subst (λ b. Among a (cond b (x ∷ filter test xs) (filter test xs))) (sym (ap test same ∙ passes)) (inl same)
  filtered (x ∷ xs) a (inr there) passes = kept_step (test x) x a (filter test xs) (filtered xs a there passes)

  -- if each element passes, one among them does
  pub passes_among : (xs : List X) (a : X) → list_all test xs ≡ true → Among a xs → test a ≡ true
  passes_among [] a all none = absurd none
  passes_among (x ∷ xs) a all (inl same) = subst (λ y. test y ≡ true) same (and_parts (test x) (list_all test xs) all).0
  passes_among (x ∷ xs) a all (inr there) = passes_among xs a (and_parts (test x) (list_all test xs) all).1 there

-- what is true of each element is true of one among them
pub all_among : {X : Type 0} (P : X → Type 0) (xs : List X) (a : X) → All P xs → Among a xs → P a
all_among P [] a all none = absurd none
all_among P (x ∷ xs) a all (inl same) = subst P same (All-head P x xs all)
all_among P (x ∷ xs) a all (inr there) = all_among P xs a (All-tail P x xs all) there
