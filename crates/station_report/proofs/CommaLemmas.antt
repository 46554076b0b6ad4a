-- Texts with commas between them, taken one at a time.
use Rattle.std.proofs.Common.{◌≡◌, ℕ, zero, suc, ◌+◌, ◌≤◌, List, [], ◌∷◌, ◌++◌, Some, codes, if◌then◌else◌, sym, refl, ap, ◌∙◌, take, drop, length, append_assoc, append-nil, take-append-drop, add-one, take_all, arith, slice_get, ◌==◌, zip, flat_map, ne_eqb}
use Rattle.std.proofs.lemmas.Grind.{flat_map-append}
use Rattle.station_report.specs.Json.{with_commas}
use Rattle.station_report.proofs.RowLemmas.{one_more}

module _ {X : Type 0} (f : X → List ℕ) where
  abbrev behind_comma : X → List ℕ
  behind_comma x = codes "," ++ f x

  -- the text at place i, behind a comma if it isn't the first
  abbrev pub text_at : ℕ → X → List ℕ
  text_at i x = (if i == 0 then [] else codes ",") ++ f x

  pub one_text_more : (xs : List X) (i : ℕ) (x : X) → slice_get xs i ≡ Some x → with_commas f (take i xs) ++ text_at i x ≡ with_commas f (take (i + 1) xs)
  one_text_more [] i x e = cc
  one_text_more (x0 ∷ ys) zero x e =
      let same : x ≡ x0 = cc in
      ap f same ∙ sym (append-nil (f x0))
  one_text_more (x0 ∷ ys) (suc j) x e =
      ap (λ c. (f x0 ++ flat_map behind_comma (take j ys)) ++ ((if c then [] else codes ",") ++ f x)) (ne_eqb (suc j) 0 (λ n. omega arith))
      ∙ one_more behind_comma (f x0) ys j x e
      ∙ ap (λ n. f x0 ++ flat_map behind_comma (take n ys)) (add-one j)
      ∙ ap (λ n. with_commas f (take n (x0 ∷ ys))) (sym (add-one (suc j)))

  first_and_rest : (n : ℕ) (xs : List X) → with_commas f xs ≡ with_commas f (take (suc n) xs) ++ flat_map behind_comma (drop (suc n) xs)
  first_and_rest n [] = refl
  first_and_rest n (x ∷ xs) =
      ap (λ ys. f x ++ flat_map behind_comma ys) (sym (take-append-drop n xs))
      ∙ ap (λ l. f x ++ l) (flat_map-append behind_comma (take n xs) (drop n xs))
      ∙ sym (append_assoc (f x) (flat_map behind_comma (take n xs)) (flat_map behind_comma (drop n xs)))

  regrouped : (front a b r foot : List ℕ) → front ++ ((a ++ b) ++ r) ++ foot ≡ ((front ++ a) ++ b) ++ (r ++ foot)
  regrouped front a b r foot = simp append_assoc

  -- what comes after the text at place i
  abbrev pub after : List X → ℕ → List ℕ → List ℕ
  after xs i foot = flat_map behind_comma (drop (suc i) xs) ++ foot

  pub texts_and_the_rest : (front foot : List ℕ) (xs : List X) (i : ℕ) (x : X) → slice_get xs i ≡ Some x → front ++ with_commas f xs ++ foot ≡ ((front ++ with_commas f (take i xs)) ++ text_at i x) ++ after xs i foot
  texts_and_the_rest front foot xs i x at =
      ap (λ w. front ++ w ++ foot) (first_and_rest i xs)
      ∙ ap (λ n. front ++ (with_commas f (take n xs) ++ flat_map behind_comma (drop (suc i) xs)) ++ foot) (sym (add-one i))
      ∙ ap (λ w. front ++ (w ++ flat_map behind_comma (drop (suc i) xs)) ++ foot) (sym (one_text_more xs i x at))
      ∙ regrouped front (with_commas f (take i xs)) (text_at i x) (flat_map behind_comma (drop (suc i) xs)) foot

-- ---- rows with their times

module _ {A B : Type 0} where
  pub zip_at : (xs : List A) (ys : List B) (i : ℕ) (x : A) (y : B) → slice_get xs i ≡ Some x → slice_get ys i ≡ Some y → slice_get (zip xs ys) i ≡ Some (x, y)
  zip_at [] ys i x y p q = cc
  zip_at (a ∷ more) [] i x y p q = cc
  zip_at (a ∷ more) (b ∷ others) zero x y p q = cc
  zip_at (a ∷ more) (b ∷ others) (suc i) x y p q = zip_at more others i x y p q

  length-zip : (xs : List A) (ys : List B) → length (zip xs ys) ≤ length xs
  length-zip [] ys = omega arith
  length-zip (a ∷ more) [] = omega arith
  length-zip (a ∷ more) (b ∷ others) = let rest = length-zip more others in omega arith

  pub all_taken : (xs : List A) (ys : List B) (i : ℕ) → length xs ≤ i → take i (zip xs ys) ≡ zip xs ys
  all_taken xs ys i h = take_all i (zip xs ys) (omega (arith, length-zip xs ys))
