-- The paths of a round that weren't read to their ends.
use Rattle.std.proofs.Common.{◌≡◌, ◌∙◌, ◌∷◌, ◌++◌, ◌<◌, ◌≤◌, ℕ, zero, suc, Bool, true, false, List, [], Option, None, Some, ◌⊎◌, inl, inr, append_assoc, append-nil, arith, ap, cond, map, max, nat_eq, refl, subst, sym, flat_map}
use Rattle.std.proofs.lemmas.Bool.Decides.{nat_tests}
use Rattle.std.proofs.lemmas.Grind.{flat_map-append}
use Rattle.std.specs.Io.KnownBytes.{Appends}
use Rattle.std.proofs.KnownBytes.{Appends-nil}
use Rattle.streams.specs.Source.{SourceState}
use Rattle.station_portions.specs.Giving.{left_of, state_of}
use Rattle.station_portions.specs.Whole.{GivesPath}
use Rattle.station_portions.specs.declared.message.PathEnd.{PathEnd}
use Rattle.station_portions.specs.declared.message.PathEnd.TheVariants.{ReadFailed}
use Rattle.station_portions.specs.declared.portions.Portions.{Portions}
use Rattle.messages.specs.Telling.{unfinished_words}
use Rattle.messages.proofs.Common.{Tells, Told, telling_line, unfinished_lines}
use Rattle.station_paths.proofs.Common.{GaveAllBut, IsFinished, IsUnfinished, unfinished_status}
use Rattle.std.proofs.lemmas.Option.{same_Some}
use Rattle.messages.proofs.TellLemmas.{tells_both}

-- ---- what is printed

none-by : (b : Bool) (xs : List ℕ) → xs ≡ [] → cond b xs [] ≡ []
none-by true xs none = none
none-by false xs none = refl

more-by : (b : Bool) (xs ys : List ℕ) → cond b (xs ++ ys) [] ≡ cond b xs [] ++ cond b ys []
more-by true xs ys = refl
more-by false xs ys = refl

abbrev line : List ℕ → List ℕ
line path = telling_line (unfinished_words path)

lines-more : (before : ℕ) (paths : List (List ℕ)) (path : List ℕ) → unfinished_lines before (paths ++ path ∷ []) ≡ unfinished_lines before paths ++ unfinished_lines before (path ∷ [])
lines-more before paths path =
    ap (λ l. cond (nat_eq before 0) l []) (flat_map-append line paths (path ∷ [])) ∙ more-by (nat_eq before 0) (flat_map line paths) (flat_map line (path ∷ []))

pub tells-nothing : (a : Told) (text : List ℕ) → text ≡ [] → Tells a a text
tells-nothing a text none = record { told = λ well. (well, subst (λ t. Appends a.taken a.taken t) (sym none) (Appends-nil a.taken)) }

pub no-lines : (before : ℕ) (paths : List (List ℕ)) → 0 < before → unfinished_lines before paths ≡ []
no-lines before paths some =
    let differs : nat_eq before 0 ≡ false = grind (arith, nat_tests, some) in
    ap (λ b. cond b (flat_map line paths) []) differs

pub one-line : (before : ℕ) (path : List ℕ) → before ≡ 0 → unfinished_lines before (path ∷ []) ≡ telling_line (unfinished_words path)
one-line before path none =
    let same : nat_eq before 0 ≡ true = grind (arith, nat_tests, none) in
    ap (λ b. cond b (line path ++ []) []) same ∙ append-nil (line path)

-- ---- the status

status-most : (paths : List (List ℕ)) → unfinished_status paths ≤ 1
status-most [] = omega arith
status-most (path ∷ paths) = omega arith

status-more : (paths : List (List ℕ)) (path : List ℕ) → unfinished_status (paths ++ path ∷ []) ≡ 1
status-more [] path = refl
status-more (p ∷ paths) path = refl

-- ---- one path

-- why a path is unfinished whose source was looked at
pub unfinished-by : (left : Option (List ℕ)) (own : Option PathEnd) (given : List ℕ) (source : SourceState) (is_over is_at_end : Bool)
    → source.left ≡ left_of own → source.given ≡ Some given → (is_over ≡ true → (e : PathEnd) × (own ≡ Some e) × GivesPath left e given) → (is_over ≡ false → own ≡ None)
    → (is_at_end ≡ false → (own ≡ None) ⊎ (own ≡ Some ReadFailed)) → (is_over ≡ false) ⊎ (is_at_end ≡ false) → IsUnfinished left source
unfinished-by left own given source is_over is_at_end left_is given_is path going other (inl going_on) = inl (left_is ∙ ap left_of (going going_on))
unfinished-by left own given source false is_at_end left_is given_is path going other (inr not_so) = inl (left_is ∙ ap left_of (going refl))
unfinished-by left own given source true is_at_end left_is given_is path going other (inr not_so) = elim (other not_so) [
  | inl none ↦ inl (left_is ∙ ap left_of none)
  | inr failed ↦
      let all = path refl in
      let same : all.0 ≡ ReadFailed = same_Some _ _ (sym all.1 ∙ failed) in
      inr (record {
        given = given;
        given_is = given_is;
        over = left_is ∙ ap left_of failed;
        path = subst (λ e. GivesPath left e given) same all.2;
      })
]

-- ---- one path after another

module _ {T R : Type 0} (stopped : Bool) (name : T → List ℕ) (left : T → Option (List ℕ)) where
  -- these are unfinished, of paths with such threads and sources
  abbrev pub AllBut : List T → List (Portions R) → List (List ℕ) → Type 0
  AllBut threads inputs unfinished = GaveAllBut stopped (map name threads) (map left threads) (map state_of inputs) unfinished

  all-but : (threads ts : List T) (t : T) (inputs is : List (Portions R)) (i : Portions R) (unfinished : List (List ℕ)) → threads ≡ t ∷ ts → inputs ≡ i ∷ is
      → AllBut (t ∷ ts) (i ∷ is) unfinished → AllBut threads inputs unfinished
  all-but threads ts t inputs is i unfinished threads_split split all =
      subst (λ l. AllBut l inputs unfinished) (sym threads_split) (subst (λ l. AllBut (t ∷ ts) l unfinished) (sym split) all)

  -- the unfinished paths so far, and all of them once those to come are known
  pub record EndsSoFar (all_threads threads : List T) (all_inputs inputs : List (Portions R)) (before : ℕ) (err_old err_new : Told) (status : ℕ) : Type 0 where
    pub unfinished : List (List ℕ)
    pub told : Tells err_old err_new (unfinished_lines before unfinished)
    pub status_is : status ≡ max before (unfinished_status unfinished)
    pub all : (later : List (List ℕ)) → AllBut threads inputs later → AllBut all_threads all_inputs (unfinished ++ later)

  pub ends-none : (threads : List T) (inputs : List (Portions R)) (before : ℕ) (err : Told) → EndsSoFar threads threads inputs inputs before err err before
  ends-none threads inputs before err = record {
    unfinished = [];
    told = tells-nothing err (unfinished_lines before []) (none-by (nat_eq before 0) (flat_map line []) refl);
    status_is = omega arith;
    all = λ later is. is;
  }

  pub ends-more : (all_threads threads ts : List T) (t : T) (all_inputs inputs is : List (Portions R)) (i : Portions R) (before : ℕ) (a b c : Told) (status one new : ℕ)
      → threads ≡ t ∷ ts → inputs ≡ i ∷ is → before ≤ 1 → one ≤ 1
      → (one ≡ 0 → IsFinished stopped (left t) (state_of i) × (c ≡ b)) → (one ≡ 1 → IsUnfinished (left t) (state_of i)) → (one ≡ 1 → Tells b c (unfinished_lines before (name t ∷ []))) → new ≡ max status one
      → EndsSoFar all_threads threads all_inputs inputs before a b status → EndsSoFar all_threads ts all_inputs is before a c new
  ends-more all_threads threads ts t all_inputs inputs is i before a b c status zero new threads_split split few most whole why told new_is so_far = record {
    unfinished = so_far.unfinished;
    told = subst (λ e. Tells a e (unfinished_lines before so_far.unfinished)) (sym (whole refl).1) so_far.told;
    status_is = omega (arith, new_is, so_far.status_is);
    all = λ later rest. so_far.all later (all-but threads ts t inputs is i later threads_split split (inl ((whole refl).0, rest)));
  }
  ends-more all_threads threads ts t all_inputs inputs is i before a b c status (suc zero) new threads_split split few most whole why told new_is so_far = record {
    unfinished = so_far.unfinished ++ name t ∷ [];
    told = subst (Tells a c) (sym (lines-more before so_far.unfinished (name t)))
        (tells_both a b c (unfinished_lines before so_far.unfinished) (unfinished_lines before (name t ∷ [])) so_far.told (told refl));
    status_is = omega (arith, new_is, so_far.status_is, status-most so_far.unfinished, status-more so_far.unfinished (name t), few);
    all = λ later rest. subst (AllBut all_threads all_inputs) (sym (append_assoc so_far.unfinished (name t ∷ []) later))
        (so_far.all (name t ∷ later) (all-but threads ts t inputs is i (name t ∷ later) threads_split split (inr (later, refl, why refl, rest))));
  }
  ends-more all_threads threads ts t all_inputs inputs is i before a b c status (suc (suc one)) new threads_split split few most whole why told new_is so_far = absurd (omega (arith, most))

  -- no path is to come
  pub ends-all : (all_threads threads : List T) (all_inputs inputs : List (Portions R)) (before : ℕ) (a b : Told) (status : ℕ) → threads ≡ [] → inputs ≡ []
      → (so_far : EndsSoFar all_threads threads all_inputs inputs before a b status) → AllBut all_threads all_inputs so_far.unfinished
  ends-all all_threads threads all_inputs inputs before a b status none no_inputs so_far =
      let nothing : AllBut [] [] [] = refl in
      subst (AllBut all_threads all_inputs) (append-nil so_far.unfinished)
      (so_far.all [] (subst (λ l. AllBut l inputs []) (sym none) (subst (λ l. AllBut [] l []) (sym no_inputs) nothing)))
