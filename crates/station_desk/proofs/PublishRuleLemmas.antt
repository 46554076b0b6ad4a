-- Each step keeps the rule over what is published.
use Rattle.std.proofs.Common.{◌≡◌, ◌≢◌, ℕ, List, set, Option, Some, None, refl, sym, ap, ◌∙◌, subst, ⊎_elim, inr, IfSome}
use mathlib.Core.List.{IsPrefix}
use mathlib.Core.Option.{some}
use lib.ListN.{get_elem?}
use Rattle.crossbeam_utils.specs.Register.{Admits, TurnsAt, Turns, Forks, Merges}
use Rattle.atomic_table.proofs.Lists.{at_set, at_snoc, set_again}
use Rattle.station_desk.proofs.Common.{Sheet, IsPublished, IsOfSheet, SawPublished, GoesOn, Follows, mark_of, Mark, Origin}
use Rattle.station_history.proofs.FrontLemmas.{prefix_refl, prefix_trans}

some_mark : (k l : Mark) → Some k ≡ Some l → k ≡ l
some_mark k l e = cc

none_some : {A : Type 0} (k : A) → None ≡ Some k → ⊥
none_some k e = cc

-- who has seen what is published knows its station
seen_is_of : (s : Sheet) (k : Mark) → mark_of s.front s.origin ≡ Some k → IsOfSheet s k
seen_is_of s k e = by s.origin refl e
  where
    by : (origin : Option Origin) → s.origin ≡ origin → mark_of s.front origin ≡ Some k → IsOfSheet s k
    by None is e = absurd (none_some k e)
    by (Some origin) is e =
        let mark : record { front = s.front; origin = origin } ≡ k = some_mark _ k e in
        record {
          name = ap (λ (m : Mark). m.front.name) (sym mark);
          origin = is ∙ ap (λ (m : Mark). Some m.origin) mark;
          begins = subst (λ (m : Mark). IsPrefix m.front.entries s.front.entries) mark (prefix_refl s.front.entries);
        }

-- who knew the station before knows it after
still_of : (n : ℕ) (s t : Sheet) (k : Mark) → Follows n s t → IsOfSheet s k → IsOfSheet t k
still_of n s t k next is = ⊎_elim
    (λ (none : s.origin ≡ None). absurd (none_some k.origin (sym none ∙ is.origin)))
    (λ (on : GoesOn s t). record { name = is.name ∙ sym on.name; origin = on.origin ∙ is.origin; begins = prefix_trans _ _ _ is.begins on.begins })
    next.same

goes_on_same : (s : Sheet) → GoesOn s s
goes_on_same s = record { origin = refl; name = refl; begins = prefix_refl s.front.entries }

module _ {T : Type 0} (n : ℕ) (sheet : T → Sheet) where
  abbrev pub Holds : T → List (Option Mark) → Type 0
  Holds x views = IsPublished n (sheet x) views

  abbrev pub Saw : Option Mark → T → T → Option Mark → Type 0
  Saw v x y w = SawPublished n v (sheet y) w

  pub turns_at : (seat : ℕ) (v : Option Mark) (x y : T) → Follows n (sheet x) (sheet y) → TurnsAt Holds seat v x y Saw
  turns_at seat v x y next views h at = (
    mark_of (sheet y).front (sheet y).origin,
    record {
      right = next.right h.right;
      views = λ j k e. ⊎_elim
          (λ (t : (j ≡ seat) × (mark_of (sheet y).front (sheet y).origin ≡ Some k)). seen_is_of (sheet y) k t.1)
          (λ (t : (j ≢ seat) × (get_elem? views j ≡ some (Some k))). still_of n (sheet x) (sheet y) k next (h.views j k t.1))
          (at_set views seat j (mark_of (sheet y).front (sheet y).origin) (Some k) e);
    },
    record { knows = refl; right = next.right h.right; known = known v at },
  )
    where
      known : (u : Option Mark) → get_elem? views seat ≡ some u → IfSome u (IsOfSheet (sheet y))
      known None e = tt
      known (Some k) e = still_of n (sheet x) (sheet y) k next (h.views seat k e)

  pub enters : (seat : ℕ) (v : Option Mark) → Turns Holds seat v (λ x. x) Saw
  enters seat v x = turns_at seat v x x (record { right = λ r. r; same = inr (goes_on_same (sheet x)) })

  pub admits : Admits Holds None
  admits x views h = record {
    right = h.right;
    views = λ j k e. ⊎_elim (h.views j k) (λ (t : None ≡ Some k). absurd (none_some k t)) (at_snoc views None (Some k) j e);
  }

  pub forks : (seat : ℕ) (v : Option Mark) → Forks Holds seat v v v
  forks seat v x views h at = record {
    right = h.right;
    views = λ j k e. ⊎_elim
        (λ (was : get_elem? (set views seat v) j ≡ some (Some k)). h.views j k (subst (λ (l : List (Option Mark)). get_elem? l j ≡ some (Some k)) (set_again views seat v at) was))
        (λ (t : v ≡ Some k). h.views seat k (at ∙ ap (λ (u : Option Mark). some u) t))
        (at_snoc (set views seat v) v (Some k) j e);
  }

  pub merges : (seat : ℕ) (v : Option Mark) (other : ℕ) (w : Option Mark) → Merges Holds seat v other w w None
  merges seat v other w x views h at apart there =
      let theirs : get_elem? views other ≡ some w = ⊎_elim (λ (t : (other ≡ seat) × (w ≡ w)). absurd (apart t.0)) (λ (t : (other ≢ seat) × (get_elem? views other ≡ some w)). t.1) (at_set views seat other w w there) in
      record {
        right = h.right;
        views = λ j k e. ⊎_elim
            (λ (t : (j ≡ other) × (None ≡ Some k)). absurd (none_some k t.1))
            (λ (t : (j ≢ other) × (get_elem? (set views seat w) j ≡ some (Some k))).
            ⊎_elim (λ (u : (j ≡ seat) × (w ≡ Some k)). h.views other k (theirs ∙ ap (λ (z : Option Mark). some z) u.1))
            (λ (u : (j ≢ seat) × (get_elem? views j ≡ some (Some k))). h.views j k u.1)
            (at_set views seat j w (Some k) t.1))
            (at_set (set views seat w) other j None (Some k) e);
      }
