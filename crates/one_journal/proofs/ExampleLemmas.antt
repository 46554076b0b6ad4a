-- The example of a merge, and what isn't one.
use Rattle.std.proofs.Common.{◌≡◌, ◌∙◌, ℕ, zero, suc, List, [], ◌∷◌, ◌++◌, Some, Ok, Err, append-nil, drop, refl, sym, ap, subst, arith, Bool, cond, true, false, eqb, ◌≢◌, ⊎_elim}
use Rattle.std.proofs.lemmas.Bool.Decides.{eqb_tells}
use Rattle.station_journal.specs.declared.entry.Entry.{Entry}
use Rattle.station_journal.specs.declared.entry.Entry.TheVariants.{Tick, Heard}
use Rattle.station_journal.specs.declared.refusal.Refusal.TheVariants.{Repeated}
use Rattle.station_journal.specs.Log.{refusal_of}
use Rattle.station_history.specs.Start.{Start, log_of}
use Rattle.station_shared.specs.Seats.{own_entries, seat_of}
use Rattle.one_journal.specs.Example.{IsWorked, swapped_deeds, worked_deeds, worked_history}
use Rattle.one_journal.specs.Merge.{Called, DoesIn, IsMerge, accepted_in, entries_of_seat}
use Rattle.one_journal.proofs.MergeLemmas.{calls-decided}

all-own : (start : Start) (es : List Entry) → start.resumed ≡ 0 → own_entries start es ≡ es
all-own start es new = ap {B = List Entry} (λ (n : ℕ). drop n es) new

its-own : (start : Start) (seat : ℕ) (es before : List Entry) → start.resumed ≡ 0 → entries_of_seat seat es ≡ before → entries_of_seat seat (own_entries start es) ≡ before
its-own start seat es before new is = ap (entries_of_seat seat) (all-own start es new) ∙ is

not-of : (seat : ℕ) (e : Entry) (es : List Entry) → seat_of e ≢ seat → entries_of_seat seat (e ∷ es) ≡ entries_of_seat seat es
not-of seat e es other =
    ⊎_elim
    (λ (t : (eqb (seat_of e) seat ≡ true) × (seat_of e ≡ seat)). absurd (other t.1))
    (λ (t : (eqb (seat_of e) seat ≡ false) × (seat_of e ≢ seat)). ap {B = List Entry} (λ (b : Bool). cond b (e ∷ entries_of_seat seat es) (entries_of_seat seat es)) t.0)
    (eqb_tells (seat_of e) seat)

module _ (start : Start) (f g : List ℕ) (worked : IsWorked start f g) where
  abbrev history : List Entry
  history = worked_history f g

  beyond : (n : ℕ) → entries_of_seat (suc (suc (suc n))) history ≡ []
  beyond n =
      not-of (suc (suc (suc n))) (Heard 0 f) (Tick 2 5 ∷ Heard 1 g ∷ []) (λ same. omega (arith, same))
      ∙ not-of (suc (suc (suc n))) (Tick 2 5) (Heard 1 g ∷ []) (λ same. omega (arith, same))
      ∙ not-of (suc (suc (suc n))) (Heard 1 g) [] (λ same. omega (arith, same))

  each : (seat : ℕ) → entries_of_seat seat (own_entries start history) ≡ accepted_in (worked_deeds f g seat)
  each zero = its-own start 0 history _ worked.new refl
  each (suc zero) = its-own start 1 history _ worked.new refl
  each (suc (suc zero)) = its-own start 2 history _ worked.new refl
  each (suc (suc (suc n))) = its-own start (suc (suc (suc n))) history [] worked.new (beyond n)

  decided : (seat : ℕ) → DoesIn start history seat [] [] (worked_deeds f g seat)
  decided zero = ([], record { begins = (history, refl); later = ([], refl); its_own = its-own start 0 [] [] worked.new refl }, worked.first, (Tick 2 5 ∷ Heard 1 g ∷ [], refl))
  decided (suc zero) = (
    Heard 0 f ∷ [],
    record { begins = (Tick 2 5 ∷ Heard 1 g ∷ [], refl); later = (Heard 0 f ∷ [], refl); its_own = its-own start 1 (Heard 0 f ∷ []) [] worked.new refl },
    worked.again,
    (
      Heard 0 f ∷ Tick 2 5 ∷ [],
      record { begins = (Heard 1 g ∷ [], refl); later = (Tick 2 5 ∷ [], refl); its_own = its-own start 1 (Heard 0 f ∷ Tick 2 5 ∷ []) [] worked.new refl },
      worked.other,
      ([], refl),
    ),
  )
  decided (suc (suc zero)) = (
    Heard 0 f ∷ [],
    record { begins = (Tick 2 5 ∷ Heard 1 g ∷ [], refl); later = (Heard 0 f ∷ [], refl); its_own = its-own start 2 (Heard 0 f ∷ []) [] worked.new refl },
    worked.tick,
    (
      record { begins = (Heard 1 g ∷ [], refl); later = ([], refl); its_own = its-own start 2 (Heard 0 f ∷ Tick 2 5 ∷ []) (Tick 2 5 ∷ []) worked.new refl },
      (Heard 1 g ∷ [], refl),
    ),
  )
  decided (suc (suc (suc n))) = (history, refl)

  pub worked-merge : IsMerge start [] history (worked_deeds f g)
  worked-merge = record { legal = worked.legal; begins = sym (all-own start history worked.new); each = each; decided = decided }

  -- ---- what isn't one

  pub none-lost : IsMerge start [] (Heard 0 f ∷ Tick 2 5 ∷ []) (worked_deeds f g) → ⊥
  none-lost merge = absurd (cc (sym (its-own start 1 (Heard 0 f ∷ Tick 2 5 ∷ []) [] worked.new refl) ∙ merge.each 1))

  pub none-twice : IsMerge start [] (Heard 0 f ∷ Heard 0 f ∷ Tick 2 5 ∷ Heard 1 g ∷ []) (worked_deeds f g) → ⊥
  none-twice merge = absurd (cc (sym (its-own start 0 (Heard 0 f ∷ Heard 0 f ∷ Tick 2 5 ∷ Heard 1 g ∷ []) (Heard 0 f ∷ Heard 0 f ∷ []) worked.new refl) ∙ merge.each 0))

  pub none-refused : IsMerge start [] (Heard 0 f ∷ Heard 1 f ∷ Tick 2 5 ∷ Heard 1 g ∷ []) (worked_deeds f g) → ⊥
  none-refused merge = absurd (cc (sym (its-own start 1 (Heard 0 f ∷ Heard 1 f ∷ Tick 2 5 ∷ Heard 1 g ∷ []) (Heard 1 f ∷ Heard 1 g ∷ []) worked.new refl) ∙ merge.each 1))

  -- ---- the order of a seat's calls

  whole : (at rest : List Entry) → at ++ rest ≡ history → entries_of_seat 1 at ≡ Heard 1 g ∷ [] → at ≡ history
  whole [] rest is own = absurd (cc own)
  whole (a ∷ []) rest is own = let first : a ≡ Heard 0 f = cc is in absurd (cc (subst (λ (e : Entry). entries_of_seat 1 (e ∷ []) ≡ Heard 1 g ∷ []) first own))
  whole (a ∷ b ∷ []) rest is own =
      let first : a ≡ Heard 0 f = cc is in
      let second : b ≡ Tick 2 5 = cc is in
      absurd (cc (subst (λ (e : Entry). entries_of_seat 1 (Heard 0 f ∷ e ∷ []) ≡ Heard 1 g ∷ []) second (subst (λ (e : Entry). entries_of_seat 1 (e ∷ b ∷ []) ≡ Heard 1 g ∷ []) first own)))
  whole (a ∷ b ∷ c ∷ []) rest is own = cc is
  whole (a ∷ b ∷ c ∷ d ∷ at) rest is own = absurd (cc is)

  -- seat 1 heard f again after g only where that is refused after g too
  pub order-counts : IsMerge start [] history (swapped_deeds f g) → refusal_of (log_of start history) (Heard 1 f) ≡ Some Repeated
  order-counts merge =
      let there = calls-decided start [] history (swapped_deeds f g) merge 1 (Called (Heard 1 g) (Ok tt) ∷ []) [] (Heard 1 f) (Err Repeated) refl in
      let at = there.0 in
      let own : entries_of_seat 1 at ≡ Heard 1 g ∷ [] = ap (entries_of_seat 1) (sym (all-own start at worked.new)) ∙ there.3 in
      let all = whole at there.1.0 (ap (λ (es : List Entry). es ++ there.1.0) (sym (append-nil at)) ∙ there.1.1) own in
      subst (λ (es : List Entry). refusal_of (log_of start es) (Heard 1 f) ≡ Some Repeated) all there.2
