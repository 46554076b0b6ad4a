-- What a closed journal says of each of its seats.
use Rattle.std.proofs.Common.{◌≡◌, ◌≢◌, ⊎_elim, ℕ, zero, suc, ◌+◌, ◌<◌, ◌≤◌, Bool, true, false, cond, eqb, ltb, List, [], ◌∷◌, ◌++◌, drop, length, refl, sym, ap, ◌∙◌, slice_index_or, arith, count_by, sum}
use Rattle.std.specs.List.{AllByRecursion}
use Rattle.std.proofs.lemmas.Bool.Decides.{eqb_tells}
use Rattle.std.proofs.lemmas.List.Elements.{All-from_recursion, All-get_or}
use Rattle.std.proofs.lemmas.List.Sums.{count_by-le-length, length-filter, sum_by-cons, sum_by_push}
use mathlib.Core.List.{IsPrefix}
use native.Mathlib.Decide.{dec_lt}
use Rattle.station_journal.specs.declared.entry.Entry.{Entry}
use Rattle.station_history.specs.Start.{Start}
use Rattle.station_shared.specs.Closing.{counts_below}
use Rattle.station_shared.specs.Seats.{Seated, count_of_seat, new_seat, own_entries, seat_of}
use Rattle.one_journal.specs.Merge.{Deed, DoesIn, accepted_in, entries_of_seat}
use Rattle.one_journal.proofs.StepLemmas.{Stepped}
use Rattle.one_journal.proofs.WalkLemmas.{does}

-- ---- entries of other seats

abbrev one_if : Bool → ℕ
one_if b = cond b 1 0

below-or-at : (m n : ℕ) → one_if (ltb m (suc n)) ≡ one_if (ltb m n) + one_if (eqb m n)
below-or-at m n = grind (arith)

count-below : (n : ℕ) (es : List Entry) → count_by (λ e. ltb (seat_of e) (suc n)) es ≡ count_by (λ e. ltb (seat_of e) n) es + count_of_seat n es
count-below n [] = refl
count-below n (e ∷ es) =
    omega (
      arith,
      sum_by-cons (λ (x : Entry). one_if (ltb (seat_of x) (suc n))) e es,
      sum_by-cons (λ (x : Entry). one_if (ltb (seat_of x) n)) e es,
      sum_by-cons (λ (x : Entry). one_if (eqb (seat_of x) n)) e es,
      below-or-at (seat_of e) n,
      count-below n es,
    )

none-below-zero : (es : List Entry) → count_by (λ e. ltb (seat_of e) 0) es ≡ 0
none-below-zero [] = refl
none-below-zero (e ∷ es) = omega (arith, sum_by-cons (λ (x : Entry). one_if (ltb (seat_of x) 0)) e es, none-below-zero es, not-below-zero (seat_of e))
  where
    not-below-zero : (m : ℕ) → one_if (ltb m 0) ≡ 0
    not-below-zero m = grind (arith)

sum-below : (n : ℕ) (es : List Entry) → sum (counts_below n es) ≡ count_by (λ e. ltb (seat_of e) n) es
sum-below zero es = sym (none-below-zero es)
sum-below (suc n) es = omega (arith, sum_by_push (λ (m : ℕ). m) (counts_below n es) (count_of_seat n es), sum-below n es, count-below n es)

-- where the counts of the seats below n add up to the length, no other seat has an entry
pub no-other : (n : ℕ) (es : List Entry) → sum (counts_below n es) ≡ length es → (k : ℕ) → n ≤ k → entries_of_seat k es ≡ []
no-other n es all k above = none es (sym (sum-below n es) ∙ all)
  where
    apart : (m : ℕ) → Dec (m < n) → one_if (ltb m n) ≡ 1 → eqb m k ≡ false
    apart m (yes below) is =
        ⊎_elim (λ (t : (eqb m k ≡ true) × (m ≡ k)). absurd (omega (arith, t.1, below, above))) (λ (t : (eqb m k ≡ false) × (m ≢ k)). t.0) (eqb_tells m k)
    apart m (no at_least) is = absurd (at_least (grind (arith, is)))

    none : (es : List Entry) → count_by (λ e. ltb (seat_of e) n) es ≡ length es → entries_of_seat k es ≡ []
    none [] many = refl
    none (e ∷ es) many =
        let first = sum_by-cons (λ (x : Entry). one_if (ltb (seat_of x) n)) e es in
        let rest = count_by-le-length (λ (x : Entry). ltb (seat_of x) n) es in
        let at_most : one_if (ltb (seat_of e) n) ≤ 1 = small (ltb (seat_of e) n) in
        ap {B = List Entry} (λ (b : Bool). cond b (e ∷ entries_of_seat k es) (entries_of_seat k es)) (apart (seat_of e) (dec_lt (seat_of e) n) (omega (arith, first, rest, at_most, many)))
        ∙ none es (omega (arith, first, rest, at_most, many))
      where
        small : (b : Bool) → one_if b ≤ 1
        small true = omega arith
        small false = omega arith

-- ---- lists

pub dropped-whole : (es : List Entry) → drop (length es) es ≡ []
dropped-whole [] = refl
dropped-whole (e ∷ es) = dropped-whole es

pub dropped-front : (es rest : List Entry) → drop (length es) (es ++ rest) ≡ rest
dropped-front [] rest = refl
dropped-front (e ∷ es) rest = dropped-front es rest

pub seated-at : (P : Seated → Type 0) (seats : List Seated) → AllByRecursion P seats → (i : ℕ) (d : Seated) → i < length seats → P (slice_index_or seats i d)
seated-at P seats all i d inside = All-get_or P seats i d inside (All-from_recursion P seats all)

-- ---- a seat of a closed station

-- what the seat did, from the entries that the station was begun with, in its journal
pub in-journal : (start : Start) (entries journal : List Entry) (can_look : Bool) (number : ℕ) (deeds : List Deed) (end : Seated) → start.resumed ≡ length entries
    → Stepped start (new_seat entries can_look number) deeds end → IsPrefix end.seen journal → count_of_seat end.number (own_entries start journal) ≡ end.accepted
    → DoesIn start journal number [] entries deeds × (entries_of_seat number (own_entries start journal) ≡ accepted_in deeds)
in-journal start entries journal can_look number deeds end resumed steps begins counts =
    let own = own_entries start journal in
    let none : entries_of_seat number (own_entries start entries) ≡ [] =
    ap (entries_of_seat number) (ap {B = List Entry} (λ (n : ℕ). drop n entries) resumed ∙ dropped-whole entries) in
    let many : length (entries_of_seat number own) ≡ length (accepted_in deeds) =
    length-filter (λ (e : Entry). eqb (seat_of e) number) own ∙ ap {B = ℕ} (λ (n : ℕ). count_of_seat n own) (sym steps.number) ∙ counts ∙ steps.accepted ∙ omega arith in
    does start journal number [] entries deeds end.seen (omega (arith, resumed)) none begins (omega (arith, many)) steps.walks
