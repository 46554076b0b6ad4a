-- What a merge says of each call, and of each entry.
use Rattle.std.proofs.Common.{◌≡◌, ◌∙◌, ℕ, ◌<◌, ◌≤◌, Bool, true, false, cond, eqb, List, [], ◌∷◌, ◌++◌, All, Result, refl, sym, ap, subst, append_assoc, append-nil, arith, eq-eqb}
use Rattle.std.proofs.lemmas.List.Elements.{All-cons, All-nil}
use mathlib.Core.List.{IsPrefix}
use native.Mathlib.Decide.{dec_lt}
use Rattle.station_journal.specs.declared.entry.Entry.{Entry}
use Rattle.station_journal.specs.declared.refusal.Refusal.{Refusal}
use Rattle.station_journal.specs.Log.{refusal_of}
use Rattle.station_history.specs.Start.{Start, log_of}
use Rattle.station_shared.specs.Seats.{own_entries, seat_of}
use Rattle.one_journal.specs.Merge.{Deed, Called, Saw, DoesIn, IsMerge, accepted_in, entries_of_seat, entry_added, verdict_on}
use Rattle.one_journal.proofs.WalkLemmas.{begins-trans}

-- ---- each call

-- the plain search decided it there, after these accepted calls of its seat
abbrev IsDecided : Start → (history : List Entry) → (seat : ℕ) → (before : List Entry) → Entry → Result (Unit {0}) Refusal → Type 0
IsDecided start history seat before entry answer =
    (at : List Entry) × IsPrefix (at ++ entry_added entry answer) history × (refusal_of (log_of start at) entry ≡ verdict_on answer) × (entries_of_seat seat (own_entries start at) ≡ before)

module _ (start : Start) (history : List Entry) (seat : ℕ) where
  seen-before : (before seen : List Entry) (deeds : List Deed) → DoesIn start history seat before seen deeds → IsPrefix seen history
  seen-before before seen [] does = does
  seen-before before seen (Saw at ∷ deeds) does = begins-trans seen at history does.0.later does.0.begins
  seen-before before seen (Called entry answer ∷ deeds) does = begins-trans seen does.0 history does.1.later does.1.begins

  call-decided : (first seen : List Entry) (before after : List Deed) (entry : Entry) (answer : Result (Unit {0}) Refusal)
      → DoesIn start history seat first seen (before ++ Called entry answer ∷ after) → IsDecided start history seat (first ++ accepted_in before) entry answer
  call-decided first seen [] after entry answer does =
      (does.0, seen-before (first ++ entry_added entry answer) (does.0 ++ entry_added entry answer) after does.3, does.2, does.1.its_own ∙ sym (append-nil first))
  call-decided first seen (Saw at ∷ before) after entry answer does = call-decided first at before after entry answer does.1
  call-decided first seen (Called other reply ∷ before) after entry answer does =
      subst (λ (es : List Entry). IsDecided start history seat es entry answer) (append_assoc first (entry_added other reply) (accepted_in before))
      (call-decided (first ++ entry_added other reply) (does.0 ++ entry_added other reply) before after entry answer does.3)

pub calls-decided : (start : Start) (entries history : List Entry) (did : ℕ → List Deed) → IsMerge start entries history did → (seat : ℕ) (before after : List Deed) (entry : Entry) (answer : Result (Unit {0}) Refusal)
    → did seat ≡ before ++ Called entry answer ∷ after
    → (at : List Entry) × IsPrefix (at ++ entry_added entry answer) history × (refusal_of (log_of start at) entry ≡ verdict_on answer) × (entries_of_seat seat (own_entries start at) ≡ accepted_in before)
calls-decided start entries history did merge seat before after entry answer is =
    call-decided start history seat [] entries before after entry answer (subst (DoesIn start history seat [] entries) is (merge.decided seat))

-- ---- each entry

not-below : (m n : ℕ) → ¬ (m < n) → n ≤ m
not-below m n h = omega (arith, h)

is-of : (n : ℕ) (e : Entry) (es : List Entry) → entries_of_seat (seat_of e) (e ∷ es) ≡ [] → seat_of e < n
is-of n e es none =
    absurd (cc (sym none ∙ ap {B = List Entry} (λ (b : Bool). cond b (e ∷ entries_of_seat (seat_of e) es) (entries_of_seat (seat_of e) es)) (eq-eqb (seat_of e) (seat_of e) refl)))

tail-none : (k : ℕ) (e : Entry) (es : List Entry) → entries_of_seat k (e ∷ es) ≡ [] → entries_of_seat k es ≡ []
tail-none k e es none = by-test (eqb (seat_of e) k) none
  where
    by-test : (b : Bool) → cond b (e ∷ entries_of_seat k es) (entries_of_seat k es) ≡ [] → entries_of_seat k es ≡ []
    by-test true none = absurd (cc none)
    by-test false none = none

all-below : (n : ℕ) (es : List Entry) → ((k : ℕ) → n ≤ k → entries_of_seat k es ≡ []) → All (λ (e : Entry). seat_of e < n) es
all-below n [] none = All-nil (λ (e : Entry). seat_of e < n)
all-below n (e ∷ es) none = All-cons (λ (e : Entry). seat_of e < n) e es (first (dec_lt (seat_of e) n)) (all-below n es (λ (k : ℕ) (above : n ≤ k). tail-none k e es (none k above)))
  where
    first : Dec (seat_of e < n) → seat_of e < n
    first (yes below) = below
    first (no at_least) = is-of n e es (none (seat_of e) (not-below (seat_of e) n at_least))

pub entries-are-of-seats : (start : Start) (entries history : List Entry) (did : ℕ → List Deed) → IsMerge start entries history did → (n : ℕ) → ((seat : ℕ) → n ≤ seat → did seat ≡ []) → All (λ (e : Entry). seat_of e < n) (own_entries start history)
entries-are-of-seats start entries history did merge n nobody = all-below n (own_entries start history) (λ (k : ℕ) (above : n ≤ k). merge.each k ∙ ap {B = List Entry} accepted_in (nobody k above))
