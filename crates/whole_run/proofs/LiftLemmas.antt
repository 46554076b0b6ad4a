-- What a seat did in a station's journal, it did in the whole history.
use Rattle.std.proofs.Common.{◌≡◌, ◌∙◌, ℕ, Bool, true, false, cond, eqb, List, [], ◌∷◌, ◌++◌, Result, Ok, Err, append_assoc, append-nil, ap, arith, drop, length, refl, subst, sym}
use Rattle.std.proofs.lemmas.List.Elements.{filter-append}
use mathlib.Core.List.{IsPrefix}
use Rattle.station_journal.specs.declared.entry.Entry.{Entry}
use Rattle.station_journal.specs.declared.refusal.Refusal.{Refusal}
use Rattle.station_journal.specs.declared.refusal.Refusal.TheVariants.{BadParity, BookFull, JournalFull, NoMemory, NotLater, Repeated, Unassigned, Unknown, Unsupported}
use Rattle.station_journal.proofs.Common.{IsOther, refusal_of}
use Rattle.station_history.proofs.Common.{Start, log_of}
use Rattle.station_shared.specs.Seats.{own_entries, seat_of}
use Rattle.one_journal.specs.Merge.{Deed, Called, Saw, DoesIn, IsReached, accepted_in, entries_of_seat, entry_added, verdict_on}
use Rattle.one_journal.proofs.WalkLemmas.{begins-trans, dropped-append, dropped-prefix, longer}
use Rattle.whole_run.specs.OneHistory.{deeds_after, is_by_full}

-- ---- answers

nothing-added : (entry : Entry) (answer : Result (Unit {0}) Refusal) → is_by_full answer ≡ true → entry_added entry answer ≡ []
nothing-added entry (Ok taken) is = absurd (cc (is))
nothing-added entry (Err refusal) is = refl

pub other-answer : (answer : Result (Unit {0}) Refusal) → is_by_full answer ≡ false → IsOther (verdict_on answer)
other-answer (Ok taken) is = λ same. cc (same)
other-answer (Err (Unsupported df)) is = λ same. cc (same)
other-answer (Err (BadParity remainder)) is = λ same. cc (same)
other-answer (Err (Unassigned address)) is = λ same. cc (same)
other-answer (Err (Unknown address)) is = λ same. cc (same)
other-answer (Err Repeated) is = λ same. cc (same)
other-answer (Err JournalFull) is = absurd (cc (is))
other-answer (Err BookFull) is = λ same. cc (same)
other-answer (Err (NotLater clock)) is = λ same. cc (same)
other-answer (Err NoMemory) is = λ same. cc (same)

pub accepted-after : (before : List Entry) (start : Start) (deeds : List Deed) → accepted_in (deeds_after before start deeds) ≡ accepted_in deeds
accepted-after before start [] = refl
accepted-after before start (Saw seen ∷ deeds) = accepted-after before start deeds
accepted-after before start (Called entry answer ∷ deeds) = by-answer (accepted-after before start deeds) (is_by_full answer) refl
  where
    by-answer : accepted_in (deeds_after before start deeds) ≡ accepted_in deeds
        → (b : Bool) → is_by_full answer ≡ b → accepted_in (cond b (deeds_after before start deeds) (Called entry answer ∷ deeds_after before start deeds)) ≡ entry_added entry answer ++ accepted_in deeds
    by-answer rest true is = rest ∙ ap (λ (es : List Entry). es ++ accepted_in deeds) (sym (nothing-added entry answer is))
    by-answer rest false is = ap (λ (es : List Entry). entry_added entry answer ++ es) rest

-- ---- a seat that had seen less

reached-from : (start : Start) (history : List Entry) (seat : ℕ) (own seen less at : List Entry) → IsPrefix less seen → IsReached start history seat own seen at → IsReached start history seat own less at
reached-from start history seat own seen less at p reached = record { begins = reached.begins; later = begins-trans less seen at p reached.later; its_own = reached.its_own }

pub does-from : (start : Start) (history : List Entry) (seat : ℕ) (own seen less : List Entry) (deeds : List Deed) → IsPrefix less seen → DoesIn start history seat own seen deeds → DoesIn start history seat own less deeds
does-from start history seat own seen less [] p does = begins-trans less seen history p does
does-from start history seat own seen less (Saw at ∷ deeds) p does = (reached-from start history seat own seen less at p does.0, does.1)
does-from start history seat own seen less (Called entry answer ∷ deeds) p does = (does.0, reached-from start history seat own seen less does.0 p does.1, does.2, does.3)

-- ---- from a station to the whole

-- what a station's journal says of calls is what the whole journal says, up to these entries
abbrev pub Stands : (whole_start start : Start) (before entries journal : List Entry) → Type 0
Stands whole_start start before entries journal =
    (at : List Entry) (entry : Entry) → IsPrefix entries at → IsPrefix at journal → IsOther (refusal_of (log_of start at) entry)
    → refusal_of (log_of whole_start (before ++ own_entries start at)) entry ≡ refusal_of (log_of start at) entry

module _ (whole_start start : Start) (nothing : whole_start.resumed ≡ 0) (before entries journal history : List Entry) (resumed : start.resumed ≡ length entries) (within : IsPrefix (before ++ own_entries start journal) history)
    (stands : Stands whole_start start before entries journal) (seat : ℕ) where
  abbrev own : List Entry → List Entry
  own at = own_entries start at

  abbrev earlier : List Entry
  earlier = entries_of_seat seat before

  -- the seat's entries in the whole
  own-whole : (at : List Entry) → entries_of_seat seat (own_entries whole_start (before ++ own at)) ≡ earlier ++ entries_of_seat seat (own at)
  own-whole at = ap {B = List Entry} (λ (k : ℕ). entries_of_seat seat (drop k (before ++ own at))) nothing ∙ filter-append (λ (e : Entry). eqb (seat_of e) seat) before (own at)

  more-whole : (a b : List Entry) → IsPrefix a b → IsPrefix (before ++ own a) (before ++ own b)
  more-whole a b p =
      let q = dropped-prefix start.resumed a b p in
      (q.0, append_assoc before (own a) q.0 ∙ ap (λ (es : List Entry). before ++ es) q.1)

  reached : (mine seen at : List Entry) → IsReached start journal seat mine seen at → IsReached whole_start history seat (earlier ++ mine) (before ++ own seen) (before ++ own at)
  reached mine seen at is = record {
    begins = begins-trans (before ++ own at) (before ++ own journal) history (more-whole at journal is.begins) within;
    later = more-whole seen at is.later;
    its_own = own-whole at ∙ ap (λ (es : List Entry). earlier ++ es) is.its_own;
  }

  added-whole : (at : List Entry) (entry : Entry) (answer : Result (Unit {0}) Refusal) → IsPrefix entries at → before ++ own (at ++ entry_added entry answer) ≡ (before ++ own at) ++ entry_added entry answer
  added-whole at entry answer from =
      ap (λ (es : List Entry). before ++ es) (dropped-append start.resumed at (entry_added entry answer) (omega (arith, resumed, longer entries at from)))
      ∙ sym (append_assoc before (own at) (entry_added entry answer))

  pub lifted : (mine seen : List Entry) (deeds more : List Deed) → IsPrefix entries seen → DoesIn start journal seat mine seen deeds
      → DoesIn whole_start history seat (earlier ++ (mine ++ accepted_in deeds)) (before ++ own journal) more → DoesIn whole_start history seat (earlier ++ mine) (before ++ own seen) (deeds_after before start deeds ++ more)
  lifted mine seen [] more from does rest =
      does-from whole_start history seat (earlier ++ mine) (before ++ own journal) (before ++ own seen) more (more-whole seen journal does)
      (subst (λ (es : List Entry). DoesIn whole_start history seat (earlier ++ es) (before ++ own journal) more) (append-nil mine) rest)
  lifted mine seen (Saw at ∷ deeds) more from does rest = (reached mine seen at does.0, lifted mine at deeds more (begins-trans entries seen at from does.0.later) does.1 rest)
  lifted mine seen (Called entry answer ∷ deeds) more from does rest =
      let at = does.0 in
      let new = entry_added entry answer in
      let now = begins-trans entries seen at from does.1.later in
      let then = lifted (mine ++ new) (at ++ new) deeds more (begins-trans entries at (at ++ new) now (new, refl)) does.3
      (subst (λ (es : List Entry). DoesIn whole_start history seat (earlier ++ es) (before ++ own journal) more) (sym (append_assoc mine new (accepted_in deeds))) rest) in
      by-answer at now does.1 does.2 then (is_by_full answer) refl
    where
      by-answer : (at : List Entry) → IsPrefix entries at → IsReached start journal seat mine seen at → refusal_of (log_of start at) entry ≡ verdict_on answer
          → DoesIn whole_start history seat (earlier ++ (mine ++ entry_added entry answer)) (before ++ own (at ++ entry_added entry answer)) (deeds_after before start deeds ++ more)
          → (b : Bool) → is_by_full answer ≡ b → DoesIn whole_start history seat (earlier ++ mine) (before ++ own seen) (cond b (deeds_after before start deeds) (Called entry answer ∷ deeds_after before start deeds) ++ more)
      by-answer at now is_reached verdict then true is =
          let none = nothing-added entry answer is in
          does-from whole_start history seat (earlier ++ mine) (before ++ own at) (before ++ own seen) (deeds_after before start deeds ++ more) (more-whole seen at is_reached.later)
          (subst (λ (es : List Entry). DoesIn whole_start history seat (earlier ++ mine) (before ++ own es) (deeds_after before start deeds ++ more)) (ap (λ (es : List Entry). at ++ es) none ∙ append-nil at)
          (subst (λ (es : List Entry). DoesIn whole_start history seat (earlier ++ es) (before ++ own (at ++ entry_added entry answer)) (deeds_after before start deeds ++ more)) (ap (λ (es : List Entry). mine ++ es) none ∙ append-nil mine) then))
      by-answer at now is_reached verdict then false is = (
        before ++ own at,
        reached mine seen at is_reached,
        stands at entry now is_reached.begins (subst IsOther (sym verdict) (other-answer answer is)) ∙ verdict,
        subst (λ (es : List Entry). DoesIn whole_start history seat es ((before ++ own at) ++ entry_added entry answer) (deeds_after before start deeds ++ more)) (sym (append_assoc earlier mine (entry_added entry answer)))
            (subst (λ (es : List Entry). DoesIn whole_start history seat (earlier ++ (mine ++ entry_added entry answer)) es (deeds_after before start deeds ++ more)) (added-whole at entry answer now) then),
      )
