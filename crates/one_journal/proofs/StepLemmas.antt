-- What the steps of a seat, one after another, make of its deeds.
use Rattle.std.proofs.Common.{◌≡◌, ◌∙◌, inl, inr, ℕ, ◌+◌, List, [], ◌∷◌, ◌++◌, Result, Ok, Err, length, length-append, refl, sym, ap, subst, append-nil, arith}
use Rattle.station_journal.specs.declared.entry.Entry.{Entry}
use Rattle.station_journal.specs.declared.entry.Entry.TheVariants.{Heard}
use Rattle.station_journal.specs.declared.refusal.Refusal.{Refusal}
use Rattle.station_history.specs.History.{Known}
use Rattle.station_history.specs.Start.{Start}
use Rattle.station_lines.specs.Feeds.{Feeds}
use Rattle.station_shared.specs.Seats.{Accepted, Refused, Seated, seat_of}
use Rattle.station_shared.specs.Workers.{SeatSteps}
use Rattle.one_journal.specs.Merge.{Deed, Called, Did, Saw, Sees, accepted_in}
use Rattle.one_journal.specs.Receiver.{feeds}
use Rattle.one_journal.proofs.WalkLemmas.{Walks, accepted-append, walks-then}

-- a seat did this, as one seat
pub record Stepped (start : Start) (old : Seated) (deeds : List Deed) (new : Seated) : Type 0 where
  pub walks : Walks start old.number old.seen deeds new.seen
  pub accepted : new.accepted ≡ old.accepted + length (accepted_in deeds)
  pub number : new.number ≡ old.number

pub stepped-none : (start : Start) (old new : Seated) → new ≡ old → Stepped start old [] new
stepped-none start old new same = record {
  walks = ([], append-nil old.seen ∙ ap (λ (s : Seated). s.seen) (sym same));
  accepted = omega (arith, ap {B = ℕ} (λ (s : Seated). s.accepted) same);
  number = ap (λ (s : Seated). s.number) same;
}

pub stepped-then : (start : Start) (old mid new : Seated) (deeds more : List Deed) → Stepped start old deeds mid → Stepped start mid more new → Stepped start old (deeds ++ more) new
stepped-then start old mid new deeds more first second = record {
  walks = walks-then start old.number old.seen mid.seen new.seen deeds more first.walks (subst (λ (n : ℕ). Walks start n mid.seen more new.seen) first.number second.walks);
  accepted = omega (arith, first.accepted, second.accepted, ap {B = ℕ} (λ (es : List Entry). length es) (accepted-append deeds more), length-append (accepted_in deeds) (accepted_in more));
  number = second.number ∙ first.number;
}

-- ---- one step

pub called-accepted : (start : Start) (old new : Seated) (entry : Entry) (receipt : Known) → seat_of entry ≡ old.number → Accepted start old new entry receipt → Stepped start old (Called entry (Ok tt) ∷ []) new
called-accepted start old new entry receipt mine a = record {
  walks = (a.mid, a.later, mine, a.verdict, ([], append-nil (a.mid ++ entry ∷ []) ∙ sym a.seen));
  accepted = omega (arith, a.accepted);
  number = a.number;
}

pub called-refused : (start : Start) (old new : Seated) (entry : Entry) (refusal : Refusal) → seat_of entry ≡ old.number → Refused start old new entry refusal → Stepped start old (Called entry (Err refusal) ∷ []) new
called-refused start old new entry refusal mine r = record {
  walks = (new.seen, r.later, mine, r.verdict, ([], append-nil (new.seen ++ []) ∙ append-nil new.seen));
  accepted = omega (arith, r.accepted);
  number = r.number;
}

pub saw : (start : Start) (old new : Seated) → Sees start old new → Stepped start old (Saw new.seen ∷ []) new
saw start old new (inl looks) = record {
  walks = (looks.later, ([], append-nil new.seen));
  accepted = omega (arith, looks.accepted);
  number = looks.number;
}
saw start old new (inr (list, learned)) = record {
  walks = (learned.later, ([], append-nil new.seen));
  accepted = omega (arith, learned.accepted);
  number = learned.number;
}

-- ---- a receiver

fed-one : (start : Start) (old new : Seated) (frame : List ℕ) (answer : Result (Unit {0}) Refusal) → SeatSteps start old frame answer new → Stepped start old (Called (Heard old.number frame) answer ∷ []) new
fed-one start old new frame (Ok taken) step = called-accepted start old new (Heard old.number frame) step.0 refl step.1
fed-one start old new frame (Err refusal) step = called-refused start old new (Heard old.number frame) refusal refl step

pub fed : (start : Start) (old new : Seated) (frames : List (List ℕ)) (answers : List (Result (Unit {0}) Refusal)) → Feeds (SeatSteps start) old frames answers new
    → Stepped start old (feeds old.number frames answers) new × (length answers ≡ length frames)
fed start old new [] [] steps = (stepped-none start old new steps, refl)
fed start old new [] (answer ∷ answers) steps = absurd steps
fed start old new (frame ∷ frames) [] steps = absurd steps
fed start old new (frame ∷ frames) (answer ∷ answers) steps =
    let z = steps.0 in
    let one = fed-one start old z frame answer steps.1 in
    let rest = fed start z new frames answers steps.2 in (
      stepped-then start old z new (Called (Heard old.number frame) answer ∷ []) (feeds old.number frames answers) one
          (subst (λ (n : ℕ). Stepped start z (feeds n frames answers) new) one.number rest.0),
      omega (arith, rest.1),
    )

-- ---- any deeds

pub did-steps : (start : Start) (old new : Seated) (deeds : List Deed) → Did start old deeds new → Stepped start old deeds new
did-steps start old new [] did = stepped-none start old new did
did-steps start old new (Saw seen ∷ deeds) did =
    let one = subst (λ (es : List Entry). Stepped start old (Saw es ∷ []) did.0) did.2 (saw start old did.0 did.1) in
    stepped-then start old did.0 new (Saw seen ∷ []) deeds one (did-steps start did.0 new deeds did.3)
did-steps start old new (Called entry (Ok taken) ∷ deeds) did =
    stepped-then start old did.0 new (Called entry (Ok tt) ∷ []) deeds (called-accepted start old did.0 entry did.1 did.3 did.2) (did-steps start did.0 new deeds did.4)
did-steps start old new (Called entry (Err refusal) ∷ deeds) did =
    stepped-then start old did.0 new (Called entry (Err refusal) ∷ []) deeds (called-refused start old did.0 entry refusal did.2 did.1) (did-steps start did.0 new deeds did.3)

-- the calls of a receiver
pub fed-did : (start : Start) (old new : Seated) (frames : List (List ℕ)) (answers : List (Result (Unit {0}) Refusal)) → Feeds (SeatSteps start) old frames answers new → Did start old (feeds old.number frames answers) new
fed-did start old new [] [] steps = steps
fed-did start old new [] (answer ∷ answers) steps = absurd steps
fed-did start old new (frame ∷ frames) [] steps = absurd steps
fed-did start old new (frame ∷ frames) (Ok taken ∷ answers) steps =
    let mid = steps.0 in
    (mid, steps.1.0, steps.1.1, refl, subst (λ (n : ℕ). Did start mid (feeds n frames answers) new) steps.1.1.number (fed-did start mid new frames answers steps.2))
fed-did start old new (frame ∷ frames) (Err refusal ∷ answers) steps =
    let mid = steps.0 in
    (mid, steps.1, refl, subst (λ (n : ℕ). Did start mid (feeds n frames answers) new) steps.1.number (fed-did start mid new frames answers steps.2))
