-- What a seat does by ticks and looks, one after another.
use Rattle.std.proofs.Common.{◌≡◌, ◌∙◌, inl, inr, ℕ, List, [], ◌∷◌, ◌++◌, Ok, Err, append-nil, ap, map, refl, subst, sym}
use Rattle.std.proofs.lemmas.List.{map-append}
use Rattle.station_journal.specs.declared.entry.Entry.{Entry}
use Rattle.station_journal.specs.declared.entry.Entry.TheVariants.{Tick}
use Rattle.station_history.specs.Start.{Start}
use Rattle.station_shared.specs.Seats.{HasLearned, Looks, Seated}
use Rattle.station_reporter.specs.Reporter.{Ticks}
use Rattle.one_journal.specs.Merge.{Deed, Called, Saw, Did, Sees}
use Rattle.one_journal.proofs.StepLemmas.{did-steps}
use Rattle.whole_run.specs.Accounted.{calls_of}

-- ---- deeds one after another

pub did-number : (start : Start) (old new : Seated) (deeds : List Deed) → Did start old deeds new → new.number ≡ old.number
did-number start old new deeds did = (did-steps start old new deeds did).number

did-then : (start : Start) (old mid new : Seated) (deeds more : List Deed) → Did start old deeds mid → Did start mid more new → Did start old (deeds ++ more) new
did-then start old mid new [] more same rest = subst (λ (s : Seated). Did start s more new) same rest
did-then start old mid new (Saw seen ∷ deeds) more did rest = (did.0, did.1, did.2, did-then start did.0 mid new deeds more did.3 rest)
did-then start old mid new (Called entry (Ok taken) ∷ deeds) more did rest = (did.0, did.1, did.2, did.3, did-then start did.0 mid new deeds more did.4 rest)
did-then start old mid new (Called entry (Err refusal) ∷ deeds) more did rest = (did.0, did.1, did.2, did-then start did.0 mid new deeds more did.3 rest)

calls-append : (deeds more : List Deed) → calls_of (deeds ++ more) ≡ calls_of deeds ++ calls_of more
calls-append [] more = refl
calls-append (Saw seen ∷ deeds) more = calls-append deeds more
calls-append (Called entry answer ∷ deeds) more = ap (λ (es : List Entry). entry ∷ es) (calls-append deeds more)

-- ---- ticks

-- a seat ticked at these times, and called for nothing else
pub record TicksAt (start : Start) (old : Seated) (times : List ℕ) (new : Seated) : Type 0 where
  pub deeds : List Deed
  pub did : Did start old deeds new
  pub calls : calls_of deeds ≡ map (Tick old.number) times

pub ticks-then : (start : Start) (old mid new : Seated) (times more : List ℕ) → TicksAt start old times mid → TicksAt start mid more new → TicksAt start old (times ++ more) new
ticks-then start old mid new times more first second = record {
  deeds = first.deeds ++ second.deeds;
  did = did-then start old mid new first.deeds second.deeds first.did second.did;
  calls = calls-append first.deeds second.deeds ∙ ap (λ (es : List Entry). es ++ calls_of second.deeds) first.calls
      ∙ ap (λ (es : List Entry). map (Tick old.number) times ++ es) (second.calls ∙ ap (λ (n : ℕ). map (Tick n) more) (did-number start old mid first.deeds first.did))
      ∙ sym (map-append (Tick old.number) times more);
}

pub ticks-still : (start : Start) (old mid new : Seated) (times : List ℕ) → TicksAt start old times mid → TicksAt start mid [] new → TicksAt start old times new
ticks-still start old mid new times first second = subst (λ (ts : List ℕ). TicksAt start old ts new) (append-nil times) (ticks-then start old mid new times [] first second)

pub ticks-none : (start : Start) (old new : Seated) → new ≡ old → TicksAt start old [] new
ticks-none start old new same = record { deeds = []; did = same; calls = refl }

pub ticks-once : (start : Start) (old new : Seated) (at : ℕ) → Ticks start old at new → TicksAt start old (at ∷ []) new
ticks-once start old new at (inl (receipt, accepted)) = record { deeds = Called (Tick old.number at) (Ok tt) ∷ []; did = (new, receipt, accepted, refl, refl); calls = refl }
ticks-once start old new at (inr (refusal, refused)) = record { deeds = Called (Tick old.number at) (Err refusal) ∷ []; did = (new, refused, refl, refl); calls = refl }

sees : (start : Start) (old new : Seated) → Sees start old new → TicksAt start old [] new
sees start old new seen = record { deeds = Saw new.seen ∷ []; did = (new, seen, refl, refl); calls = refl }

pub looks-still : (start : Start) (old new : Seated) → Looks start old new → TicksAt start old [] new
looks-still start old new looks = sees start old new (inl looks)

pub learns-still : (start : Start) (old new : Seated) (list : List Entry) → HasLearned old new list → TicksAt start old [] new
learns-still start old new list learned = sees start old new (inr (list, learned))
