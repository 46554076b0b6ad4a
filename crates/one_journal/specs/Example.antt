-- An example of a merge: two receivers, the second of which hears a frame again, and a reporter.
use Rattle.std.specs.Prelude.{◌≡◌, ℕ, zero, suc, List, [], ◌∷◌, Some, None, Ok, Err}
use Rattle.station_journal.specs.declared.entry.Entry.{Entry}
use Rattle.station_journal.specs.declared.entry.Entry.TheVariants.{Tick, Heard}
use Rattle.station_journal.specs.declared.refusal.Refusal.TheVariants.{Repeated}
use Rattle.station_journal.specs.Log.{IsLegal, refusal_of}
use Rattle.station_history.specs.Start.{Start, log_of}
use Rattle.one_journal.specs.Merge.{Deed, Called, Saw}

-- seat 0 hears the frame f; the reporter, seat 2, ticks; seat 1 hears the frame g
abbrev pub worked_history : (f g : List ℕ) → List Entry
worked_history f g = Heard 0 f ∷ Tick 2 5 ∷ Heard 1 g ∷ []

-- seat 1 heard f too, before the tick, and the reporter looked after it
abbrev pub worked_deeds : (f g : List ℕ) → ℕ → List Deed
worked_deeds f g zero = Called (Heard 0 f) (Ok tt) ∷ []
worked_deeds f g (suc zero) = Called (Heard 1 f) (Err Repeated) ∷ Called (Heard 1 g) (Ok tt) ∷ []
worked_deeds f g (suc (suc zero)) = Called (Tick 2 5) (Ok tt) ∷ Saw (Heard 0 f ∷ Tick 2 5 ∷ []) ∷ []
worked_deeds f g (suc (suc (suc n))) = []

-- the same, but seat 1 heard f again only after g
abbrev pub swapped_deeds : (f g : List ℕ) → ℕ → List Deed
swapped_deeds f g zero = worked_deeds f g zero
swapped_deeds f g (suc zero) = Called (Heard 1 g) (Ok tt) ∷ Called (Heard 1 f) (Err Repeated) ∷ []
swapped_deeds f g (suc (suc n)) = worked_deeds f g (suc (suc n))

-- what the plain search says of these calls, at a station that begins with nothing
pub record IsWorked (start : Start) (f g : List ℕ) : Type 0 where
  pub new : start.resumed ≡ 0
  pub legal : IsLegal (log_of start (worked_history f g))
  pub first : refusal_of (log_of start []) (Heard 0 f) ≡ None
  pub again : refusal_of (log_of start (Heard 0 f ∷ [])) (Heard 1 f) ≡ Some Repeated
  pub tick : refusal_of (log_of start (Heard 0 f ∷ [])) (Tick 2 5) ≡ None
  pub other : refusal_of (log_of start (Heard 0 f ∷ Tick 2 5 ∷ [])) (Heard 1 g) ≡ None
