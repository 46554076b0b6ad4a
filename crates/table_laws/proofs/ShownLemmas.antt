-- What is true of each value that frames carry is true of the values that a row shows.
use Rattle.std.proofs.Common.{ℕ, ◌-◌, Bool, true, false, if◌then◌else◌, List, [], ◌∷◌, Option, Some, None, IfSome, nat_le}
use Rattle.station_journal.specs.declared.entry.Entry.{Entry}
use Rattle.station_journal.specs.declared.entry.Entry.TheVariants.{Tick, Heard}
use Rattle.station_journal.specs.declared.aircraft.Stamped.{Stamped}
use Rattle.station_journal.proofs.Common.{Frame, clock, speaks_for, fresh, stamp, or_older, newest, read_for}

module _ {V : Type 0} (P : V → Type 0) where
  pub if_test : (test : Bool) (v : Option V) → IfSome v P → IfSome (if test then v else None) P
  if_test true v h = h
  if_test false v h = tt

  pub newer_is : (at : ℕ) (newer : Option V) (older : Option (Stamped V)) → IfSome newer P → IfSome older (λ s. P s.value) → IfSome (or_older (stamp at newer) older) (λ s. P s.value)
  newer_is at None older here before = before
  newer_is at (Some v) older here before = here

  pub newest_is : (read : Frame → Option V) → ((frame : Frame) → IfSome (read frame) P) → (base a : ℕ) (past : List Entry) → IfSome (newest read base a past) (λ s. P s.value)
  newest_is read each base a [] = tt
  newest_is read each base a (Tick seat at ∷ past) = newest_is read each base a past
  newest_is read each base a (Heard seat frame ∷ past) =
      newer_is (clock base past) (read_for read a frame) (newest read base a past) (if_test (speaks_for a frame) (read frame) (each frame)) (newest_is read each base a past)

  pub fresh_is : (limit now : ℕ) (s : Option (Stamped V)) → IfSome s (λ s. P s.value) → IfSome (fresh limit now s) P
  fresh_is limit now None h = tt
  fresh_is limit now (Some s) h = if_test (nat_le (now - s.at) limit) (Some s.value) h

  pub shown_is : (read : Frame → Option V) → ((frame : Frame) → IfSome (read frame) P) → (limit base a : ℕ) (past : List Entry) → IfSome (fresh limit (clock base past) (newest read base a past)) P
  shown_is read each limit base a past = fresh_is limit (clock base past) (newest read base a past) (newest_is read each base a past)
