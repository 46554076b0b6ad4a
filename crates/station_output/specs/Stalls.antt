-- What is reported of an output that nobody reads.
use Rattle.std.specs.Prelude.{◌≡◌, ℕ, ◌+◌, ◌-◌, ◌^◌, Bool, true, false, List, Option, min, nat_lt}
use Rattle.messages.specs.Telling.{Tells, Told, fault_line, told_of}
use Rattle.messages.specs.declared.faults.Fault.TheVariants as fault
use Rattle.station_output.specs.declared.stall_alarm.StallAlarm.{StallAlarm}

-- how many tables were left out since the last that was printed, and the standard error where that is reported
pub record Stalling : Type 0 where
  pub left_out : ℕ
  pub alarm : Told

abbrev pub stalling_of : {A : Type 0} → (A → Option (List ℕ)) → StallAlarm A → Stalling
stalling_of contents stalls = record { left_out = stalls.left_out; alarm = told_of contents stalls.err }

abbrev pub is_stalled : Stalling → Bool
is_stalled stalling = nat_lt 0 stalling.left_out

-- one more, up to 2^64 - 1
abbrev pub one_more : ℕ → ℕ
one_more count = min (count + 1) (2 ^ 64 - 1)

-- the first table that is left out is reported, and no other
abbrev pub TellsStall : (was_stalled : Bool) → (old new : Told) → Type 0
TellsStall true old new = new ≡ old
TellsStall false old new = Tells old new (fault_line fault.OutputStalled)

-- the first table after those is reported, with how many were left out, and no other
abbrev pub TellsGoingOn : (was_stalled : Bool) → (left_out : ℕ) → (old new : Told) → Type 0
TellsGoingOn true left_out old new = Tells old new (fault_line (fault.OutputGoesOn left_out))
TellsGoingOn false left_out old new = new ≡ old
