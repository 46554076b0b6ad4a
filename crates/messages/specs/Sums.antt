-- What is counted of a path over several stations.
use Rattle.std.specs.Prelude.{◌≡◌, ◌+◌, ◌^◌, ◌≤◌, ◌⊎◌, ⊤, List, [], ◌∷◌, Option, Some, Result, Ok, Err}
use Rattle.station_lines.specs.Pump.{tally_of_pump}
use Rattle.station_lines.specs.declared.pumping.PumpFault.{PumpFault}
use Rattle.station_lines.specs.declared.pumping.PumpFault.TheVariants as pump
use Rattle.station_lines.specs.declared.tally.Tally.{Tally}

-- each number is the sum of two
pub record AreSums (before since sum : Tally) : Type 0 where
  pub lines : sum.lines ≡ before.lines + since.lines
  pub frames : sum.frames ≡ before.frames + since.frames
  pub ticks : sum.ticks ≡ before.ticks + since.ticks
  pub shows : sum.shows ≡ before.shows + since.shows
  pub blank : sum.blank ≡ before.blank + since.blank
  pub mode_ac : sum.mode_ac ≡ before.mode_ac + since.mode_ac
  pub faults : sum.faults ≡ before.faults + since.faults
  pub accepted : sum.accepted ≡ before.accepted + since.accepted
  pub refused : sum.refused ≡ before.refused + since.refused

-- the sums, unless there would be 2^64 lines or more
abbrev pub AddsTally : Tally → Tally → Tally → Type 0
AddsTally before since sum = AreSums before since sum ⊎ ((2 ^ 64 ≤ before.lines + since.lines) × (sum ≡ before))

-- two answers with the same fault, or both without one
abbrev pub HasSameFault : Result Tally PumpFault → Result Tally PumpFault → Type 0
HasSameFault (Ok a) (Ok b) = ⊤
HasSameFault (Err (pump.Read a)) (Err (pump.Read b)) = ⊤
HasSameFault (Err (pump.TooManyTurns a)) (Err (pump.TooManyTurns b)) = ⊤
HasSameFault (Err (pump.NoMemory a)) (Err (pump.NoMemory b)) = ⊤
HasSameFault a b = ⊥

-- the answer with the first fault of two
abbrev pub first_fault : Result Tally PumpFault → Result Tally PumpFault → Result Tally PumpFault
first_fault (Ok tally) since = since
first_fault (Err fault) since = Err fault

-- an answer for what was counted before and since, with the first fault
pub record AddsAnswer (before since sum : Result Tally PumpFault) : Type 0 where
  pub adds : AddsTally (tally_of_pump before) (tally_of_pump since) (tally_of_pump sum)
  pub fault : HasSameFault (first_fault before since) sum

-- each answer is one for what was counted of a path before and since
abbrev pub AddsEach : (before since sums : List (Result Tally PumpFault)) → Type 0
AddsEach [] [] [] = ⊤
AddsEach (before ∷ befores) (since ∷ sinces) (sum ∷ sums) = AddsAnswer before since sum × AddsEach befores sinces sums
AddsEach befores sinces sums = ⊥

-- the same of answers that are all there
abbrev pub AddsAll : List (Result Tally PumpFault) → List (Option (Result Tally PumpFault)) → List (Result Tally PumpFault) → Type 0
AddsAll [] [] [] = ⊤
AddsAll (before ∷ befores) (Some since ∷ sinces) (sum ∷ sums) = AddsAnswer before since sum × AddsAll befores sinces sums
AddsAll befores sinces sums = ⊥
