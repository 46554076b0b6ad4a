-- Lines that are parsed before the lock of their station is taken, and kept until then.
use Rattle.std.specs.Prelude.{◌≡◌, List, ◌++◌, Result, OnOk, map}
use Rattle.modes_frame.specs.declared.cutter.Cut.{Cut}
use Rattle.station_lines.specs.Calls.{pump_command}
use Rattle.station_lines.specs.ParsedLines.{parsed_of}
use Rattle.station_lines.specs.declared.parsed_line.ParsedLine.{ParsedLine}

-- what each of these lines says
abbrev pub parsed_all : List Cut → List ParsedLine
parsed_all lines = map (λ (line : Cut). parsed_of (pump_command line)) lines

-- the first of these lines were taken, as Took says; where none of them stopped the taking, the others are kept
pub record TakesFirst {X E : Type 0} (Took : X → List Cut → Result (Unit {0}) E → X → Type 0) (all : List Cut) (x : X) (result : Result (Unit {0}) E) (y : X) (kept : List ParsedLine) : Type 0 where
  pub lines : List Cut
  pub others : List Cut
  pub parts : all ≡ lines ++ others
  pub left : OnOk result (kept ≡ parsed_all others)
  pub took : Took x lines result y

-- of the lines kept before, and of these after them, the first were taken and the others are kept
abbrev pub TakesKept : {X E : Type 0} → (X → List Cut → Result (Unit {0}) E → X → Type 0) → X → List ParsedLine → List Cut → Result (Unit {0}) E → X → List ParsedLine → Type 0
TakesKept Took x kept lines result y kept_now = (before : List Cut) → kept ≡ parsed_all before → TakesFirst Took (before ++ lines) x result y kept_now
