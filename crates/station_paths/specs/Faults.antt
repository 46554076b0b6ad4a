-- Faults before a station is begun or closed.
use Rattle.std.specs.Prelude.{◌⊎◌, List, ⊤, Contains}
use Rattle.clap.specs.Words.{Text}
use Rattle.messages.specs.declared.faults.Fault.{Fault}
use Rattle.messages.specs.declared.faults.Fault.TheVariants as fault

-- out of memory, or one of these paths can't be opened
abbrev pub IsUnopened : List Text → Fault → Type 0
IsUnopened paths fault.NoMemory = ⊤
IsUnopened paths (fault.CannotOpen path) = Contains paths path.now
IsUnopened paths _ = ⊥

-- out of memory for a station, or a thread isn't started
abbrev pub IsUnstarted : Fault → Type 0
IsUnstarted fault.NoMemory = ⊤
IsUnstarted fault.ThreadNotStarted = ⊤
IsUnstarted _ = ⊥

-- a fault that comes before a station of these paths is begun
abbrev pub IsEarly : List Text → Fault → Type 0
IsEarly paths fault = IsUnopened paths fault ⊎ IsUnstarted fault
