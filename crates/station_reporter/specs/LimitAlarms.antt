-- What is reported at once of the limits that calls met.
use Rattle.std.specs.Prelude.{◌≡◌, ℕ, Bool, true, false, List, [], ◌∷◌, ◌++◌, Option}
use Rattle.station_journal.specs.declared.full_limit.FullLimit.{FullLimit}
use Rattle.station_journal.specs.declared.full_limit.FullLimit.TheVariants.{Journal, Table}
use Rattle.station_counts.specs.declared.limits_met.LimitsMet.{LimitsMet}
use Rattle.messages.specs.Telling.{Tells, Told, fault_line, told_of}
use Rattle.messages.specs.declared.faults.Fault.{Fault}
use Rattle.messages.specs.declared.faults.Fault.TheVariants as fault
use Rattle.station_reporter.specs.declared.limit_alarm.LimitAlarm.{LimitAlarm}

-- which limits were reported, and the standard error where they are
pub record LimitsTold : Type 0 where
  pub reported : LimitsMet
  pub told : Told

abbrev pub limits_told : {A : Type 0} → (A → Option (List ℕ)) → LimitAlarm A → LimitsTold
limits_told contents alarm = record { reported = alarm.reported; told = told_of contents alarm.err }

-- none was reported, and so much was taken
abbrev pub no_limits_told : Option (List ℕ) → LimitsTold
no_limits_told taken = record { reported = record { journal = false; table = false }; told = record { taken = taken; has_failed = false } }

-- whether a limit is among these, and these with a limit
abbrev pub has_limit : LimitsMet → FullLimit → Bool
has_limit limits Journal = limits.journal
has_limit limits Table = limits.table

abbrev pub with_limit : LimitsMet → FullLimit → LimitsMet
with_limit limits Journal = record limits { journal = true }
with_limit limits Table = record limits { table = true }

abbrev pub limit_fault : FullLimit → Fault
limit_fault Journal = fault.JournalFull
limit_fault Table = fault.TableFull

-- a call met a limit: its line is told, unless it was reported before
abbrev pub TellsLimit : (was_reported : Bool) → FullLimit → Told → Told → Type 0
TellsLimit false limit old new = Tells old new (fault_line (limit_fault limit))
TellsLimit true limit old new = new ≡ old

-- calls met these limits, one after another: the line of each is told, once, as it is met for the first time
abbrev pub TellsLimits : LimitsTold → List FullLimit → LimitsTold → Type 0
TellsLimits old [] new = new ≡ old
TellsLimits old (limit ∷ limits) new =
    (mid : Told) × TellsLimit (has_limit old.reported limit) limit old.told mid
    × TellsLimits (record { reported = with_limit old.reported limit; told = mid }) limits new

-- the limits that were met, the journal's first
abbrev pub limit_if : Bool → FullLimit → List FullLimit
limit_if false limit = []
limit_if true limit = limit ∷ []

abbrev pub met_limits : LimitsMet → List FullLimit
met_limits met = limit_if met.journal Journal ++ limit_if met.table Table
