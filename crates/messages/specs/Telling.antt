-- What is printed on standard error.
use Rattle.std.specs.Prelude.{◌≡◌, ℕ, Bool, true, false, List, [], ◌∷◌, ◌++◌, Option, Result, Ok, Err, codes, cond, nat_eq}
use Rattle.std.specs.List.{flat_map}
use Rattle.std.specs.Fmt.{decimal}
use Rattle.std.specs.Io.KnownBytes.{Appends}
use Rattle.station_lines.specs.declared.pumping.PumpFault.{PumpFault}
use Rattle.station_lines.specs.declared.pumping.PumpFault.TheVariants as pump
use Rattle.station_replay.specs.declared.replaying.ReplayFault.{ReplayFault}
use Rattle.station_replay.specs.declared.replaying.ReplayFault.TheVariants as replay
use Rattle.station_lines.specs.declared.tally.Tally.{Tally}
use Rattle.messages.specs.Reasons.{reason_text}
use Rattle.messages.specs.declared.alarms.Alarms.{Alarms}
use Rattle.messages.specs.declared.reason.Reason.{Reason}
use Rattle.messages.specs.declared.faults.Fault.{Fault}
use Rattle.messages.specs.declared.faults.Fault.TheVariants as fault
use Rattle.messages.specs.declared.standard_error.StandardError.{StandardError}

-- standard error: the bytes taken so far, if they are known, and whether a write failed
pub record Told : Type 0 where
  pub taken : Option (List ℕ)
  pub has_failed : Bool

-- the view of standard error by its writer's trait
abbrev pub told_of : {E : Type 0} → (E → Option (List ℕ)) → StandardError E → Told
told_of contents err = record { taken = contents err.inner; has_failed = err.has_failed }

-- what the standard errors have taken on which a job reports at once a failed write of its record, or of its output, or a full
-- journal or table, where that is known
pub record Alarmed : Type 0 where
  pub of_record : Option (List ℕ)
  pub of_output : Option (List ℕ)
  pub of_limits : Option (List ℕ)

abbrev pub alarmed_by : {A : Type 0} → (A → Option (List ℕ)) → Alarms A → Alarmed
alarmed_by contents alarms = record { of_record = contents alarms.record; of_output = contents alarms.output; of_limits = contents alarms.limits }

-- all are handles of one standard error
abbrev pub all_alarmed : Option (List ℕ) → Alarmed
all_alarmed taken = record { of_record = taken; of_output = taken; of_limits = taken }

-- this text is printed and nothing else, unless a write fails
pub record Tells (old new : Told) (text : List ℕ) : Type 0 where
  pub told : new.has_failed ≡ false → (old.has_failed ≡ false) × Appends old.taken new.taken text

-- ---- lines

-- what is printed if this path can't be opened, or can't take a record for a reason
abbrev pub cannot_open : List ℕ → List ℕ
cannot_open path = codes "cannot open " ++ path

abbrev pub cannot_record : List ℕ → Reason → List ℕ
cannot_record path reason = codes "cannot record to " ++ path ++ reason_text reason

-- what is printed of a path that wasn't read to its end
abbrev pub unfinished_words : List ℕ → List ℕ
unfinished_words path = path ++ codes " not read to its end"

-- what is printed once an output takes tables again, after this many were left out
abbrev pub goes_on_words : ℕ → List ℕ
goes_on_words count = codes "output goes on, " ++ decimal count ++ codes " tables left out"

abbrev pub fault_words : Fault → List ℕ
fault_words fault.Read = codes "read failed"
fault_words fault.Write = codes "write failed"
fault_words fault.OutputStalled = codes "output stalled"
fault_words (fault.OutputGoesOn count) = goes_on_words count
fault_words fault.TooManyReads = codes "too many reads"
fault_words fault.NoMemory = codes "no memory"
fault_words (fault.CannotOpen path) = cannot_open path.now
fault_words fault.ThreadNotStarted = codes "thread not started"
fault_words (fault.CannotRecord path reason) = cannot_record path.now reason
fault_words (fault.Record reason) = codes "record failed" ++ reason_text reason
fault_words (fault.CannotWrite path reason) = codes "cannot write " ++ path.now ++ reason_text reason
fault_words (fault.WritesAgain path) = codes "writing " ++ path.now ++ codes " again"
fault_words fault.JournalFull = codes "journal full"
fault_words fault.TableFull = codes "table full"
fault_words (fault.Unfinished path) = unfinished_words path.now

-- a line of these words
abbrev pub telling_line : List ℕ → List ℕ
telling_line words = codes "groundstation: " ++ words ++ 10 ∷ []

abbrev pub fault_line : Fault → List ℕ
fault_line fault = telling_line (fault_words fault)

-- why `--reopen` with `--rounds` is refused, in the form of `clap`
abbrev pub reopens_rounds_text : List ℕ
reopens_rounds_text =
    codes "error: the argument '--reopen' cannot be used with '--rounds <R>'" ++ 10 ∷ 10 ∷ codes "For more information, try '--help'." ++ 10 ∷ []

-- why this text of `--at` is refused, in the form of `clap`
abbrev pub not_a_place_text : List ℕ → List ℕ
not_a_place_text text = codes "error: invalid value '" ++ text ++ codes "' for '--at <LAT,LON>'\n\nFor more information, try '--help'.\n"

-- an allocation was refused, and only that is printed
pub record OutOfMemory (err_old err_new : Told) (status : ℕ) : Type 0 where
  pub told : Tells err_old err_new (fault_line fault.NoMemory)
  pub status_is : status ≡ 1

-- each number after its name
abbrev pub tally_line : Tally → List ℕ
tally_line tally =
    codes "lines " ++ decimal tally.lines ++ codes " frames " ++ decimal tally.frames ++ codes " ticks " ++ decimal tally.ticks
    ++ codes " shows " ++ decimal tally.shows ++ codes " blank " ++ decimal tally.blank ++ codes " modeac " ++ decimal tally.mode_ac
    ++ codes " faults " ++ decimal tally.faults ++ codes " accepted " ++ decimal tally.accepted ++ codes " refused " ++ decimal tally.refused
    ++ 10 ∷ []

-- a tally, and directly after it the fault of that path
abbrev pub pump_lines : Result Tally PumpFault → List ℕ
pump_lines (Ok tally) = tally_line tally
pump_lines (Err (pump.Read tally)) = tally_line tally ++ fault_line fault.Read
pump_lines (Err (pump.TooManyTurns tally)) = tally_line tally ++ fault_line fault.TooManyReads
pump_lines (Err (pump.NoMemory tally)) = tally_line tally ++ fault_line fault.NoMemory

-- a failed write, if there is one
abbrev pub output_lines : Bool → List ℕ
output_lines false = []
output_lines true = fault_line fault.Write

-- these paths weren't read to their ends, unless another fault was printed, as the status before says
abbrev pub unfinished_lines : ℕ → List (List ℕ) → List ℕ
unfinished_lines status paths = cond (nat_eq status 0) (flat_map (λ (path : List ℕ). telling_line (unfinished_words path)) paths) []

-- a tally and at most one fault: that of the answer, or else that of the output
abbrev pub replay_lines : Result Tally ReplayFault → Bool → List ℕ
replay_lines (Ok tally) has_failed = tally_line tally ++ output_lines has_failed
replay_lines (Err (replay.Read tally)) has_failed = tally_line tally ++ fault_line fault.Read
replay_lines (Err (replay.Write tally)) has_failed = tally_line tally ++ fault_line fault.Write
replay_lines (Err (replay.TooManyTurns tally)) has_failed = tally_line tally ++ fault_line fault.TooManyReads
replay_lines (Err (replay.NoMemory tally)) has_failed = tally_line tally ++ fault_line fault.NoMemory
