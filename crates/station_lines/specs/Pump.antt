-- What a pump does with its lines, one after another.
use Rattle.std.specs.Prelude.{◌≡◌, ℕ, ◌+◌, true, List, [], ◌∷◌, ◌++◌, Result, Ok, Err, is_ok, count_by, alloc_error, if◌then◌else◌}
use Rattle.std.specs.List.{list_all}
use Rattle.std.specs.declared.alloc.AllocError.{AllocError}
use Rattle.modes_frame.specs.declared.cutter.Cut.{Cut}
use Rattle.modes_frame.specs.declared.line.Line.TheVariants.{Frame}
use Rattle.station_journal.specs.declared.refusal.Refusal.{Refusal}
use Rattle.station_journal.specs.declared.refusal.Refusal.TheVariants.{NoMemory}
use Rattle.station_lines.specs.Calls.{pump_command, frames_of}
use Rattle.station_lines.specs.Counting.{CountsCall, CountsLines, Counts}
use Rattle.station_lines.specs.Drawing.{Ending, AtEnd, ReadFailed, TurnsOver, LineStopped, Draws}
use Rattle.station_lines.specs.Feeds.{Feeds, is_reply}
use Rattle.streams.specs.Source.{SourceState}
use Rattle.station_lines.specs.declared.command.Command.TheVariants.{Line as Received}
use Rattle.station_lines.specs.declared.pumping.PumpFault.{PumpFault}
use Rattle.station_lines.specs.declared.pumping.PumpFault.TheVariants as Faults
use Rattle.station_lines.specs.declared.lines.Ended.{Ended}
use Rattle.station_lines.specs.declared.lines.Ended.TheVariants as Ends
use Rattle.station_lines.specs.declared.tally.Tally.{Tally}

-- the last of these lines has a frame, and its answer, the last of these, is out of memory; no other answer is
pub record EndsWithWant (lines : List Cut) (answers : List (Result (Unit {0}) Refusal)) : Type 0 where
  pub front : List Cut
  pub last : Cut
  pub frame : List ℕ
  pub replies : List (Result (Unit {0}) Refusal)
  pub parts : lines ≡ front ++ last ∷ []
  pub asks : pump_command last ≡ Ok (Received (Frame frame))
  pub told : answers ≡ replies ++ Err NoMemory ∷ []
  pub others : list_all is_reply replies ≡ true

-- out of memory stops a pump, and no other refusal does
abbrev pub pump_stop : Result (Unit {0}) Refusal → Result (Unit {0}) AllocError
pump_stop answer = if is_reply answer then Ok tt else Err alloc_error

-- no line met out of memory, or only the last one did
abbrev pub Wants : List Cut → List (Result (Unit {0}) Refusal) → Result (Unit {0}) AllocError → Type 0
Wants lines answers (Ok done) = list_all is_reply answers ≡ true
Wants lines answers (Err want) = EndsWithWant lines answers

-- the state of a pump: the feed and the tally
pub record Pumping (F : Type 0) : Type 0 where
  pub feed : F
  pub tally : Tally

-- what a pump has done once it has taken these lines
pub record Pumps {F : Type 0} (gives : F → List ℕ → Result (Unit {0}) Refusal → F → Type 0) (old : Pumping F) (lines : List Cut) (result : Result (Unit {0}) AllocError) (new : Pumping F) : Type 0 where
  pub answers : List (Result (Unit {0}) Refusal)
  pub feeds : Feeds gives old.feed (frames_of lines) answers new.feed
  pub wants : Wants lines answers result
  pub counts : CountsLines pump_command old.tally new.tally lines
  pub accepted : new.tally.accepted ≡ old.tally.accepted + count_by is_ok answers

-- a frame was fed and its line counted: out of memory stops the pump, and no other refusal does
pub record PumpsFrame {F : Type 0} (gives : F → List ℕ → Result (Unit {0}) Refusal → F → Type 0) (before after : F) (frame : List ℕ) (old new : Tally) (result : Result (Unit {0}) AllocError) : Type 0 where
  pub answer : Result (Unit {0}) Refusal
  pub fed : gives before frame answer after
  pub stops : result ≡ pump_stop answer
  pub counts : CountsCall old new 1 0 (is_ok answer)

-- ---- the whole pump

-- the answer of a pump that ended so, with what it counted
abbrev pub pump_answer : Ended AllocError → Tally → Result Tally PumpFault
pump_answer Ends.AtEnd tally = Ok tally
pump_answer Ends.ReadFailed tally = Err (Faults.Read tally)
pump_answer Ends.TurnsOver tally = Err (Faults.TooManyTurns tally)
pump_answer (Ends.Stopped want) tally = Err (Faults.NoMemory tally)

-- what a pump counted, whatever it answers
abbrev pub tally_of_pump : Result Tally PumpFault → Tally
tally_of_pump (Ok tally) = tally
tally_of_pump (Err (Faults.Read tally)) = tally
tally_of_pump (Err (Faults.TooManyTurns tally)) = tally
tally_of_pump (Err (Faults.NoMemory tally)) = tally

-- whether the pump was out of memory, by its answer
abbrev pub want_of : Result Tally PumpFault → Result (Unit {0}) AllocError
want_of (Err (Faults.NoMemory tally)) = Err alloc_error
want_of _ = Ok tt

-- why no further line was taken, by the pump's answer
abbrev pub pump_ending : Result Tally PumpFault → Ending
pump_ending (Ok tally) = AtEnd
pump_ending (Err (Faults.Read tally)) = ReadFailed
pump_ending (Err (Faults.TooManyTurns tally)) = TurnsOver
pump_ending (Err (Faults.NoMemory tally)) = LineStopped

-- lines were taken of what the source gave, up to its end or the fault. The feed took their frames step by step,
-- and the tally counts the lines
pub record PumpsAll {F : Type 0} (gives : F → List ℕ → Result (Unit {0}) Refusal → F → Type 0) (before after : F) (source_old source_new : SourceState) (turns : ℕ) (result : Result Tally PumpFault) : Type 0 where
  pub lines : List Cut
  pub answers : List (Result (Unit {0}) Refusal)
  pub draws : Draws source_old source_new turns (pump_ending result) lines
  pub feeds : Feeds gives before (frames_of lines) answers after
  pub wants : Wants lines answers (want_of result)
  pub counts : Counts pump_command (tally_of_pump result) lines
  pub no_ticks : (tally_of_pump result).ticks ≡ 0
  pub no_shows : (tally_of_pump result).shows ≡ 0
  pub accepted : (tally_of_pump result).accepted ≡ count_by is_ok answers
