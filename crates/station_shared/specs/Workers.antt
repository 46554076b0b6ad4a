-- What a seat is after frames were fed through it, and what a worker's pump answers.
use Rattle.std.specs.Prelude.{◌≡◌, ℕ, ◌+◌, ◌⊎◌, List, [], ◌∷◌, ◌++◌, Option, Some, Result, Ok, Err, is_ok, count_by, length, map}
use Rattle.station_journal.specs.declared.entry.Entry.{Entry}
use Rattle.station_journal.specs.declared.entry.Entry.TheVariants.{Heard}
use Rattle.station_journal.specs.declared.refusal.Refusal.{Refusal}
use Rattle.station_lines.specs.Calls.{frames_of}
use Rattle.station_history.specs.History.{Known}
use Rattle.station_lines.specs.Pump.{PumpsAll, tally_of_pump}
use Rattle.streams.specs.Source.{SourceState}
use Rattle.station_history.specs.Start.{Start}
use Rattle.station_shared.specs.Seats.{Seated, Accepted, Refused}
use Rattle.station_lines.specs.declared.pumping.PumpFault.{PumpFault}
use Rattle.station_lines.specs.declared.tally.Tally.{Tally}

-- one step of a seat for a frame; the answer leaves out the receipt
abbrev pub SeatSteps : Start → Seated → List ℕ → Result (Unit {0}) Refusal → Seated → Type 0
SeatSteps start old frame (Ok taken) new = (receipt : Known) × Accepted start old new (Heard old.number frame) receipt
SeatSteps start old frame (Err refusal) new = Refused start old new (Heard old.number frame) refusal

-- the second list contains the items of the first, in their order
abbrev pub Within : List Entry → List Entry → Type 0
Within [] ys = Unit {0}
Within (x ∷ xs) [] = ⊥
Within (x ∷ xs) (y ∷ ys) = ((x ≡ y) × Within xs ys) ⊎ Within (x ∷ xs) ys

-- the frames that were accepted
abbrev pub accepted_frames : List (List ℕ) → List (Result (Unit {0}) Refusal) → List (List ℕ)
accepted_frames [] answers = []
accepted_frames (frame ∷ frames) [] = []
accepted_frames (frame ∷ frames) (Ok taken ∷ answers) = frame ∷ accepted_frames frames answers
accepted_frames (frame ∷ frames) (Err refusal ∷ answers) = accepted_frames frames answers

abbrev pub heard_by : ℕ → List (List ℕ) → List Entry
heard_by seat frames = map (λ (frame : List ℕ). Heard seat frame) frames

-- the same seat, after its calls for these frames got these answers: what it has seen since contains the accepted frames
-- as its entries, in their order
pub record Fed (old new : Seated) (frames : List (List ℕ)) (answers : List (Result (Unit {0}) Refusal)) : Type 0 where
  pub more : List Entry
  pub later : old.seen ++ more ≡ new.seen
  pub stand : Within (heard_by old.number (accepted_frames frames answers)) more
  pub many : length (accepted_frames frames answers) ≡ count_by is_ok answers
  pub accepted : new.accepted ≡ old.accepted + count_by is_ok answers
  pub number : new.number ≡ old.number
  pub place : new.can_look ≡ old.can_look

-- a pump fed the seat by its steps, whether the answer is a tally or a fault: what the seat has seen since contains the
-- accepted frames in their order, and it had as many calls accepted as the tally counts
pub record Works (start : Start) (old new : Seated) (source_old source_new : SourceState) (turns : ℕ) (result : Result Tally PumpFault) : Type 0 where
  pub pumps : PumpsAll (SeatSteps start) old new source_old source_new turns result
  pub fed : Fed old new (frames_of pumps.lines) pumps.answers
  pub accepted : new.accepted ≡ old.accepted + (tally_of_pump result).accepted

-- the worker has the answer of its pump
pub record Worked (start : Start) (old new : Seated) (source_old source_new : SourceState) (turns : ℕ) (answer : Option (Result Tally PumpFault)) : Type 0 where
  pub result : Result Tally PumpFault
  pub answered : answer ≡ Some result
  pub works : Works start old new source_old source_new turns result
