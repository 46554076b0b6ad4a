-- What a receiver of a station did.
use Rattle.std.specs.Prelude.{◌≡◌, ℕ, List, [], ◌∷◌, Result, is_ok, count_by, length}
use Rattle.modes_frame.specs.declared.cutter.Cut.{Cut}
use Rattle.streams.specs.Source.{SourceState}
use Rattle.station_journal.specs.declared.entry.Entry.TheVariants.{Heard}
use Rattle.station_journal.specs.declared.refusal.Refusal.{Refusal}
use Rattle.station_lines.specs.Calls.{frames_of, pump_command}
use Rattle.station_lines.specs.Counting.{Counts}
use Rattle.station_lines.specs.Drawing.{Draws}
use Rattle.station_lines.specs.Pump.{Wants, pump_ending, tally_of_pump, want_of}
use Rattle.station_lines.specs.declared.pumping.PumpFault.{PumpFault}
use Rattle.station_lines.specs.declared.tally.Tally.{Tally}
use Rattle.one_journal.specs.Merge.{Deed, Called}

-- the calls of a seat for these frames, in order, with these answers
abbrev pub feeds : ℕ → List (List ℕ) → List (Result (Unit {0}) Refusal) → List Deed
feeds seat [] answers = []
feeds seat (frame ∷ frames) [] = []
feeds seat (frame ∷ frames) (answer ∷ answers) = Called (Heard seat frame) answer ∷ feeds seat frames answers

-- a receiver took these lines of what its source gave, and called with the frame of each that has one, and no more. Its tally
-- counts the lines by their kinds, and how many of the calls were accepted
pub record IsReceiver (seat : ℕ) (old new : SourceState) (turns : ℕ) (result : Result Tally PumpFault) (deeds : List Deed) : Type 0 where
  pub lines : List Cut
  pub draws : Draws old new turns (pump_ending result) lines
  pub answers : List (Result (Unit {0}) Refusal)
  pub each : length answers ≡ length (frames_of lines)
  pub calls : deeds ≡ feeds seat (frames_of lines) answers
  pub wants : Wants lines answers (want_of result)
  pub counts : Counts pump_command (tally_of_pump result) lines
  pub accepted : (tally_of_pump result).accepted ≡ count_by is_ok answers
