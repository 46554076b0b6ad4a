-- What a pump leaves of a lent desk.
use Rattle.std.specs.Prelude.{◌≡◌, ℕ, ◌+◌, List, Result, Ok, Err, length}
use Rattle.std.specs.declared.alloc.AllocError.{AllocError}
use Rattle.modes_frame.specs.declared.cutter.Cut.{Cut}
use Rattle.station_journal.specs.Log.{Log}
use Rattle.station_lines.specs.Calls.{pump_command, journal_after}
use Rattle.station_lines.specs.Counting.{Counts}
use Rattle.station_lines.specs.Drawing.{Draws}
use Rattle.station_lines.specs.Pump.{tally_of_pump, want_of, pump_ending}
use Rattle.streams.specs.Source.{SourceState}
use Rattle.station_replay.specs.Replay.{EndsWithCall}
use Rattle.station_lines.specs.declared.pumping.PumpFault.{PumpFault}
use Rattle.station_lines.specs.declared.tally.Tally.{Tally}

-- the journal is the run of the calls of the lines; out of memory, of all but the last call, which the verdict accepts
abbrev pub Runs : ℕ → Log → Log → List Cut → Result (Unit {0}) AllocError → Type 0
Runs seat before after lines (Ok done) = after ≡ journal_after pump_command seat before lines
Runs seat before after lines (Err want) = EndsWithCall pump_command seat before after lines

-- the source gave the lines, up to its end or the fault: the journal is the run of their calls by the seat, and the
-- tally counts them
pub record PumpsDesk (seat : ℕ) (before after : Log) (source_old source_new : SourceState) (turns : ℕ) (result : Result Tally PumpFault) : Type 0 where
  pub lines : List Cut
  pub draws : Draws source_old source_new turns (pump_ending result) lines
  pub runs : Runs seat before after lines (want_of result)
  pub counts : Counts pump_command (tally_of_pump result) lines
  pub no_ticks : (tally_of_pump result).ticks ≡ 0
  pub no_shows : (tally_of_pump result).shows ≡ 0
  pub accepted : (tally_of_pump result).accepted + length before.entries ≡ length after.entries
