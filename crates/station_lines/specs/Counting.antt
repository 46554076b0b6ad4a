-- The kinds of lines, and what a tally counts of each.
use Rattle.std.specs.Prelude.{◌≡◌, ℕ, ◌+◌, Bool, true, false, List, Result, Ok, length, count_by, if◌then◌else◌}
use Rattle.modes_frame.specs.declared.cutter.Cut.{Cut}
use Rattle.modes_frame.specs.declared.line.Line.TheVariants.{Frame, ModeAc, Blank}
use Rattle.station_lines.specs.declared.command.Command.{Command}
use Rattle.station_lines.specs.declared.command.Command.TheVariants.{Tick, Show, Line as Received}
use Rattle.station_lines.specs.declared.command.CommandFault.{CommandFault}
use Rattle.station_lines.specs.declared.tally.Tally.{Tally}

-- the line has a frame of 56 or 112 bits
abbrev pub is_frame : Result Command CommandFault → Bool
is_frame (Ok (Received (Frame frame))) = true
is_frame _ = false

-- the line is a tick
abbrev pub is_tick : Result Command CommandFault → Bool
is_tick (Ok (Tick at)) = true
is_tick _ = false

-- the line asks for the table
abbrev pub is_show : Result Command CommandFault → Bool
is_show (Ok Show) = true
is_show _ = false

-- the line is a Mode A/C reply or a heartbeat
abbrev pub is_mode_ac : Result Command CommandFault → Bool
is_mode_ac (Ok (Received ModeAc)) = true
is_mode_ac _ = false

-- the line is of blanks alone
abbrev pub is_blank_line : Result Command CommandFault → Bool
is_blank_line (Ok (Received Blank)) = true
is_blank_line _ = false

-- the lines, read by `read`, are counted by their kinds, on top of the old counts; the others are faults
pub record CountsLines (read : Cut → Result Command CommandFault) (old new : Tally) (lines : List Cut) : Type 0 where
  pub lines_more : new.lines ≡ old.lines + length lines
  pub frames_more : new.frames ≡ old.frames + count_by (λ l. is_frame (read l)) lines
  pub ticks_more : new.ticks ≡ old.ticks + count_by (λ l. is_tick (read l)) lines
  pub shows_more : new.shows ≡ old.shows + count_by (λ l. is_show (read l)) lines
  pub mode_ac_more : new.mode_ac ≡ old.mode_ac + count_by (λ l. is_mode_ac (read l)) lines
  pub blank_more : new.blank ≡ old.blank + count_by (λ l. is_blank_line (read l)) lines

-- the tally counts these lines, read by `read`, by their kinds; the others are faults
pub record Counts (read : Cut → Result Command CommandFault) (tally : Tally) (lines : List Cut) : Type 0 where
  pub lines_are : tally.lines ≡ length lines
  pub frames_are : tally.frames ≡ count_by (λ l. is_frame (read l)) lines
  pub ticks_are : tally.ticks ≡ count_by (λ l. is_tick (read l)) lines
  pub shows_are : tally.shows ≡ count_by (λ l. is_show (read l)) lines
  pub mode_ac_are : tally.mode_ac ≡ count_by (λ l. is_mode_ac (read l)) lines
  pub blank_are : tally.blank ≡ count_by (λ l. is_blank_line (read l)) lines

-- one more line, with this many frames and ticks, and the answer to its call
pub record CountsCall (old new : Tally) (frames ticks : ℕ) (is_accepted : Bool) : Type 0 where
  pub lines_more : new.lines ≡ old.lines + 1
  pub frames_more : new.frames ≡ old.frames + frames
  pub ticks_more : new.ticks ≡ old.ticks + ticks
  pub shows_same : new.shows ≡ old.shows
  pub mode_ac_same : new.mode_ac ≡ old.mode_ac
  pub blank_same : new.blank ≡ old.blank
  pub accepted : new.accepted ≡ old.accepted + (if is_accepted then 1 else 0)

-- one more line that makes no call: this many questions for the table, blanks and Mode A/C replies, or a fault
pub record CountsNoCall (old new : Tally) (shows blanks mode_acs : ℕ) : Type 0 where
  pub lines_more : new.lines ≡ old.lines + 1
  pub frames_same : new.frames ≡ old.frames
  pub ticks_same : new.ticks ≡ old.ticks
  pub shows_more : new.shows ≡ old.shows + shows
  pub mode_ac_more : new.mode_ac ≡ old.mode_ac + mode_acs
  pub blank_more : new.blank ≡ old.blank + blanks
  pub accepted_same : new.accepted ≡ old.accepted
