-- The words that proofs of this crate and of those above it cite most, passed on from one place. Declares nothing.
pub use Rattle.station_lines.specs.Calls.{entry_asked_by, frame_in, frames_of, journal_after, log_after_entry, log_after_line, pump_command, replay_command}
unfoldable pub use Rattle.station_lines.specs.Calls.{heard_line}
pub use Rattle.station_lines.specs.Command.{are_digits, command_by, decimal_value, of_line, tick_at, time_in, with_digit}
unfoldable pub use Rattle.station_lines.specs.Command.{command_of}
pub use Rattle.station_lines.specs.CommandRules.{Commands, IsReceived, ReadsCommand, WritesMoment}
pub use Rattle.station_lines.specs.Counting.{Counts, CountsLines, CountsNoCall, is_blank_line, is_frame, is_mode_ac, is_show, is_tick}
pub use Rattle.station_lines.specs.Drawing.{AtEnd, Draws, Ending, EndsAs, FailsOnce, Gathers, Gives, GivesNone, IsOver, LineStopped, ReadFailed, StopsWithin, Taken, TakesBytes, TakesEach, TakesLast, TurnsOver, ended_by, ending_as, is_read_failed, stopped_as}
pub use Rattle.station_lines.specs.Feeds.{Feeds, is_reply}
pub use Rattle.station_lines.specs.ParsedLines.{parsed_of, read_as}
pub use Rattle.station_lines.specs.Pump.{Pumping, Pumps, PumpsAll, PumpsFrame, Wants, pump_answer, pump_ending, tally_of_pump, want_of}
pub use Rattle.station_lines.specs.PumpLaws.{Pumps-none, Pumps-then, frames_of-append}
pub use Rattle.station_lines.specs.Reads.{longest_read}
pub use Rattle.station_lines.specs.declared.command.Command.{Command}
pub use Rattle.station_lines.specs.declared.command.CommandFault.{CommandFault}
pub use Rattle.station_lines.specs.declared.tally.Tally.{Tally}
