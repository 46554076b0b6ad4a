-- Lines that are parsed before they are taken.
use Rattle.std.specs.Prelude.{Bool, true, false, Result, Ok, Err}
use Rattle.modes_frame.specs.declared.cutter.Cut.{Cut}
use Rattle.modes_frame.specs.declared.line.Line.TheVariants.{Frame, ModeAc, Blank}
use Rattle.station_lines.specs.Calls.{replay_command, pump_command}
use Rattle.station_lines.specs.declared.command.Command.{Command}
use Rattle.station_lines.specs.declared.command.Command.TheVariants.{Tick, Show, Line as Received}
use Rattle.station_lines.specs.declared.command.CommandFault.{CommandFault}
use Rattle.station_lines.specs.declared.parsed_line.ParsedLine.{ParsedLine}
use Rattle.station_lines.specs.declared.parsed_line.ParsedLine.TheVariants as parsed

-- what a line says in a replay, or else to a pump
abbrev pub read_as : Bool → Cut → Result Command CommandFault
read_as true = replay_command
read_as false = pump_command

-- what a line says, once it is parsed; all faults are one
abbrev pub parsed_of : Result Command CommandFault → ParsedLine
parsed_of (Ok (Tick at)) = parsed.Tick at
parsed_of (Ok Show) = parsed.Show
parsed_of (Ok (Received (Frame frame))) = parsed.Frame frame
parsed_of (Ok (Received ModeAc)) = parsed.ModeAc
parsed_of (Ok (Received Blank)) = parsed.Blank
parsed_of (Err fault) = parsed.Fault
