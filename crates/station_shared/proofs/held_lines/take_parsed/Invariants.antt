use Rattle.std.proofs.Common.{◌≡◌, ◌+◌, ◌≤◌, List, take, Ok}
use mathlib.Core.List.{IsPrefix}
use Rattle.modes_frame.specs.declared.cutter.Cut.{Cut}
use Rattle.station_shared.proofs.Common.{parsed_all, SeatSteps}
use Rattle.station_lines.specs.Pump.{Pumps}
use Rattle.station_shared.proofs.held_lines.take_parsed.Given as goal

-- the lines so far were taken, and what the seat has seen is a prefix of the journal
abbrev pub invariant-loop-parsed : goal.invariant-loop-parsed
invariant-loop-parsed g l =
    record {
      room : l.tally.lines ≤ l.fn.tally.lines + l.parsed-index;
      met : IsPrefix l.seat.seen l.desk.log.entries;
      taken : (lines : List Cut) → l.ahead ≡ parsed_all lines →
          Pumps (SeatSteps g.L.StationName.start) (record { feed = l.fn.seat; tally = l.fn.tally }) (take l.parsed-index lines) (Ok tt) (record { feed = l.seat; tally = l.tally });
    }
