use Rattle.std.specs.Prelude.{◌≡◌, take}
use Rattle.station_shared.specs.Closing.{accepted_at}
use Rattle.station_shared.proofs.close.accepted_of.Given as goal

abbrev pub invariant-loop-seat : goal.invariant-loop-seat
invariant-loop-seat g l = l.found ≡ accepted_at l.number (take l.seat-index l.seats)
