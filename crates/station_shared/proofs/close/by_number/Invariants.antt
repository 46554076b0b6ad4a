use Rattle.std.specs.Prelude.{◌≡◌}
use Rattle.arrayvec.specs.ArrayVec.{array_vec_len}
use Rattle.station_shared.specs.Closing.{accepted_by}
use Rattle.station_shared.proofs.close.by_number.Given as goal

abbrev pub invariant-loop-number : goal.invariant-loop-number
invariant-loop-number g l = (l.accepted.items ≡ accepted_by l.number l.seats) × (array_vec_len l.accepted ≡ l.number)
