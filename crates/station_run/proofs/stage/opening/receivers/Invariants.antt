use Rattle.std.proofs.Common.{◌≡◌, ◌++◌, length, map}
use Rattle.std.specs.Vec.Iter.{into_iter_items}
use Rattle.station_run.proofs.stage.opening.receivers.Given as goal

-- the seats and the inputs of the receivers so far, and what is left of both
abbrev pub invariant-loop-seat : goal.invariant-loop-seat
invariant-loop-seat g l = record {
  seats : map (λ r. r.seat) l.receivers.items ++ into_iter_items l.seat-iterator.a ≡ l.fn.seats.items;
  inputs : map (λ r. r.source) l.receivers.items ++ into_iter_items l.seat-iterator.b ≡ l.fn.inputs.items;
  many : length (into_iter_items l.seat-iterator.a) ≡ length (into_iter_items l.seat-iterator.b);
}
