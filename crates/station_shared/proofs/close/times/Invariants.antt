use Rattle.std.specs.Prelude.{◌≡◌, ◌≤◌, eqb, count_by, take}
use Rattle.station_shared.specs.Seats.{Seated}
use Rattle.station_shared.proofs.close.times.Given as goal

abbrev pub invariant-loop-seat : goal.invariant-loop-seat
invariant-loop-seat g l = (l.found ≡ count_by (λ (s : Seated). eqb l.number s.number) (take l.seat-index l.seats)) × (l.found ≤ l.seat-index)
