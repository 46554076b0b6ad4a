use Rattle.std.specs.Prelude.{◌≡◌, ◌<◌, ℕ, eqb, count_by, take}
use Rattle.std.specs.List.{AllByRecursion}
use Rattle.station_shared.specs.Seats.{Seated}
use Rattle.station_shared.proofs.close.each_once.Given as goal

abbrev pub invariant-loop-seat : goal.invariant-loop-seat
invariant-loop-seat g l = AllByRecursion (λ (s : Seated). s.number < l.count) (take l.seat-index l.seats)

abbrev pub invariant-loop-number : goal.invariant-loop-number
invariant-loop-number g l = (k : ℕ) → k < l.number → count_by (λ (s : Seated). eqb k s.number) l.seats ≡ 1
