use Rattle.std.specs.Prelude.{◌≡◌, ◌++◌, List, length, sum_by, vec_len}
use Rattle.std.specs.List.{AllByRecursion}
use Rattle.station_shared.proofs.Common.{Backed, Seated}
use Rattle.station_shared.proofs.counted_desk.CountedDesk.close.Given as goal

abbrev pub invariant-loop-seat : goal.invariant-loop-seat
invariant-loop-seat g l =
    (gone : List Seated) × (l.fn.seats.items ≡ l.seats.items ++ gone) × AllByRecursion (Backed g.L.StationName.start l.desk.log.entries) gone × (l.rest.parts ≡ length gone) × (l.rest.amount ≡ sum_by (λ (s : Seated). s.accepted) gone)
    × (l.desk ≡ l.initial.desk)

abbrev pub decreases-loop-seat : goal.decreases-loop-seat
decreases-loop-seat g l = vec_len l.seats
