use Rattle.std.proofs.Common.{◌≡◌, ℕ, List, [], Result, Ok, Err, OnOk, take, refl, ap}
use Rattle.station_lines.specs.Pump.{Pumps}
use Rattle.station_lines.proofs.PumpLemmas.{PumpsAll-ended}
use Rattle.station_shared.specs.Workers.{SeatSteps}
use Rattle.station_shared.proofs.KeptLemmas.{Taken-kept}
use Rattle.station_shared.proofs.SeatRunLemmas.{Works-all}
use Rattle.station_shared.proofs.held_pump.pump_lent.Goals as goal

-- where no line is kept, the kept lines are none
none_left : {T E X : Type 0} (room : List X) (count : ℕ) (r : Result T E) → OnOk r (count ≡ 0) → OnOk r (take count room ≡ [])
none_left room count (Ok x) none = ap (λ n. take n room) none
none_left room count (Err e) none = tt

pub returns-clause-works : goal.returns-clause-works
returns-clause-works g c =
    let start = g.L.StationName.start in
    let ended = c.take_lines-ended.result in
    let all = c.take_lines-ended.ensures.taken in
    let taken = Taken-kept (Pumps (SeatSteps start)) _ ended all.lines all.draws (all.took.0 [] (rw c.requires.none refl)) (none_left c.take_lines-ended.new.taker.room.now _ _ c.take_lines-ended.ensures.settled) in
    rw c.answer.ensures (Works-all (PumpsAll-ended (SeatSteps start) c.requires.new ended taken) (λ x. x) start (λ x y frame answer step. step))
