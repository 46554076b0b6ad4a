use Rattle.std.proofs.Common.{refl}
use Rattle.station_shared.proofs.SeatRunLemmas.{only_item, only_item_set}
use Rattle.station_shared.proofs.worker.run_part.Goals as goal

pub returns : goal.returns
returns g c d =
    rw (only_item c.args.part.now c.index-part-0.result d c.requires, only_item_set c.args.part.now _ d c.requires)
    (record { result = c.pump_held-answer.result; answered = refl; works = c.pump_held-answer.ensures })
