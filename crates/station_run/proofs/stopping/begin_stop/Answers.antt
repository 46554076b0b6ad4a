use Rattle.std.proofs.Common.{◌∷◌, [], zero, ap, arith, option_map, refl, string_bytes}
use Rattle.station_run.proofs.Common.{plan_of}
use Rattle.station_run.proofs.StationLemmas.{cannot_wait}
use Rattle.station_run.proofs.stopping.begin_stop.Goals as goal

pub returns-in-Err : goal.returns-in-Err
returns-in-Err g c =
    let name = string_bytes c.in-Some.pipe in
    cannot_wait (plan_of c.args.asked) name c.in-Err.fault (ap (option_map string_bytes) c.in-Some.is) (c.in-Err.ensures.unopened (name ∷ []) (zero, omega arith, refl))
