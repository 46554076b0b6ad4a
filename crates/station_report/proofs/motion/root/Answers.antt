use Rattle.std.proofs.Common.{◌≡◌, ap, ◌∙◌, rules}
use Rattle.station_report.specs.Motion.{root}
use Rattle.station_report.proofs.RootLemmas.{root_of}
use Rattle.station_report.proofs.motion.root.Goals as goal

pub returns-in-Ok : goal.returns-in-Ok
returns-in-Ok c =
    let same : c.in-Ok.n ≡ c.args.n = search rules in
    root_of c.in-Ok.n c.isqrt.result c.isqrt.ensures.square_le c.isqrt.ensures.next_square_gt ∙ ap root same

pub returns-in-Err : goal.returns-in-Err
returns-in-Err c = root_of c.args.n c.isqrt-in-Err.result c.isqrt-in-Err.ensures.square_le c.isqrt-in-Err.ensures.next_square_gt
