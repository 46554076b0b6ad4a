use Rattle.std.proofs.Common.{◌≡◌, ◌+◌, ◌*◌, w16, ap, ◌∙◌, arith}
use Rattle.std.proofs.lemmas.Int.{to_z-of_z}
use Rattle.station_report.specs.Motion.{square, root}
use Rattle.station_report.proofs.motion.speed_tenths.Goals as goal

pub returns : goal.returns
returns c =
    let east : c.square.result ≡ square c.args.east = c.square.ensures.value ∙ ap square (to_z-of_z w16 c.args.east c.ranges.east) in
    let north : c.square-2.result ≡ square c.args.north = c.square-2.ensures.value ∙ ap square (to_z-of_z w16 c.args.north c.ranges.north) in
    let is : 100 * (c.square.result + c.square-2.result) ≡ 100 * (square c.args.east + square c.args.north) = omega (arith, east, north) in
    c.root.ensures ∙ ap root is
