use Rattle.std.proofs.Common.{rules, arith, unsigned_abs, ap}
use Rattle.modes_cpr.proofs.SurfaceBoundLemmas.{scaled_is, product_bound}
use Rattle.modes_cpr.proofs.surface.scaled.Goals as goal

pub returns-clause-value : goal.returns-clause-value
returns-clause-value c = scaled_is c.args.coordinate c.args.den (search rules) c.requires.most

pub returns-clause-fits : goal.returns-clause-fits
returns-clause-fits c =
    let e = ap unsigned_abs (scaled_is c.args.coordinate c.args.den (search rules) c.requires.most) in
    omega (arith, e, product_bound c.args.coordinate c.args.den (search rules) c.requires.most)
