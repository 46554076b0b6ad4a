use Rattle.std.proofs.Common.{eqb-true}
use Rattle.modes_frame.proofs.LaneLemmas.{small-both}
use Rattle.modes_frame.proofs.digits.are_digits.Goals as goal

pub returns-clause-front : goal.returns-clause-front
returns-clause-front c is = (small-both c.args.front c.args.back c.fits-front.0 c.fits-back.0 (eqb-true _ 0 is)).0

pub returns-clause-back : goal.returns-clause-back
returns-clause-back c is = (small-both c.args.front c.args.back c.fits-front.0 c.fits-back.0 (eqb-true _ 0 is)).1
