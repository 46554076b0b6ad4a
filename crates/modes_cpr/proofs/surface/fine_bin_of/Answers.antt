use Rattle.std.proofs.Common.{ℤ, pos, ◌*◌, ◌+ℤ◌, ◌*ℤ◌, rules, ap, ◌∙◌}
use Rattle.modes_cpr.proofs.Common.{floor, modulo}
use Rattle.modes_cpr.proofs.SurfaceCommon.{fine_bin_of}
use Rattle.modes_cpr.proofs.BoundLemmas.{product_is}
use Rattle.modes_cpr.proofs.surface.fine_bin_of.Goals as goal

pub returns-clause-value : goal.returns-clause-value
unfolding fine_bin_of floor
returns-clause-value c =
    ap (λ (v : ℤ). floor (pos 1048576 *ℤ v +ℤ pos (360 * c.args.a.den)) (2 * (360 * c.args.a.den)))
    (c.modulo-rest.ensures.value
    ∙ ap (λ (v : ℤ). modulo v (360 * c.args.a.den)) (product_is c.args.a.num c.args.a.den c.args.zones (search rules) (search rules) c.requires.zones c.requires.turn))
