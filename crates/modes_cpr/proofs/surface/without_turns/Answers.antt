use Rattle.std.proofs.Common.{◌∙◌, ◌*◌, ◌-ℤ◌, ℤ, pos, ap, rules}
use Rattle.modes_cpr.proofs.Common.{Degrees, modulo}
use Rattle.modes_cpr.proofs.SurfaceCommon.{without_turns}
use Rattle.modes_cpr.proofs.SurfaceBoundLemmas.{unturned_num, shifted_num}
use Rattle.modes_cpr.proofs.surface.without_turns.Goals as goal

pub returns-clause-value : goal.returns-clause-value
unfolding without_turns
returns-clause-value c =
    let a = c.args.angle in
    let is = unturned_num c.modulo-rest.result a.den c.modulo-rest.ensures.bound (search rules)
    ∙ ap (λ v. v -ℤ pos (180 * a.den)) (c.modulo-rest.ensures.value ∙ ap (λ (v : ℤ). modulo v (2 * (180 * a.den))) (shifted_num a.num a.den c.requires.fits (search rules))) in
    (λ i. let f : Degrees = record { num = is i; den = a.den } in f)
