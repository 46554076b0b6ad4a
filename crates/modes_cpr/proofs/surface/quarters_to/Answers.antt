use Rattle.std.proofs.Common.{ℕ, ℤ, pos, ◌*◌, ◌-ℤ◌, ◌+ℤ◌, ◌*ℤ◌, w32, w64, FitsSigned, rules, ap, ◌∙◌, ◌≡◌, arith, unsigned_abs}
use Rattle.std.proofs.lemmas.Int.{ints, to_z-of_z}
use Rattle.modes_cpr.proofs.Common.{floor}
use Rattle.modes_cpr.proofs.SurfaceCommon.{quarters_to}
use Rattle.modes_cpr.proofs.SurfaceBoundLemmas.{quarters_apart_is, few_quarters}
use Rattle.modes_cpr.proofs.surface.quarters_to.Goals as goal

value : goal.returns-clause-value
unfolding quarters_to
value c =
    let fits : FitsSigned w64 c.floor.result = search rules in
    let b : 900000000 * c.args.angle.den ≡ 90 * (c.args.angle.den * 10000000) = omega arith in
    to_z-of_z w64 c.floor.result fits
    ∙ c.floor.ensures
    ∙ ap (λ (v : ℤ). floor v (900000000 * c.args.angle.den)) (quarters_apart_is c.scaled.result c.args.angle.num c.args.angle.den c.scaled.ensures.fits c.requires.fits c.requires.most)
    ∙ ap (λ (v : ℕ). floor (c.scaled.result -ℤ c.args.angle.num *ℤ pos 10000000 +ℤ pos (45 * (c.args.angle.den * 10000000))) v) b
    ∙ ap (λ (v : ℤ). floor (v -ℤ c.args.angle.num *ℤ pos 10000000 +ℤ pos (45 * (c.args.angle.den * 10000000))) (90 * (c.args.angle.den * 10000000))) (c.scaled.ensures.value ∙ ap (λ (v : ℤ). v *ℤ pos c.args.angle.den) (to_z-of_z w32 c.args.reference (search rules)))

pub returns-clause-value : goal.returns-clause-value
returns-clause-value c = value c

pub returns-clause-fits : goal.returns-clause-fits
returns-clause-fits c =
    let few = few_quarters c.args.reference c.args.angle (search rules) c.requires.whole c.requires.most c.requires.fits in
    let e = ap (λ v. c.args.angle.den * unsigned_abs v) (value c) in
    omega (arith, few, e)

pub overflow_add-apart : goal.overflow_add-apart
overflow_add-apart c = omega (arith, ints, c.scaled.ensures.fits, c.requires.fits, c.requires.most)
