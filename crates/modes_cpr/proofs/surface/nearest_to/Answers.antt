use Rattle.std.proofs.Common.{◌∙◌, ◌<◌, ◌^◌, ℤ, pos, ◌*◌, ◌+ℤ◌, ◌*ℤ◌, ap, w32, w64, to_z, of_z, unsigned_abs, rules, arith}
use Rattle.std.proofs.lemmas.Int.{ints, to_z-of_z}
use Rattle.modes_cpr.proofs.Common.{Degrees}
use Rattle.modes_cpr.proofs.SurfaceCommon.{quarters_to, reference_angle}
use Rattle.modes_cpr.proofs.SurfaceBoundLemmas.{turned_is, turned_fits, turned_bound, turned_num, turned_whole}
use Rattle.modes_cpr.proofs.surface.nearest_to.Goals as goal

pub overflow_mul-turned : goal.overflow_mul-turned
overflow_mul-turned c = turned_fits c.quarters_to.result c.args.angle.den c.requires.whole c.requires.most c.quarters_to.ensures.fits

pub returns-clause-value : goal.returns-clause-value
returns-clause-value c =
    let q = c.quarters_to.result in
    let a = c.args.angle in
    let is = ap (λ v. to_z w64 (of_z w64 (to_z w64 (of_z w64 a.num) +ℤ to_z w64 (of_z w64 (pos 90 *ℤ v))))) (turned_is q a.den c.requires.whole c.requires.most c.quarters_to.ensures.fits)
    ∙ turned_num a.num (pos a.den *ℤ q) c.requires.fits (turned_bound q a.den c.requires.whole c.requires.most c.quarters_to.ensures.fits)
    ∙ ap (λ v. a.num +ℤ v) (turned_whole q a.den)
    ∙ ap (λ v. a.num +ℤ pos (90 * a.den) *ℤ v) (c.quarters_to.ensures.value ∙ ap (λ (v : ℤ). quarters_to (reference_angle v) a) (to_z-of_z w32 c.args.reference (search rules))) in
    (λ i. let f : Degrees = record { num = is i; den = a.den } in f)

pub returns-clause-fits : goal.returns-clause-fits
returns-clause-fits c =
    let q = c.quarters_to.result in
    let a = c.args.angle in
    let is = ap (λ v. to_z w64 (of_z w64 (to_z w64 (of_z w64 a.num) +ℤ to_z w64 (of_z w64 (pos 90 *ℤ v))))) (turned_is q a.den c.requires.whole c.requires.most c.quarters_to.ensures.fits)
    ∙ turned_num a.num (pos a.den *ℤ q) c.requires.fits (turned_bound q a.den c.requires.whole c.requires.most c.quarters_to.ensures.fits) in
    let e = ap unsigned_abs is in
    let b = turned_bound q a.den c.requires.whole c.requires.most c.quarters_to.ensures.fits in
    let few : unsigned_abs a.num < 2 ^ 39 = c.requires.fits in
    let m : unsigned_abs (a.num +ℤ pos 90 *ℤ (pos a.den *ℤ q)) < 2 ^ 60 = omega (arith, ints, b, few) in
    omega (arith, e, m)
