use Rattle.std.proofs.Common.{ℤ, pos, w32, w64, ◌≡◌, to_z, ap, ◌∙◌, arith, rules}
use Rattle.std.proofs.lemmas.Int.{to_z-of_z, to_z_pos}
use Rattle.modes_cpr.proofs.Common.{modulo, Degrees}
use Rattle.modes_cpr.proofs.SurfaceCommon.{decoded_near, nearest_to, reference_angle, surface_angle}
use Rattle.modes_cpr.proofs.surface.decoded_near.Goals as goal

pub returns-clause-value : goal.returns-clause-value
unfolding decoded_near
returns-clause-value c =
    let zone : to_z w64 c.modulo-zone.result ≡ modulo c.args.index c.args.zones =
    to_z_pos w64 c.modulo-zone.result (omega arith) ∙ c.modulo-zone.ensures.value ∙ ap (λ (v : ℤ). modulo v c.args.zones) (to_z-of_z w64 c.args.index c.ranges.index) in
    c.nearest_to.ensures.value
    ∙ ap (λ (v : ℤ). nearest_to (reference_angle v) c.surface_angle.result) (to_z-of_z w32 c.args.reference (search rules))
    ∙ ap (λ (v : Degrees). nearest_to (reference_angle c.args.reference) v) (c.surface_angle.ensures.value ∙ ap (λ (v : ℤ). surface_angle c.args.zones v (pos c.args.bin)) zone)
