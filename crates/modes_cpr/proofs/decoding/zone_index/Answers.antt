use Rattle.std.proofs.Common.{ℤ, w64, FitsSigned, rules, ap, ◌∙◌, arith}
use Rattle.std.proofs.lemmas.Int.{to_z-of_z}
use Rattle.modes_cpr.proofs.Common.{floor, bins, zone_index}
use Rattle.modes_cpr.proofs.BoundLemmas.{apart_is}
use Rattle.modes_cpr.proofs.decoding.zone_index.Goals as goal

pub returns : goal.returns
unfolding zone_index
returns c =
    let fits : FitsSigned w64 c.floor.result = search rules in
    to_z-of_z w64 c.floor.result fits
    ∙ c.floor.ensures
    ∙ ap (λ (v : ℤ). floor v bins) (apart_is c.args.even c.args.odd c.args.zones (search rules) (search rules) (omega arith))
