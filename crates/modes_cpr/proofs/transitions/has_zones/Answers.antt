use Rattle.std.proofs.Common.{ℕ, ◌+◌, ◌*◌, w64, unsigned_abs, refl, ap, ◌∙◌, nat_le, ◌==◌, count_by}
use Rattle.std.proofs.lemmas.Int.{to_z-of_z}
use Rattle.modes_cpr.specs.declared.transitions.TheConstants.{TRANSITIONS}
use Rattle.modes_cpr.specs.Zones.{zone_count, transitions}
use Rattle.modes_cpr.proofs.RisingLemmas.{rising}
use Rattle.modes_cpr.proofs.transitions.has_zones.Goals as goal

-- the checker computes that the table rises
pub is_count_from-requires-clause-rises : goal.is_count_from-requires-clause-rises
is_count_from-requires-clause-rises c = rising TRANSITIONS refl

pub returns : goal.returns
unfolding zone_count transitions
returns c =
    c.is_count_from.ensures
    ∙ ap (λ (v : ℕ). 1 + count_by (λ t. nat_le (v * 100000000) (t * c.args.den)) transitions == c.args.count) (c.unsigned_abs.ensures.value ∙ ap unsigned_abs (to_z-of_z w64 c.args.num c.ranges.num))
