-- The law is proved for every number of zones from 1 to 59, and the table's is one of these.
use Rattle.modes_cpr.specs.Zones.{zone_count}
use Rattle.modes_cpr.proofs.MovingPointLemmas as law
use Rattle.modes_cpr.proofs.ZoneCountLemmas.{zone_count-counts}
use Rattle.modes_cpr.proofs.laws.moving.Goals as goal

pub returns-clause-any_zones : goal.returns-clause-any_zones
returns-clause-any_zones c = law.moving

pub returns-clause-zones : goal.returns-clause-zones
returns-clause-zones c = law.moving zone_count zone_count-counts
