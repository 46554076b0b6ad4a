-- The law is proved for every number of zones.
use Rattle.modes_cpr.specs.Zones.{zone_count}
use Rattle.modes_cpr.proofs.SurfaceRoundTripLemmas as law
use Rattle.modes_cpr.proofs.laws.surface_round_trip.Goals as goal

pub returns-clause-any_zones : goal.returns-clause-any_zones
returns-clause-any_zones c = law.round_trip

pub returns-clause-zones : goal.returns-clause-zones
returns-clause-zones c = law.round_trip zone_count
