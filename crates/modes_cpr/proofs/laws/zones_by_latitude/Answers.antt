use Rattle.modes_cpr.proofs.ZoneCountLemmas.{zone_count-counts, zone_count-decided}
use Rattle.modes_cpr.proofs.laws.zones_by_latitude.Goals as goal

pub returns-clause-counts : goal.returns-clause-counts
returns-clause-counts c = zone_count-counts

pub returns-clause-decided : goal.returns-clause-decided
returns-clause-decided c = zone_count-decided
