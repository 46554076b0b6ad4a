use Rattle.std.proofs.Common.{refl}
use Rattle.station_journal.proofs.AirborneLemmas.{fixes_alike, none_on_ground}
use Rattle.journal_laws.proofs.laws.rows_without_a_site.Goals as goal

pub returns-clause-velocity : goal.returns-clause-velocity
returns-clause-velocity c frame = refl

pub returns-clause-position : goal.returns-clause-position
returns-clause-position c = fixes_alike

pub returns-clause-on_ground : goal.returns-clause-on_ground
returns-clause-on_ground c = none_on_ground
