use Rattle.std.proofs.Common.{is_some, rules}
use Rattle.station_files.proofs.ShownLemmas.{are_reported}
use Rattle.station_files.specs.Displays.{have_failed}
use Rattle.station_run.proofs.next_station.display_status.Goals as goal

pub returns-clause-value : goal.returns-clause-value
returns-clause-value g c =
    (have_failed c.args.displays.now, c.status_of.ensures.value, are_reported (is_some c.args.asked.displays.now) c.args.displays.now (search rules) c.status_of.ensures.reported)
