use Rattle.std.proofs.Common.{None, ap, ◌∙◌, reverse}
use Rattle.station_journal.specs.Found.{is_recent}
use Rattle.station_journal.proofs.SearchLemmas.{live_if_recent}
use Rattle.station_journal.proofs.plain.search.is_live.Goals as goal

pub returns : goal.returns
returns c =
    c.is_recent.ensures ∙ ap is_recent c.search-found.ensures ∙ live_if_recent None c.args.base c.args.address (reverse c.args.entries.now) c.requires
