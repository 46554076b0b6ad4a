use Rattle.std.proofs.Common.{sym, ◌∙◌, ap, not}
use Rattle.rtrb.specs.Ring.{received}
use Rattle.station_portions.specs.Giving.{ungiven_bytes}
use Rattle.station_portions.proofs.GivingLemmas.{border_given, nothing_held}
use Rattle.station_portions.proofs.portions.Portions.is_between_lines.Goals as goal

pub returns-clause-border : goal.returns-clause-border
returns-clause-border g c settled =
    let portions = c.args.self.now in
    border_given (received portions.messages) (ungiven_bytes portions) (nothing_held (ungiven_bytes portions) (ap not (sym c.has_bytes.ensures) ∙ settled))
