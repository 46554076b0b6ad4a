use Rattle.station_portions.proofs.BacklogLemmas.{none_after}
use Rattle.station_portions.proofs.backlog.border.Goals as goal

pub returns-else-bytes-at-ne10-clause-none : goal.returns-else-bytes-at-ne10-clause-none
returns-else-bytes-at-ne10-clause-none c = none_after c.args.bytes.now c.loop-at.at c.loop-at.invariant.1

pub returns-after-loop-at-clause-none : goal.returns-after-loop-at-clause-none
returns-after-loop-at-clause-none c = none_after c.args.bytes.now c.loop-at.at c.loop-at.invariant.1
