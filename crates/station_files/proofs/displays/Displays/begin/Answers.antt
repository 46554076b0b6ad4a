use Rattle.std.proofs.Common.{◌∙◌, [], refl}
use Rattle.messages.specs.Telling.{told_of}
use Rattle.station_files.proofs.displays.Displays.begin.Goals as goal

pub invariant_of-displays : goal.invariant_of-displays
invariant_of-displays g c = record { alarm = told_of g.A.Write.contents c.args.alarm; writes = []; reported = refl; failed = refl }

pub returns-clause-table : goal.returns-clause-table
returns-clause-table g c = c.report_write.ensures.table ∙ c.in_ok-at.ensures
