use Rattle.std.proofs.Common.{append_assoc}
use Rattle.messages.proofs.faults.write_tally.Goals as goal

pub returns : goal.returns
returns g c = simp append_assoc (simp append_assoc at c.line.ensures)
