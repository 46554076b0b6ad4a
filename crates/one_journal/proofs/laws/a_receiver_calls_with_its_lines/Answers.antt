use Rattle.one_journal.proofs.SeatLemmas.{receiver-did}
use Rattle.one_journal.proofs.laws.a_receiver_calls_with_its_lines.Goals as goal

pub returns : goal.returns
returns c = receiver-did
