use Rattle.messages.proofs.TellLemmas.{tells_both}
use Rattle.messages.proofs.faults.tell_after.Goals as goal

pub returns-clause-told : goal.returns-clause-told
returns-clause-told g c = tells_both _ _ _ _ _ c.write_tally.ensures c.tell.ensures.told
