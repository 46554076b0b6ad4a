use Rattle.std.proofs.Common.{append-nil}
use Rattle.messages.proofs.TellLemmas.{tells_both}
use Rattle.messages.proofs.tallies.tell_end.Goals as goal

pub returns-then-has_failed-clause-told : goal.returns-then-has_failed-clause-told
returns-then-has_failed-clause-told g c = rw c.if-has_failed.true (tells_both _ _ _ _ _ c.tell_answers-status.ensures.told c.tell.ensures.told)

pub returns-clause-told : goal.returns-clause-told
returns-clause-told g c = rw (c.if-has_failed.false, append-nil) c.tell_answers-status.ensures.told
