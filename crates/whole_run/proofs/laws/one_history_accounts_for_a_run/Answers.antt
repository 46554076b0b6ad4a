use Rattle.whole_run.proofs.PortionLemmas.{run-took}
use Rattle.whole_run.proofs.RunLemmas.{one-history}
use Rattle.whole_run.proofs.WholeLemmas.{run-begins}
use Rattle.whole_run.proofs.laws.one_history_accounts_for_a_run.Goals as goal

pub returns-clause-taken : goal.returns-clause-taken
returns-clause-taken c = run-took

pub returns-clause-begins : goal.returns-clause-begins
returns-clause-begins c = run-begins

pub returns-clause-one : goal.returns-clause-one
returns-clause-one c = one-history
