use Rattle.whole_run.proofs.AccountedLemmas.{run-accounted}
use Rattle.whole_run.proofs.laws.one_journal_accounts_for_each_station.Goals as goal

pub returns : goal.returns
returns c = run-accounted
