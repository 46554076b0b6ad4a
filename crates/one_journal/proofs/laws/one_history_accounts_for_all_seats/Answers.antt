use Rattle.one_journal.proofs.SeatLemmas.{seats-merge}
use Rattle.one_journal.proofs.StepLemmas.{did-steps}
use Rattle.one_journal.proofs.laws.one_history_accounts_for_all_seats.Goals as goal

pub returns : goal.returns
returns c = λ start entries journal n seats did resumed some closes each_did nobody_else.
    seats-merge start entries journal n seats did resumed some closes
    (λ k inside. let it = each_did k inside in (it.0, it.1, (it.2.0, did-steps start _ it.0 (did k) it.2.1))) nobody_else
