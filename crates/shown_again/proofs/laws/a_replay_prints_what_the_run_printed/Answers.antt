use Rattle.shown_again.proofs.ReplayedLemmas.{run-replayed, run-wrote}
use Rattle.shown_again.proofs.laws.a_replay_prints_what_the_run_printed.Goals as goal

pub returns : goal.returns
returns c = record { again = run-replayed; well = run-wrote }
