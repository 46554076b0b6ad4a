use Rattle.one_journal.proofs.MergeLemmas.{calls-decided, entries-are-of-seats}
use Rattle.one_journal.proofs.laws.a_merge_decides_each_call.Goals as goal

pub returns-clause-calls : goal.returns-clause-calls
returns-clause-calls c = calls-decided

pub returns-clause-seats : goal.returns-clause-seats
returns-clause-seats c = entries-are-of-seats
