use Rattle.std.proofs.Common.{◌∙◌, sym}
use Rattle.one_journal.proofs.ExampleLemmas.{none-lost, none-refused, none-twice, order-counts, worked-merge}
use Rattle.one_journal.proofs.laws.an_example_of_a_merge.Goals as goal

pub returns-clause-merge : goal.returns-clause-merge
returns-clause-merge c = worked-merge

pub returns-clause-lost : goal.returns-clause-lost
returns-clause-lost c = none-lost

pub returns-clause-twice : goal.returns-clause-twice
returns-clause-twice c = none-twice

pub returns-clause-refused : goal.returns-clause-refused
returns-clause-refused c = none-refused

pub returns-clause-order : goal.returns-clause-order
returns-clause-order c = λ start f g worked accepted merge. absurd (cc (sym accepted ∙ order-counts start f g worked merge))
