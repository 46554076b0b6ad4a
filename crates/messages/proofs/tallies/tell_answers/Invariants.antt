use Rattle.std.proofs.Common.{◌≡◌, ◌≤◌, fold, max, take, flat_map}
use Rattle.messages.proofs.Common.{status_of, Tells, pump_lines, told_of}
use Rattle.messages.proofs.tallies.tell_answers.Given as goal

abbrev pub invariant-loop-answer : goal.invariant-loop-answer
invariant-loop-answer g l = record {
  most : l.status ≤ 1;
  value : l.status ≡ fold (λ status answer. max status (status_of answer)) 0 (take l.answer-index l.answers.items);
  told : Tells (told_of g.E.Write.contents l.fn.err) (told_of g.E.Write.contents l.err) (flat_map pump_lines (take l.answer-index l.answers.items));
}
