use Rattle.std.proofs.Common.{◌≡◌, drop, arith}
use Rattle.std.specs.List.{prefix_len}
use Rattle.std.proofs.lemmas.List.Sums.{prefix_len-drop_no, prefix_len-drop_all}
use Rattle.modes_frame.specs.Reading.{is_blank}
use Rattle.modes_frame.proofs.BlankLemmas.{front-is}
use Rattle.modes_frame.proofs.blanks.without_front.Goals as goal
use Rattle.modes_frame.proofs.blanks.without_front.Goals.{then-loop-start-test+else-is_blank_byte, else-loop-start-test}

pub returns-clause-value : goal.returns-clause-value
returns-clause-value c =
    let none : prefix_len is_blank (drop c.loop-start.start c.args.line.now) ≡ 0 = elim c.loop-start-test.branch [
      | then-loop-start-test+else-is_blank_byte w ↦ grind (arith, prefix_len-drop_no)
      | else-loop-start-test w ↦ grind (arith, prefix_len-drop_all)
    ] in
    front-is c.args.line.now c.loop-start.start (omega arith)
