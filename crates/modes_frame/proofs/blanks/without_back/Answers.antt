use Rattle.std.proofs.Common.{◌≡◌, take, arith}
use Rattle.std.specs.List.{suffix_len}
use Rattle.std.proofs.lemmas.List.Sums.{suffix_len-take_no}
use Rattle.modes_frame.specs.Reading.{is_blank}
use Rattle.modes_frame.proofs.BlankLemmas.{back-is}
use Rattle.modes_frame.proofs.blanks.without_back.Goals as goal
use Rattle.modes_frame.proofs.blanks.without_back.Goals.{then-loop-end-test+else-is_blank_byte, else-loop-end-test}

pub returns-clause-value : goal.returns-clause-value
returns-clause-value c =
    let none : suffix_len is_blank (take c.loop-end.end c.args.line.now) ≡ 0 = elim c.loop-end-test.branch [
      | then-loop-end-test+else-is_blank_byte w ↦ grind (arith, suffix_len-take_no)
      | else-loop-end-test w ↦ grind arith
    ] in
    back-is c.args.line.now c.loop-end.end (omega arith)
