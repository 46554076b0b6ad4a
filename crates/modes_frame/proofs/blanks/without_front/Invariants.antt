use Rattle.std.proofs.Common.{◌≡◌, ◌+◌, ◌-◌, ◌≤◌, length, drop}
use Rattle.std.specs.List.{prefix_len}
use Rattle.modes_frame.specs.Reading.{is_blank}
use Rattle.modes_frame.proofs.blanks.without_front.Given as goal

-- what was passed is blank
abbrev pub invariant-loop-start : goal.invariant-loop-start
invariant-loop-start l = record {
  within : l.start ≤ length l.line;
  passed : prefix_len is_blank l.line ≡ l.start + prefix_len is_blank (drop l.start l.line);
}

abbrev pub decreases-loop-start : goal.decreases-loop-start
decreases-loop-start l = length l.line - l.start
