use Rattle.std.proofs.Common.{◌≡◌, ◌+◌, ◌≤◌, length, take}
use Rattle.std.specs.List.{suffix_len}
use Rattle.modes_frame.specs.Reading.{is_blank}
use Rattle.modes_frame.proofs.blanks.without_back.Given as goal

-- what was passed is blank
abbrev pub invariant-loop-end : goal.invariant-loop-end
invariant-loop-end l = record {
  within : l.end ≤ length l.line;
  passed : l.end + suffix_len is_blank l.line ≡ length l.line + suffix_len is_blank (take l.end l.line);
}

abbrev pub decreases-loop-end : goal.decreases-loop-end
decreases-loop-end l = l.end
