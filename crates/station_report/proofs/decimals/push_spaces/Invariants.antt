use Rattle.std.proofs.Common.{◌≡◌, ◌++◌, replicate}
use Rattle.station_report.proofs.decimals.push_spaces.Given as goal

-- the spaces so far
abbrev pub invariant-loop : goal.invariant-loop
invariant-loop g l = l.to.items ≡ l.initial.to.items ++ replicate l.counter 32
