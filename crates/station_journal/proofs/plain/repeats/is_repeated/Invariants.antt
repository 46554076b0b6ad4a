use Rattle.std.proofs.Common.{◌≡◌, take, reverse}
use Rattle.station_journal.specs.Looked.{looked_in}
use Rattle.station_journal.proofs.plain.repeats.is_repeated.Given as goal

abbrev pub invariant-loop-place : goal.invariant-loop-place
invariant-loop-place l = l.looked ≡ looked_in (reverse (take l.place l.entries)) l.frame
