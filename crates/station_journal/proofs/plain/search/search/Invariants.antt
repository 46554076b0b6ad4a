use Rattle.std.proofs.Common.{◌≡◌, take, reverse}
use Rattle.station_journal.specs.Found.{found_in}
use Rattle.station_journal.proofs.plain.search.search.Given as goal

abbrev pub invariant-loop-place : goal.invariant-loop-place
invariant-loop-place l = l.found ≡ found_in l.site l.base (reverse (take l.place l.entries)) l.address
