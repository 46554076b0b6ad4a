use Rattle.std.proofs.Common.{◌≡◌, ◌≤◌, ◌^◌, ◌++◌, length, map, reverse}
use Rattle.station_journal.proofs.Common.{row, table, live_from}
use Rattle.station_journal.proofs.plain.search.rows.all_rows.Given as goal

abbrev pub invariant-loop-address : goal.invariant-loop-address
invariant-loop-address l = record {
  listed : l.rows.items ++ map (row l.site l.base (reverse l.entries)) (live_from l.from l.base (reverse l.entries)) ≡ table l.site l.base (reverse l.entries);
  low : l.from ≤ 2 ^ 24;
}

abbrev pub decreases-loop-address : goal.decreases-loop-address
decreases-loop-address l = length (live_from l.from l.base (reverse l.entries))
