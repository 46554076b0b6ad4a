use Rattle.std.proofs.Common.{◌≡◌, ◌+◌, ◌≤◌, ◌^◌, length, reverse}
use Rattle.station_journal.proofs.Common.{live_addresses, live_from}
use Rattle.station_journal.proofs.plain.search.rows.live_count.Given as goal

abbrev pub invariant-loop-address : goal.invariant-loop-address
invariant-loop-address l = record {
  counted : l.count + length (live_from l.from l.base (reverse l.entries)) ≡ length (live_addresses l.base (reverse l.entries));
  few : l.count ≤ l.from;
  low : l.from ≤ 2 ^ 24;
}

abbrev pub decreases-loop-address : goal.decreases-loop-address
decreases-loop-address l = length (live_from l.from l.base (reverse l.entries))
