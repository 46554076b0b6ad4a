use Rattle.std.proofs.Common.{◌≡◌, ◌≤◌, ◌^◌, drop, reverse}
use Rattle.station_journal.proofs.Common.{live_addresses, live_from}
use Rattle.station_journal.proofs.plain.search.rows.nth_live.Given as goal

abbrev pub invariant-loop-place : goal.invariant-loop-place
invariant-loop-place l = record {
  passed : live_from l.from l.base (reverse l.entries) ≡ drop l._place (live_addresses l.base (reverse l.entries));
  low : l.from ≤ 2 ^ 24;
}
