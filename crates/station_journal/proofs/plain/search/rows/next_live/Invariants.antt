use Rattle.std.proofs.Common.{◌≡◌, ◌<◌, ◌^◌, take, IfSome, reverse, filter}
use Rattle.station_journal.proofs.Common.{senders, first, is_live_from}
use Rattle.station_journal.proofs.plain.search.rows.next_live.Given as goal

abbrev pub invariant-loop-place : goal.invariant-loop-place
invariant-loop-place l = record {
  best : l.best ≡ first (filter (is_live_from l.from l.base (reverse l.entries)) (senders (reverse (take l.place l.entries))));
  small : IfSome l.best (λ a. a < 2 ^ 24);
}
