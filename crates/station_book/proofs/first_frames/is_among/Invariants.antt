use Rattle.std.proofs.Common.{◌≡◌, nat_eq, take}
use Rattle.std.specs.List.{list_any}
use Rattle.station_book.proofs.first_frames.is_among.Given as goal

abbrev pub invariant-loop-other : goal.invariant-loop-other
invariant-loop-other l = l.found ≡ list_any (nat_eq l.digest) (take l.other-index l.digests)
