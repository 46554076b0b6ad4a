use Rattle.std.proofs.Common.{◌≤◌, length}
use Rattle.rtrb.specs.Ring.{SameProducer, sent}
use Rattle.station_portions.proofs.Common.{HasNoLineFeed, longest_kept, unsent_bytes, SentSoFar}
use Rattle.station_portions.proofs.path_reader.PathReader.send_up_to_end.Given as goal

abbrev pub invariant-loop : goal.invariant-loop
invariant-loop g l =
    SentSoFar (g.I.Read.remaining l.initial.from) (g.I.Read.remaining l.from) (sent l.initial.self.messages) (sent l.self.messages) (unsent_bytes l.self.backlog)
    × HasNoLineFeed (unsent_bytes l.self.backlog)
    × (length (unsent_bytes l.self.backlog) ≤ longest_kept)
    × SameProducer l.initial.self.messages l.self.messages
