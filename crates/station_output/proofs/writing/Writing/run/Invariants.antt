use Rattle.station_output.specs.Queued.{WritesOn}
use Rattle.station_output.proofs.writing.Writing.run.Given as goal

abbrev pub invariant-loop : goal.invariant-loop
invariant-loop g l =
    WritesOn (g.S.Sink.state l.initial.writing.out).taken (g.S.Sink.state l.writing.out).taken l.initial.writing.tables l.writing.tables l.initial.writing.has_failed l.writing.has_failed
