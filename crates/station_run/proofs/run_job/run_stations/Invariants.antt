use Rattle.std.proofs.Common.{List, map, reverse, string_bytes}
use Rattle.station_journal.specs.Resume.{IsSound}
use Rattle.station_portions.specs.Giving.{state_of}
use Rattle.messages.proofs.Common.{told_of}
use Rattle.station_run.proofs.Common.{AreRead, RunEnd, RunsFrom, Station, begun_of, plan_of, program_limits, streams_of}
use Rattle.station_run.proofs.run_job.run_stations.Given as goal

-- with the stations to come, those so far are the stations of the run
abbrev pub invariant-loop : goal.invariant-loop
invariant-loop g l =
    let told = told_of g.E.Write.contents in
    record {
      sound : IsSound (program_limits l.stage.kept.site) l.stage.kept.recent.base (reverse l.stage.kept.recent.entries.items);
      read : AreRead (map string_bytes l.fn.asked.paths.now.items) l.stage.paths.threads.items (map state_of l.stage.inputs.items) l.stage.answers.items;
      all : (stations : List Station) (end : RunEnd) → RunsFrom (plan_of l.fn.asked) (begun_of l.stage) (streams_of l.stage.out l.stage.beside.record (told l.err)) stations end
          → (whole : List Station) × RunsFrom (plan_of l.fn.asked) (begun_of l.fn.stage) (streams_of l.fn.stage.out l.fn.stage.beside.record (told l.fn.err)) whole end;
    }
