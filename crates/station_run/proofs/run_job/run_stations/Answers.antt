use Rattle.std.proofs.Common.{[], ◌∷◌, ap, inr, option_map}
use Rattle.messages.proofs.Common.{told_of}
use Rattle.station_run.proofs.Common.{plan_of}
use Rattle.station_run.proofs.StationLemmas.{follows_sound, leaves_by, lost, read_on, run_ends, run_on}
use Rattle.station_run.proofs.run_job.run_stations.Goals as goal

pub returns-in-Err-clause-runs : goal.returns-in-Err-clause-runs
returns-in-Err-clause-runs g c =
    let ended = c.without_output.ensures in
    let plan = plan_of c.args.asked in
    let leaves = lost plan.has_displays plan.paths (told_of g.E.Write.contents c.loop.err) (told_of g.E.Write.contents c.without_output.new.err) _ c.without_output.result.status (ap (option_map g.O.Write.contents) ended.out)
    (record { fault = c.in-Err.fault; early = inr c.in-Err.ensures.unstarted; told = ended.told; status_is = ended.status }) in
    let whole = c.loop.invariant.all [] leaves.end leaves.ends_so in
    (whole.0, leaves_by _ _ _ _ _ _ leaves whole.1)

pub next_stage-requires-clause-read : goal.next_stage-requires-clause-read
next_stage-requires-clause-read g c κs within =
    let ran = c.in-Ok.ensures.ran in
    read_on _ _ _ _ (ap (λ p. p.threads.items) ran.paths) (ran.runs (told_of g.E.Write.contents c.loop.err)) c.loop.invariant.read

pub returns-in-Over-clause-most : goal.returns-in-Over-clause-most
returns-in-Over-clause-most g c =
    let ran = c.in-Ok.ensures.ran in
    (rw c.in-Over.is at (c.next_stage.ensures ran.start ran.reporter ran.receivers ran.counted ran.log)).0

pub returns-in-Over-clause-runs : goal.returns-in-Over-clause-runs
returns-in-Over-clause-runs g c =
    let ran = c.in-Ok.ensures.ran in
    let leaves = (rw c.in-Over.is at (c.next_stage.ensures ran.start ran.reporter ran.receivers ran.counted ran.log)).1 in
    let runs = ran.runs (told_of g.E.Write.contents c.loop.err) in
    let whole = c.loop.invariant.all (_ ∷ []) leaves.end (run_ends (plan_of c.args.asked) _ leaves.end runs leaves.ends_so) in
    (whole.0, leaves_by _ _ _ _ _ _ leaves whole.1)

pub loop-preserved : goal.loop-preserved
loop-preserved g c =
    let ran = c.in-Ok.ensures.ran in
    let next = rw c.in-Station.is at (c.next_stage.ensures ran.start ran.reporter ran.receivers ran.counted ran.log) in
    let runs = ran.runs (told_of g.E.Write.contents c.loop.err) in
    record {
      sound = follows_sound (plan_of c.args.asked) _ _ _ runs next.0;
      read = next.1;
      all = λ stations end from. c.loop.invariant.all (_ ∷ stations) end (run_on (plan_of c.args.asked) _ _ _ stations end runs next.0 from);
    }
