use Rattle.std.proofs.Common.{None, [], ap, inl, inr, option_map, refl}
use Rattle.messages.proofs.Common.{told_of}
use Rattle.station_run.proofs.Common.{begun_of, plan_of}
use Rattle.station_run.proofs.StationLemmas.{blank_for, leaves_by, lost}
use Rattle.station_run.proofs.run_job.run_in.Goals as goal

pub returns-in-Err-clause-runs : goal.returns-in-Err-clause-runs
returns-in-Err-clause-runs g c =
    let ended = c.without_output-ran.ensures in
    let plan = plan_of c.args.asked in
    let gone = ap (option_map g.O.Write.contents) ended.out in
    elim c.in-Err.ensures.early [
      | inl early ↦
          let leaves = lost plan.has_displays plan.paths (told_of g.E.Write.contents c.args.err) (told_of g.E.Write.contents c.without_output-ran.new.err) _ c.without_output-ran.result.status gone
          (record { fault = c.in-Err.fault; early = early; told = ended.told; status_is = ended.status }) in
          let blank = blank_for plan.file _ in
          inr (record { blank = blank.0; is_blank = blank.1; ring = None; stations = []; leaves = leaves_by _ _ _ _ _ _ leaves (inl (refl, leaves.ends_so)) })
      | inr why ↦ inl (record { fault = c.in-Err.fault; why = why; out = gone; told = ended.told; status_is = ended.status })
    ]

pub returns-clause-runs : goal.returns-clause-runs
returns-clause-runs g c =
    let first = c.in-Ok.ensures in
    let runs = c.run_stations-ran.ensures.runs in
    let leaves = rw first.out at runs.1 in
    inr (record {
      blank = c.in-Ok.stage.beside.record;
      is_blank = first.record;
      ring = c.in-Ok.stage.out.ring;
      stations = runs.0;
      leaves = leaves_by _ _ _ _ _ _ leaves (inr (begun_of c.in-Ok.stage, first.given, first.rounds_left, first.first, leaves.ends_so));
    })
