use Rattle.std.proofs.Common.{◌∙◌, sym}
use Rattle.station_reporter.proofs.ReportLemmas.{never_asks, no_moment, one_more_act, one_more_failure, one_more_look}
use Rattle.station_reporter.proofs.reporter.report_at.Goals.{in-None, in-Some+then-is_broken}
use Rattle.station_reporter.proofs.reporter.report_at.Goals as goal

pub loop-init : goal.loop-init
loop-init g c =
    let begun = c.begin-reported.ensures in
    record {
      asked = begun.asked;
      so_far = rw (begun.seat, begun.out, begun.beside, begun.due, begun.written) (no_moment _ _ _ _ _ _ c.args.reporter.beside.record);
    }

pub loop-preserved : goal.loop-preserved
loop-preserved g c =
    let so_far = one_more_look _ _ _ _ _ _ _ _ _ _ _ _ _ _ (one_more_failure _ _ _ _ _ _ _ _ _ _ _ _ _ _ c.loop.invariant.so_far c.learn.ensures) c.count-seat.ensures.later in
    record {
      asked = never_asks (λ b. b.record) c.args.reporter.duties.tables.format g.L.StationName.start c.act_at-act.result _ _ c.do_act-reported.ensures ∙ c.loop.invariant.asked;
      so_far = one_more_act (λ b. b.record) g.L.StationName.start c.args.reporter.duties.tables c.args.reporter.duties.due c.now-now.result _ _ _ _ _ _ c.act_at-act.result _ _
          (rw c.look_at_paths.ensures (rw c.report_limits.ensures.record so_far)) (sym c.is_broken.ensures ∙ c.if-is_broken.false) c.now-now.ensures c.act_at-act.ensures c.do_act-reported.ensures;
    }

pub returns-then-not-is_ending-clause-reports : goal.returns-then-not-is_ending-clause-reports
returns-then-not-is_ending-clause-reports g c =
    let so_far = one_more_look _ _ _ _ _ _ _ _ _ _ _ _ _ _ (one_more_failure _ _ _ _ _ _ _ _ _ _ _ _ _ _ c.loop.invariant.so_far c.learn.ensures) c.count-seat.ensures.later in
    rw c.report_limits.ensures.record (so_far.moments, so_far.are_given, so_far.reports)

pub returns-clause-reports : goal.returns-clause-reports
returns-clause-reports g c = elim c.match-next.branch [
  | in-None w ↦ let so_far = c.loop.invariant.so_far in rw w.reported-is (so_far.moments, so_far.are_given, so_far.reports)
  | in-Some+then-is_broken w ↦
      let so_far = one_more_failure _ _ _ _ _ _ _ _ _ _ _ _ _ _ c.loop.invariant.so_far w.learn.ensures in rw w.reported-is (so_far.moments, so_far.are_given, so_far.reports)
]
