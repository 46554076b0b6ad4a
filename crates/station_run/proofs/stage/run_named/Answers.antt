use Rattle.std.proofs.Common.{◌≡◌, ◌∙◌, ◌&&◌, ap, arith, is_some, length, map, refl, subst, sym}
use Rattle.std.proofs.lemmas.List.{length-map}
use Rattle.station_portions.specs.Giving.{state_of}
use Rattle.station_shared.specs.Seats.{newcomer}
use Rattle.messages.proofs.Common.{AddsAll}
use Rattle.station_run.proofs.Common.{Begun, HavePumped, begun_of, may_go_on}
use Rattle.station_run.proofs.BorderLemmas.{all_fail_between}
use Rattle.station_run.proofs.GoingOnLemmas.{work-on}
use Rattle.station_run.proofs.ReceiverLemmas.{adds_each, all_answered, answers_of, are_numbered, have_pumped}
use Rattle.station_run.proofs.SeatNumberLemmas.{last_numbered, learned_number, reporter_numbered}
use Rattle.station_output.specs.Queued.{taken_before}
use Rattle.station_run.specs.Output.{sink_of}
use Rattle.station_run.proofs.StationLemmas.{based-clock, based-last, based_result, last-ring, reports_from, shows}
use Rattle.station_run.proofs.stage.run_named.Goals as goal

pub close-requires : goal.close-requires
close-requires g c =
    let made = c.in_ok-station.ensures in
    let worked = c.in-Some.ensures.receivers in
    let start = g.L.StationName.start in
    let entries = c.args.stage.kept.recent.entries.items in
    record {
      answered = all_answered start entries (λ r. r.seat) (λ r. r.source) (λ r. r.answer) _ _ worked;
      many = omega (arith, c.requires.many, made.many, worked.many);
      numbered = are_numbered start entries (λ r. r.seat) (λ r. r.source) (λ r. r.answer) c.args.stage.inputs.items c.in_ok-station.field-0.receivers.items c.in-Some.left.receivers.items _ _ _
          made.seats made.sources worked (omega (arith, c.requires.may.seats_are.1)) made.reporter
          (last_numbered (λ b. b.record) _ _ _ (record { seat = c.learn_from_all.new.seat; out = c.in-Some.left.report.out; beside = c.look_again.new.self; due = c.in-Some.left.report.due; asked_at = c.in-Some.left.report.asked_at; written_at = c.in-Some.left.report.written_at }) c.print_last-report.result c.print_last-report.ensures ∙ learned_number _ _ _ c.learn_from_all.ensures ∙ reporter_numbered _ _ _ _ _ _ _ _ _ _ c.in-Some.ensures.reporter);
    }

pub returns-clause-ran : goal.returns-clause-ran
returns-clause-ran g c =
    let start = g.L.StationName.start in
    let stage = c.args.stage in
    let entries = stage.kept.recent.entries.items in
    let inputs = stage.inputs.items in
    let begun : Begun = begun_of stage in
    let old = c.in_ok-station.field-0.receivers.items in
    let new = c.in-Some.left.receivers.items in
    let worked = c.in-Some.ensures.receivers in
    let found = answers_of (λ r. r.answer) new (all_answered start entries (λ r. r.seat) (λ r. r.source) (λ r. r.answer) _ _ worked) in
    let pumped : HavePumped start entries begun.sources (map state_of (map (λ r. r.source) new)) (map (λ r. r.seat) new) found.0 =
    have_pumped start entries (λ r. r.seat) (λ r. r.source) (λ r. r.answer) inputs old new found.0 c.in_ok-station.ensures.seats c.in_ok-station.ensures.sources worked found.1 in
    let first : c.in_ok-station.field-0.seat ≡ newcomer entries (length begun.sources) = c.in_ok-station.ensures.reporter ∙ ap (newcomer entries) (sym (length-map inputs state_of)) in
    let left = c.in_ok-leaving.ensures in
    let taken = taken_before (sink_of g.O.Write.contents) c.apart-printer.result.1 in
    record {
      start = start;
      reporter = c.print_last-report.result.seat;
      receivers = map (λ r. r.seat) new;
      counted = found.0;
      log = left.log;
      runs = λ err. record {
        goes_on = c.requires.may.goes_on;
        pumped = subst (λ ss. HavePumped start entries begun.sources ss (map (λ r. r.seat) new) found.0) (sym left.inputs) pumped;
        failed = all_fail_between c.in_ok-leaving.leaving.inputs.items;
        sums = adds_each stage.answers.items found.0 c.in_ok-leaving.leaving.answers.items (subst (λ os. AddsAll stage.answers.items os c.in_ok-leaving.leaving.answers.items) found.1 left.sums);
        closed = left.closed;
        shows = rw c.new.ensures (shows (λ b. b.record) _ _ _ _ _ _ _ _ _ _ _ c.in-Some.left.report.seat (based_result taken (record { seat = c.learn_from_all.new.seat; out = c.in-Some.left.report.out; beside = c.look_again.new.self; due = c.in-Some.left.report.due; asked_at = c.in-Some.left.report.asked_at; written_at = c.in-Some.left.report.written_at })) (based_result taken c.print_last-report.result) _ refl
            (c.hands_over-hands_over.ensures ∙ ap (λ b. is_some c.in-Some.left.report.asked_at && b) (work-on (λ r. r.source) (λ r. r.answer) new found.0 found.1 ∙ ap (λ ss. may_go_on ss found.0) (sym left.inputs)))
            (c.learn_from_all.ensures, based-clock taken _ _ _ _ _ _ _ _ _ _ _ c.apart-printer.ensures.whole (rw (← (c.look_again.ensures ∙ c.report_limits.ensures.record)) at (reports_from _ _ _ _ _ _ _ _ _ _ _ first c.in-Some.ensures.reporter)))
            (based-last (λ b. b.record) taken _ _ _ (record { seat = c.learn_from_all.new.seat; out = c.in-Some.left.report.out; beside = c.look_again.new.self; due = c.in-Some.left.report.due; asked_at = c.in-Some.left.report.asked_at; written_at = c.in-Some.left.report.written_at }) c.print_last-report.result c.print_last-report.ensures));
        duties = refl;
        rounds_left = refl;
        err = refl;
      };
      paths = refl;
    }

pub new-requires : goal.new-requires
new-requires g c =
    last-ring (λ b. b.record) _ _ _ (record { seat = c.learn_from_all.new.seat; out = c.in-Some.left.report.out; beside = c.look_again.new.self; due = c.in-Some.left.report.due; asked_at = c.in-Some.left.report.asked_at; written_at = c.in-Some.left.report.written_at }) c.print_last-report.result c.print_last-report.ensures
    ∙ c.in-Some.ensures.reporter.reports.takes.ring ∙ c.apart-printer.ensures.ring
