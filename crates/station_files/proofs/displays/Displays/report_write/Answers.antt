use Rattle.std.proofs.Common.{◌∙◌, ◌||◌, ap, string_bytes}
use Rattle.messages.specs.Telling.{told_of}
use Rattle.station_files.proofs.ShownLemmas.{reported-then, reports-write}
use Rattle.station_files.specs.Displays.{Shown}
use Rattle.station_files.proofs.displays.Displays.report_write.Goals as goal

pub invariant_of-self : goal.invariant_of-self
invariant_of-self g c =
    let d = c.self.inside in
    let table = string_bytes d.table.path in
    let old : Shown = record { has_failed = d.has_failed; is_failing = d.is_failing; alarm = told_of g.A.Write.contents d.alarm } in
    let new : Shown = record { has_failed = d.has_failed || c.is_err-2.result; is_failing = c.replace-was_failing.new.dest; alarm = told_of g.A.Write.contents c.tell_change.new.alarm } in
    let failed = ap (λ b. d.has_failed || b) c.is_err-2.ensures.value in
    reported-then table c.args.written old new c.self.invariant failed
    (reports-write table c.args.written old new (c.replace-was_failing.ensures.after ∙ c.is_err.ensures.value) failed (rw (c.as_str.ensures.value, c.replace-was_failing.ensures.value) at c.tell_change.ensures))
