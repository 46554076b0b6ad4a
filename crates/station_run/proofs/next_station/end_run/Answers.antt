use Rattle.std.proofs.Common.{◌∙◌, ◌||◌, Bool, ap, ap₂, max, refl}
use Rattle.messages.proofs.Common.{fault_status}
use Rattle.station_run.proofs.next_station.end_run.Goals as goal

pub returns-clause-closes : goal.returns-clause-closes
returns-clause-closes g c =
    let failed = c.has_failed-failed_before.ensures in
    let written = c.write_status-written.ensures.value ∙ ap (λ (b : Bool). fault_status (b || c.give_back-closed.result.has_failed)) failed in
    record {
      output = g.O.Write.contents c.into_inner.result;
      out = refl;
      has_failed = c.give_back-closed.result.has_failed;
      once = λ before. c.give_back-closed.ensures.once before;
      gives = rw c.into_inner.ensures c.give_back-closed.ensures.bytes;
      told = c.give_back-closed.ensures.told;
      displays_failed = c.display_status-shown.ensures.value.0;
      displays = c.display_status-shown.ensures.value.2;
      status_is = c.max.ensures ∙ ap₂ max (c.max-with_record.ensures ∙ ap₂ max (c.max-with_output.ensures ∙ ap (max c.args.status) written) c.status_of-recorded.ensures.value) c.display_status-shown.ensures.value.1;
    }
