use Rattle.std.proofs.Common.{◌∙◌, ◌++◌, List, Some, ap, ℕ}
use Rattle.station_output.proofs.PrintingLemmas.{no-text, sent-text}
use Rattle.station_output.proofs.printer.Printer.print.Goals as goal

pub returns-in-Ok-clause-takes : goal.returns-in-Ok-clause-takes
returns-in-Ok-clause-takes g c =
    let text = rw c.in-Ok.is at c.write_table-seat.ensures.text in
    let sent = c.send.ensures in
    let taken = sent.taken ∙ ap (λ (known : List ℕ). Some (known ++ c.in-Ok.table.text.items)) c.blank-blank.ensures.same.sent in
    rw (← c.self.view_is) (sent-text c.args.format g.L.StationName.start c.args.look _ c.send.new.self c.in-Ok.table.text.items c.if-self.false sent.failed sent.goes_on (sent.ring ∙ ap Some c.blank-blank.ensures.same.ring) sent.told text taken)

pub returns-in-Err-clause-takes : goal.returns-in-Err-clause-takes
returns-in-Err-clause-takes g c =
    let failed = c.fail.ensures in
    let taken = failed.taken ∙ ap Some (c.keep.ensures.sent ∙ c.blank-blank.ensures.same.sent) in
    rw (← c.self.view_is) (no-text c.args.format g.L.StationName.start c.args.look _ c.fail.new.self c.if-self.false failed.failed taken failed.told failed.goes_on (failed.ring ∙ ap Some (c.keep.ensures.ring ∙ c.blank-blank.ensures.same.ring)))
