use Rattle.std.proofs.Common.{◌∙◌, refl, sym}
use Rattle.station_run.proofs.stage.ending.print_last.Goals as goal

pub returns : goal.returns
returns g c =
    rw (c.if-hands_over.false, sym c.is_broken.ensures ∙ c.if-is_broken.false)
    (c.print_and_record-seat.new.out, rw c.date_by.ensures at c.print_and_record-seat.ensures, c.settle.ensures, refl, refl)
