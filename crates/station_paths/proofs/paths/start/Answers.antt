use Rattle.std.proofs.Common.{◌∙◌, Some, ap, sym}
use Rattle.station_portions.specs.Rings.{reader_ring}
use Rattle.station_paths.proofs.paths.start.Goals as goal

pub returns-in-Ok-start_reader-clause-fed : goal.returns-in-Ok-start_reader-clause-fed
returns-in-Ok-start_reader-clause-fed g c =
    let reader = c.in-Ok-start_reader.ensures.reader in
    record {
      opened = c.in-Ok-start_reader.ensures.path;
      takes = record { ring = ap Some (c.in-Ok.ensures.ring ∙ ap (λ r. reader_ring r.messages) (sym reader)); new = rw reader c.in-Ok.ensures.sent };
      unread = ap Some c.in-Ok.ensures.given;
    }
