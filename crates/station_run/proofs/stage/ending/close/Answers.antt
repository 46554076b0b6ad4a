use Rattle.std.proofs.Common.{map, subst, sym}
use Rattle.station_shared.specs.Closing.{EachOnce}
use Rattle.station_run.proofs.ReceiverLemmas.{closed_by}
use Rattle.station_run.proofs.SeatNumberLemmas.{all_once}
use Rattle.station_run.proofs.stage.ending.close.Goals as goal

pub unreachable-requires : goal.unreachable-requires
unreachable-requires g c = c.in-Err.ensures.missing.0 (subst (EachOnce g.L.StationName.seats) (sym c.in-Ok.ensures.seats) (all_once g.L.StationName.seats c.args.reporter (map (λ r. r.seat) c.args.receivers.items) c.requires.numbered))

pub returns-clause-closed : goal.returns-clause-closed
returns-clause-closed g c =
    closed_by g.L.StationName.start g.L.StationName.seats c.in-Ok-close.closed.journal.log.entries c.in-Ok.parts.seats.items c.args.reporter (map (λ r. r.seat) c.args.receivers.items) c.requires.numbered c.in-Ok.ensures.seats c.in-Ok-close.ensures.journal.1
