use Rattle.station_shared.proofs.SeatRunLemmas.{Works-all}
use Rattle.station_lines.proofs.FeedLemmas.{pump_keeps}
use Rattle.station_shared.proofs.seat_feed.pump_lent.Goals as goal

pub returns : goal.returns
returns g c = record {
  same_seat = pump_keeps c.pump.ensures (λ x. x.seat.ghost_name) (λ x y frame answer step. step.1);
  works = Works-all c.pump.ensures (λ x. x.seat.now) g.L.StationName.start (λ x y frame answer step. step.0);
}
