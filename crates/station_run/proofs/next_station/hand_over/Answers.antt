use Rattle.std.proofs.Common.{refl}
use Rattle.station_run.proofs.next_station.hand_over.Goals as goal

pub returns-clause-next : goal.returns-clause-next
returns-clause-next g c = λ start reporter receivers counted err hands. record {
  goes_on = hands;
  sources = refl;
  answers = refl;
  tables = c.after_hand_over.ensures.tables;
  due = c.after_hand_over.ensures.due;
  hand_over_at = c.after_hand_over.ensures.at;
  not_before = c.after_hand_over.ensures.pause;
  rounds_left = refl;
  err = refl;
}
