use Rattle.station_replay.specs.declared.desk_feed.DeskFeed.{DeskFeed}
use Rattle.station_replay.proofs.CallLemmas.{PumpsDesk-all}
use Rattle.station_lines.proofs.FeedLemmas.{pump_keeps}
use Rattle.station_replay.proofs.desk_pump.pump_lent.Goals as goal

pub returns : goal.returns
returns g c = record {
  same_desk = pump_keeps c.pump.ensures (λ x. x.desk.ghost_name) (λ x y frame answer step. step.2);
  pumps = PumpsDesk-all _ (λ (x : DeskFeed g.row.N). x.desk.now.log) (λ (x : DeskFeed g.row.N). x.seat) (λ x y frame answer step. (step.0, step.1)) c.args.feed.now c.pump.new.feed _ _ _ _ c.pump.ensures;
}
