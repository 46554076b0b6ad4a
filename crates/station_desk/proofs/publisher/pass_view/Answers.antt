use Rattle.std.proofs.Common.{rules}
use Rattle.station_desk.specs.Published.{sheet_of}
use Rattle.station_desk.proofs.PublishRuleLemmas.{forks, merges}
use Rattle.station_desk.proofs.publisher.pass_view.Goals as goal

pub tell-requires : goal.tell-requires
tell-requires g c = forks _ (λ x. sheet_of x) _ _

pub learn-requires : goal.learn-requires
learn-requires g c = record { own = search rules; rule = merges _ (λ x. sheet_of x) _ _ _ _ }

pub tell-requires-room-P-Protocol : goal.tell-requires-room-P-Protocol
tell-requires-room-P-Protocol g c κs = search

pub tell-requires-room-T-Destruct : goal.tell-requires-room-T-Destruct
tell-requires-room-T-Destruct g c κs = search

pub learn-requires-room-P-Protocol : goal.learn-requires-room-P-Protocol
learn-requires-room-P-Protocol g c κs = search

pub learn-requires-room-T-Destruct : goal.learn-requires-room-T-Destruct
learn-requires-room-T-Destruct g c κs = search
