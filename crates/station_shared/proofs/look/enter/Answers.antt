use Rattle.station_desk.specs.Published.{sheet_of}
use Rattle.station_desk.proofs.PublishRuleLemmas.{enters}
use Rattle.station_shared.proofs.look.enter.Goals as goal

pub enter_as-requires : goal.enter_as-requires
enter_as-requires g c = enters g.row.N (λ x. sheet_of x) _ _

pub enter_as-requires-room-P-Protocol : goal.enter_as-requires-room-P-Protocol
enter_as-requires-room-P-Protocol g c κs = search

pub enter_as-requires-room-T-Destruct : goal.enter_as-requires-room-T-Destruct
enter_as-requires-room-T-Destruct g c κs = search

pub enter_as-requires-room-M-Outcome : goal.enter_as-requires-room-M-Outcome
enter_as-requires-room-M-Outcome g c κs = search
