use Rattle.station_desk.specs.Published.{sheet_of}
use Rattle.station_desk.proofs.PublishRuleLemmas.{admits}
use Rattle.station_desk.proofs.RoomLemmas.{none_within}
use Rattle.station_desk.proofs.publisher.blank_place.Goals as goal

pub reader-requires : goal.reader-requires
reader-requires g c = admits _ (λ x. sheet_of x)

pub factory-requires : goal.factory-requires
factory-requires g c κs = search none_within

pub reader-requires-room-P-Protocol : goal.reader-requires-room-P-Protocol
reader-requires-room-P-Protocol g c κs = search

pub reader-requires-room-T-Destruct : goal.reader-requires-room-T-Destruct
reader-requires-room-T-Destruct g c κs = search
