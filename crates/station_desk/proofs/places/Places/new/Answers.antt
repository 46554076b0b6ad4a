use Rattle.std.proofs.Common.{arith, rules}
use Rattle.station_desk.proofs.RoomLemmas.{copy_fits, none_within}
use Rattle.station_desk.proofs.places.Places.new.Goals as goal

pub new-requires-room-T-Absorb : goal.new-requires-room-T-Absorb
new-requires-room-T-Absorb g c κs = copy_fits g.row.N (omega (arith, c.requires.small))

pub new-requires-room-P-Protocol : goal.new-requires-room-P-Protocol
new-requires-room-P-Protocol g c κs = copy_fits g.row.N (omega (arith, c.requires.small))

pub new-requires-room-T-Destruct : goal.new-requires-room-T-Destruct
new-requires-room-T-Destruct g c κs = copy_fits g.row.N (omega (arith, c.requires.small))

pub drop-places-requires : goal.drop-places-requires
drop-places-requires g c κs = let fits = copy_fits g.row.N (omega (arith, c.requires.small)) in search none_within

pub blank-first-requires : goal.blank-first-requires
blank-first-requires g c = copy_fits g.row.N (omega (arith, c.requires.small))

pub blank-second-requires : goal.blank-second-requires
blank-second-requires g c = copy_fits g.row.N (omega (arith, c.requires.small))

pub with_places-requires : goal.with_places-requires
with_places-requires g c = (copy_fits g.row.N (omega (arith, c.requires.small)), search rules)
