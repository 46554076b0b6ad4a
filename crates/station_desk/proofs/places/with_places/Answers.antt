use Rattle.std.proofs.Common.{◌≡◌, arith, ◌∙◌}
use Rattle.core.proofs.slice.Lists.{all_by_recursion_push}
use Rattle.left_right.specs.Sides.{view}
use Rattle.station_desk.proofs.RoomLemmas.{none_within}
use Rattle.station_desk.proofs.places.with_places.Goals as goal

pub loop-made-preserved : goal.loop-made-preserved
loop-made-preserved g c =
    let i = c.loop-made.invariant in
    let same = c.new_place.ensures.same in
    record {
      shown = same.0 ∙ i.shown;
      spare = same.1 ∙ i.spare;
      knows = same.2 ∙ i.knows;
      pending = c.new_place.ensures.pending ∙ i.pending;
      made = omega (arith, c.push_reserved.ensures.len, i.made);
      room = omega (arith, c.push_reserved.ensures.capacity, i.room);
      all = rw c.push_reserved.ensures.items (all_by_recursion_push (λ p. view p.place ≡ view c.args.publisher.desk.place) c.loop-made.places.items c.in-Ok.place i.all (c.in-Ok.ensures.known ∙ i.knows));
    }

pub drop-places-requires : goal.drop-places-requires
drop-places-requires g c κs = search none_within

pub new_place-requires : goal.new_place-requires
new_place-requires g c = search

pub take_apart-requires : goal.take_apart-requires
take_apart-requires g c = search
