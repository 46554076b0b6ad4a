use Rattle.std.specs.Prelude.{◌≡◌, ◌≤◌, drop, vec_len, vec_capacity}
use Rattle.std.specs.List.{AllByRecursion}
use Rattle.left_right.specs.Sides.{view}
use Rattle.station_desk.proofs.places.with_places.Given as goal

-- each round made a place, and what is shown stayed
abbrev pub invariant-loop-made : goal.invariant-loop-made
invariant-loop-made g l = record {
  shown : l.publisher.desk.shown ≡ l.fn.publisher.desk.shown;
  spare : l.publisher.desk.spare ≡ l.fn.publisher.desk.spare;
  knows : view l.publisher.desk.place ≡ view l.fn.publisher.desk.place;
  pending : drop l.publisher.behind l.publisher.log.items ≡ drop l.fn.publisher.behind l.fn.publisher.log.items;
  made : vec_len l.places ≡ l._made;
  room : l.count ≤ vec_capacity l.places;
  all : AllByRecursion (λ p. view p.place ≡ view l.fn.publisher.desk.place) l.places.items;
}
