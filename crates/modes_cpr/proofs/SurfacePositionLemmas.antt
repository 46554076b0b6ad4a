-- What the crates above need of a surface position.
use Rattle.std.proofs.Common.{◌≡◌, ℕ, ◌*◌, ◌<◌, ℤ, Bool, arith, ap, IfSome}
use Rattle.modes_fields.specs.declared.place.Place.{Place}
use Rattle.modes_cpr.proofs.Common.{Degrees, Position, IsWhole, bins, zone_count}
use Rattle.modes_cpr.proofs.SurfaceCommon.{decoded_near, without_turns, surface_position_by}
use Rattle.modes_cpr.proofs.SurfaceAngleLemmas.{decoded_near-angle}
use Rattle.modes_cpr.proofs.BinLemmas.{some_zone}
use Rattle.modes_cpr.proofs.PositionLemmas.{either_whole, whole_if_some}

pub near_whole : (r : Degrees) (z y : ℕ) (j : ℤ) → 0 < z → 0 < (decoded_near r z j y).den
near_whole r z y j some =
    let e : (decoded_near r z j y).den ≡ z * bins = ap (λ (d : Degrees). d.den) (decoded_near-angle r z y j).1 in
    omega arith

without_turns_whole : (a : Degrees) → 0 < a.den → 0 < (without_turns a).den
unfolding without_turns
without_turns_whole a some = some

pub surface_position_whole : (near : Position) (even odd : Place) (newest_odd : Bool) → IfSome (surface_position_by zone_count near even odd newest_odd) IsWhole
unfolding surface_position_by
surface_position_whole near even odd newest_odd = whole_if_some _ _ (record {
  lat = either_whole newest_odd _ _ (near_whole near.lat 60 even.lat _ (omega arith)) (near_whole near.lat 59 odd.lat _ (omega arith));
  lon = without_turns_whole _ (near_whole near.lon _ _ _ (some_zone _ newest_odd));
})
