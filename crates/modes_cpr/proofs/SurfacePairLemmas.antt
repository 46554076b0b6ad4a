-- The position of a pair of surface places whose latitudes are known.
use Rattle.std.proofs.Common.{◌≡◌, ℕ, ℤ, ap, ◌∙◌, Bool, w32, FitsSigned, to_z, of_z}
use Rattle.std.proofs.lemmas.Int.{to_z-of_z}
use Rattle.modes_fields.specs.declared.place.Place.{Place}
use Rattle.modes_cpr.proofs.Common.{Degrees, Position, zone_index}
use Rattle.modes_cpr.proofs.SurfaceCommon.{reference_angle, decoded_near, without_turns, surface_position_by}
use Rattle.modes_cpr.proofs.PairLemmas.{made, outcome}

-- a coordinate of a reference as the code passes it on
pub cast_near : (r : ℤ) (z y : ℕ) (j : ℤ) (a : Degrees) → FitsSigned w32 r → a ≡ decoded_near (reference_angle (to_z w32 (of_z w32 r))) z j y → a ≡ decoded_near (reference_angle r) z j y
cast_near r z y j a fits h = h ∙ ap (λ v. decoded_near (reference_angle v) z j y) (to_z-of_z w32 r fits)

-- the longitude nearest to a reference
abbrev pub longitude_near : Degrees → ℕ → ℤ → ℕ → Degrees
longitude_near r z j x = without_turns (decoded_near r z j x)

pub surface_position_at : (nl : ℤ → ℕ → ℕ) (reference : Position) (even odd : Place) (newest : Bool) (a0 a1 : Degrees)
    → decoded_near reference.lat 60 (zone_index 60 even.lat odd.lat) even.lat ≡ a0
    → decoded_near reference.lat 59 (zone_index 60 even.lat odd.lat) odd.lat ≡ a1
    → surface_position_by nl reference even odd newest ≡ outcome nl (made (longitude_near reference.lon) nl even odd newest a0 a1) a0 a1
unfolding surface_position_by
surface_position_at nl reference even odd newest a0 a1 d0 d1 =
    (λ i. outcome nl (made (longitude_near reference.lon) nl even odd newest (d0 i) (d1 i)) (d0 i) (d1 i))
