-- The two surface places that are sent for a point near the reference give a position near the point: it is near itself.
use Rattle.std.proofs.Common.{ℕ, ◌*◌, ◌≤◌, ℤ, pos, ◌-ℤ◌, ◌*ℤ◌, ◌≡◌, sym, subst, arith, unsigned_abs}
use Rattle.std.proofs.lemmas.Int.{ints}
use Rattle.modes_cpr.proofs.Common.{Degrees, IsZoneCount}
use Rattle.modes_cpr.proofs.SurfaceCommon.{IsNear, SurfaceNear}
use Rattle.modes_cpr.proofs.SurfaceMovingLemmas.{moving}

near-self : (n : ℕ) (a : Degrees) → IsNear n a a
near-self n a =
    let e : unsigned_abs (a.num *ℤ pos a.den -ℤ a.num *ℤ pos a.den) ≡ 0 = omega (arith, ints) in
    subst (λ v. n * v ≤ 44 * (a.den * a.den)) (sym e) (omega arith)

pub near : (nl : ℤ → ℕ → ℕ) → IsZoneCount nl → SurfaceNear nl
near nl counts reference lat lon newest some_reference_lat some_reference_lon some_lat some_lon range near_lat near_lon equal =
    moving nl counts reference (λ _. lat) (λ _. lon) newest some_reference_lat some_reference_lon
    (λ _. record { whole = some_lat; range = range; near = near_lat }) (λ _. record { whole = some_lon; near = near_lon }) (near-self (60 * 59) lat) equal (near-self _ lon)
