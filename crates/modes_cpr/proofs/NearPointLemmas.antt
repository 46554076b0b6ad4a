-- The two places that are sent for a point give a position near the point: it is near itself.
use Rattle.std.proofs.Common.{ℕ, ℤ}
use Rattle.modes_cpr.proofs.Common.{IsZoneCount, Near}
use Rattle.modes_cpr.proofs.MovingPointLemmas.{moving, pairable-self, pairable-self_round}

pub near : (nl : ℤ → ℕ → ℕ) → IsZoneCount nl → Near nl
near nl counts lat lon newest some_lat some_lon range equal =
    moving nl counts (λ _. lat) (λ _. lon) newest (λ _. record { whole = some_lat; range = range }) (λ _. some_lon) (pairable-self 60 lat) equal (pairable-self_round _ lon)
