-- The surface places of two points near one another give a position near the point of the newest.
use Rattle.std.proofs.Common.{◌≡◌, ℕ, ◌+◌, ◌-◌, ◌*◌, ◌<◌, ◌≤◌, ℤ, pos, ◌+ℤ◌, ◌-ℤ◌, ◌*ℤ◌, ap, ◌∙◌, refl, sym, subst, arith, unsigned_abs, Bool, true, false, Some, if◌then◌else◌, IsSomeAnd}
use Rattle.std.proofs.lemmas.Int.{ints}
use Rattle.std.proofs.Math.Nat.{mul-le-mul_left}
use borrow.Author.Differences.{up, down}
use Rattle.modes_fields.specs.declared.place.Place.{Place}
use Rattle.modes_cpr.proofs.Common.{floor, modulo, Degrees, Position, bins, latitude_zones, longitude_zones, zone_index, zone_of, sent_bin, IsPairable, IsZoneCount}
use Rattle.modes_cpr.proofs.SurfaceCommon.{rounded_surface_latitude, decoded_near, without_turns, surface_position_by, fine_bin_of, surface_place_by, IsNear, IsWithinHalfSurfaceBin, IsWithinHalfSurfaceBinRound, surface_zones_at, SurfaceMoving}
use Rattle.modes_cpr.proofs.BinLemmas.{IsNearest, IsSent, even_zone, odd_zone, some_band}
use Rattle.modes_cpr.proofs.MovingPointLemmas.{index_moving, longitude_moving}
use Rattle.modes_cpr.proofs.PairLemmas.{found}
use Rattle.modes_cpr.proofs.SurfacePairLemmas.{surface_position_at}
use Rattle.modes_cpr.proofs.SurfacePlaceLemmas.{four, fine_steps, fine_steps-nearest, fine_steps-sent_bin, IsQuarterTurn, quarter_turn-nearest}
use Rattle.modes_cpr.proofs.SurfaceDecodedLemmas.{at_surface_step, IsNearStep, IsClose, close, near-decoded, near-step, close-turned, is_latitude-at_surface_step, within-at_surface_step, within-without_turns}

-- four times the distance is one at which the index of a zone is found
pairable : (n : ℕ) (a b : Degrees) → n ≤ 60 → IsNear (n * (n - 1)) a b → IsPairable n (four a) (four b)
pairable n a b few h =
    let X = unsigned_abs (a.num *ℤ pos b.den -ℤ b.num *ℤ pos a.den) in
    let Y = unsigned_abs (pos 4 *ℤ a.num *ℤ pos b.den -ℤ pos 4 *ℤ b.num *ℤ pos a.den) in
    let na : up (pos 4 *ℤ a.num) + 4 * down a.num ≡ down (pos 4 *ℤ a.num) + 4 * up a.num = omega (arith, ints) in
    let nb : up (pos 4 *ℤ b.num) + 4 * down b.num ≡ down (pos 4 *ℤ b.num) + 4 * up b.num = omega (arith, ints) in
    let na' = ap (λ v. v * b.den) na in
    let nb' = ap (λ v. v * a.den) nb in
    let e : Y ≡ 4 * X = omega (arith, ints, na', nb') in
    let e' = ap (λ v. n * (n - 1) * v) e in
    let m : 176 * 131072 ≤ 180 * (131072 - (n + (n - 1))) = omega (arith, few) in
    let m' = mul-le-mul_left (a.den * b.den) m in
    omega (arith, e', m', h)

no_quarters : (D : ℕ) (K : ℤ) → K +ℤ pos D *ℤ pos 0 ≡ K
no_quarters D K = omega (arith, ints)

-- ---- the law

pub moving : (nl : ℤ → ℕ → ℕ) → IsZoneCount nl → SurfaceMoving nl
unfolding surface_place_by fine_steps
moving nl counts reference lat lon newest some_reference_lat some_reference_lon lats lons apart_lat equal apart_lon = subst (λ o. IsSomeAnd o P) (sym position) (within_lat newest, within_lon newest)
  where
    even : Place
    even = surface_place_by nl (lat false) (lon false) false

    odd : Place
    odd = surface_place_by nl (lat true) (lon true) true

    N : ℕ
    N = surface_zones_at nl (lat false) false

    P : Position → Type 0
    P p = IsWithinHalfSurfaceBin (latitude_zones newest) p.lat (lat newest) × IsWithinHalfSurfaceBinRound (longitude_zones (surface_zones_at nl (lat newest) newest) newest) p.lon (lon newest)

    zone : Bool → ℤ
    zone b = pos 4 *ℤ zone_of (latitude_zones b) (lat b) +ℤ floor (fine_bin_of (latitude_zones b) (lat b)) bins

    near_lat : (b : Bool) → IsNearest (latitude_zones b) (four (lat b)) (fine_steps (latitude_zones b) (lat b))
    near_lat b = fine_steps-nearest (latitude_zones b) (lat b) (lats b).whole

    sent_lat : (b : Bool) → IsSent (fine_steps (latitude_zones b) (lat b)) (zone b) (sent_bin (fine_bin_of (latitude_zones b) (lat b)))
    sent_lat b = fine_steps-sent_bin (latitude_zones b) (lat b)

    quarter : (b : Bool) → IsQuarterTurn (latitude_zones b) (fine_steps (latitude_zones b) (lat b))
    quarter b = quarter_turn-nearest (latitude_zones b) (fine_steps (latitude_zones b) (lat b)) (lat b) (lats b).whole (lats b).range (near_lat b)

    close_lat : (b : Bool) → IsClose (latitude_zones b) (lat b) (fine_steps (latitude_zones b) (lat b))
    close_lat b = close (latitude_zones b) (lat b) (fine_steps (latitude_zones b) (lat b)) (near_lat b)

    step_lat : (b : Bool) → IsNearStep reference.lat (latitude_zones b) (fine_steps (latitude_zones b) (lat b))
    step_lat b = near-step reference.lat (latitude_zones b) (fine_steps (latitude_zones b) (lat b)) (lat b) (some_band b) some_reference_lat (lats b).whole (close_lat b) (lats b).near

    j : ℤ
    j = zone_index 60 even.lat odd.lat

    j_is : j ≡ pos 60 *ℤ zone true -ℤ pos 59 *ℤ zone false
    j_is = index_moving 59 (four (lat false)) (four (lat true)) (fine_steps 60 (lat false)) (fine_steps 59 (lat true)) (zone false) (zone true) even.lat odd.lat (lats false).whole (lats true).whole (omega arith) (omega arith) (near_lat false) (near_lat true) (sent_lat false) (sent_lat true) (pairable 60 (lat false) (lat true) (omega arith) apart_lat)

    decoded_lat : (b : Bool) (y : ℕ) → IsSent (fine_steps (latitude_zones b) (lat b)) (zone b) y → modulo j (latitude_zones b) ≡ modulo (zone b) (latitude_zones b)
        → decoded_near reference.lat (latitude_zones b) j y ≡ at_surface_step (latitude_zones b) (fine_steps (latitude_zones b) (lat b))
    decoded_lat b y s same =
        let z = latitude_zones b in
        let K = fine_steps z (lat b) in
        let none = no_quarters (z * bins) K in
        near-decoded reference.lat z y j (zone b) K (pos 0) s same (subst (IsNearStep reference.lat z) (sym none) (step_lat b)) ∙ ap (at_surface_step z) none

    lat0 : decoded_near reference.lat 60 j even.lat ≡ at_surface_step 60 (fine_steps 60 (lat false))
    lat0 = decoded_lat false even.lat (sent_lat false) (ap (λ v. modulo v 60) j_is ∙ even_zone 59 (zone false) (zone true))

    lat1 : decoded_near reference.lat 59 j odd.lat ≡ at_surface_step 59 (fine_steps 59 (lat true))
    lat1 = decoded_lat true odd.lat (sent_lat true) (ap (λ v. modulo v 59) j_is ∙ odd_zone 59 (zone false) (zone true) (omega arith))

    m : ℤ
    m = zone_index N even.lon odd.lon

    position : surface_position_by nl reference even odd newest ≡ Some (let p : Position = record {
      lat = if newest then at_surface_step 59 (fine_steps 59 (lat true)) else at_surface_step 60 (fine_steps 60 (lat false));
      lon = without_turns (decoded_near reference.lon (longitude_zones N newest) m (if newest then odd.lon else even.lon));
    } in p)
    position = surface_position_at nl reference even odd newest (at_surface_step 60 (fine_steps 60 (lat false))) (at_surface_step 59 (fine_steps 59 (lat true))) lat0 lat1
        ∙ found nl _ _ _ (is_latitude-at_surface_step 60 (fine_steps 60 (lat false)) (quarter false)) (is_latitude-at_surface_step 59 (fine_steps 59 (lat true)) (quarter true)) equal

    within_lat : (b : Bool) → IsWithinHalfSurfaceBin (latitude_zones b) (if b then at_surface_step 59 (fine_steps 59 (lat true)) else at_surface_step 60 (fine_steps 60 (lat false))) (lat b)
    within_lat true = within-at_surface_step 59 (fine_steps 59 (lat true)) (lat true) (close_lat true)
    within_lat false = within-at_surface_step 60 (fine_steps 60 (lat false)) (lat false) (close_lat false)

    -- the longitudes
    grid : Bool → ℕ
    grid b = longitude_zones (surface_zones_at nl (lat b) b) b

    some_grid : (b : Bool) → 0 < grid b
    some_grid b = omega arith

    same : (b : Bool) → longitude_zones N b ≡ grid b
    same true = ap (λ n. longitude_zones n true) equal
    same false = refl

    band : Bool → ℤ
    band b = pos 4 *ℤ zone_of (grid b) (lon b) +ℤ floor (fine_bin_of (grid b) (lon b)) bins

    near_lon : (b : Bool) → IsNearest (grid b) (four (lon b)) (fine_steps (grid b) (lon b))
    near_lon b = fine_steps-nearest (grid b) (lon b) (lons b).whole

    sent_lon : (b : Bool) → IsSent (fine_steps (grid b) (lon b)) (band b) (sent_bin (fine_bin_of (grid b) (lon b)))
    sent_lon b = fine_steps-sent_bin (grid b) (lon b)

    close_lon : (b : Bool) → IsClose (grid b) (lon b) (fine_steps (grid b) (lon b))
    close_lon b = close (grid b) (lon b) (fine_steps (grid b) (lon b)) (near_lon b)

    m_is : (b : Bool) → modulo m (grid b) ≡ modulo (if b then band true else band false) (grid b)
    m_is b = subst (λ n. modulo m n ≡ modulo (if b then band true else band false) n) (same b)
        (longitude_moving N b (four (lon false)) (four (lon true)) (fine_steps (grid false) (lon false)) (fine_steps (grid true) (lon true)) (band false) (band true) even.lon odd.lon (lons false).whole (lons true).whole (counts.least _ _) (counts.most _ _)
        (near_lon false) (subst (λ n. IsNearest n (four (lon true)) (fine_steps (grid true) (lon true))) (sym (same true)) (near_lon true)) (sent_lon false) (sent_lon true) (pairable N (lon false) (lon true) (omega (arith, counts.most (rounded_surface_latitude false (lat false)).num (rounded_surface_latitude false (lat false)).den)) apart_lon))

    decoded_lon : (b : Bool) (x : ℕ) → IsSent (fine_steps (grid b) (lon b)) (band b) x → modulo m (grid b) ≡ modulo (band b) (grid b)
        → IsWithinHalfSurfaceBinRound (grid b) (without_turns (decoded_near reference.lon (grid b) m x)) (lon b)
    decoded_lon b x s e =
        let z = grid b in
        let K = fine_steps z (lon b) in
        let t = (lons b).near.0 in
        let step = near-step reference.lon z (K +ℤ pos (z * bins) *ℤ (pos 4 *ℤ t)) (record { num = (lon b).num +ℤ pos (360 * (lon b).den) *ℤ t; den = (lon b).den }) (some_grid b) some_reference_lon (lons b).whole (close-turned z (lon b) K t (close_lon b)) (lons b).near.1 in
        let d = near-decoded reference.lon z x m (band b) K (pos 4 *ℤ t) s e step in
        subst (λ (v : Degrees). IsWithinHalfSurfaceBinRound z (without_turns v) (lon b)) (sym d) (within-without_turns z K t (lon b) (close_lon b))

    within_lon : (b : Bool) → IsWithinHalfSurfaceBinRound (grid b) (without_turns (decoded_near reference.lon (longitude_zones N b) m (if b then odd.lon else even.lon))) (lon b)
    within_lon true = subst (λ n. IsWithinHalfSurfaceBinRound (grid true) (without_turns (decoded_near reference.lon n m odd.lon)) (lon true)) (sym (same true)) (decoded_lon true odd.lon (sent_lon true) (m_is true))
    within_lon false = decoded_lon false even.lon (sent_lon false) (m_is false)
