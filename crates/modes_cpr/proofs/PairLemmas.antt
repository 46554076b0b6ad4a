-- The position of a pair whose latitudes are known.
use Rattle.std.proofs.Common.{◌≡◌, ℕ, ℤ, ap, ◌∙◌, sym, Bool, true, false, Option, Some, None, w64, FitsSigned, to_z, of_z, ◌==◌, ◌&&◌, if◌then◌else◌}
use Rattle.std.proofs.lemmas.Bool.{eq-eqb, ne_eqb, and_from, and_left, and_right}
use Rattle.std.proofs.lemmas.Int.{to_z-of_z}
use Rattle.modes_fields.specs.declared.place.Place.{Place}
use Rattle.modes_cpr.proofs.Common.{Degrees, Position, longitude_zones, decoded_angle, zone_index, is_latitude, position_by}

-- an angle that the code decoded with an index that it computed
pub decoded_at : (decode : ℤ → Degrees) (i j : ℤ) (a : Degrees) → FitsSigned w64 i → i ≡ j → a ≡ decode (to_z w64 (of_z w64 i)) → decode j ≡ a
decoded_at decode i j a fits e h = ap decode (sym (to_z-of_z w64 i fits ∙ e)) ∙ sym h

-- NL, where the code computed it
pub zones_at_num : (nl : ℤ → ℕ → ℕ) (a : Degrees) → FitsSigned w64 a.num → (n : ℕ) → n ≡ nl (to_z w64 (of_z w64 a.num)) a.den → n ≡ nl a.num a.den
zones_at_num nl a fits n e = e ∙ ap (λ v. nl v a.den) (to_z-of_z w64 a.num fits)

-- whether NL is n, where the code tested it
pub zones_tested : (nl : ℤ → ℕ → ℕ) (a : Degrees) → FitsSigned w64 a.num → (n : ℕ) (r : Bool) → r ≡ (nl (to_z w64 (of_z w64 a.num)) a.den == n) → r ≡ (nl a.num a.den == n)
zones_tested nl a fits n r e = e ∙ ap (λ v. nl v a.den == n) (to_z-of_z w64 a.num fits)

-- ---- airborne and surface pairs alike, where `decode` gives the longitude of an index and a bin in a grid of n zones

-- the position at two latitudes
abbrev pub made : (ℕ → ℤ → ℕ → Degrees) → (ℤ → ℕ → ℕ) → Place → Place → Bool → Degrees → Degrees → Position
made decode nl even odd newest u v = record {
  lat = if newest then v else u;
  lon = decode (longitude_zones (nl u.num u.den) newest) (zone_index (nl u.num u.den) even.lon odd.lon) (if newest then odd.lon else even.lon);
}

-- the code's result from its parts is that position
pub made_is : (decode : ℕ → ℤ → ℕ → Degrees) (nl : ℤ → ℕ → ℕ) (even odd : Place) (newest : Bool) (a0 a1 lat lon : Degrees) (n g x : ℕ) (i : ℤ)
    → lat ≡ (if newest then a1 else a0) → x ≡ (if newest then odd.lon else even.lon) → n ≡ nl a0.num a0.den
    → FitsSigned w64 i → i ≡ zone_index n even.lon odd.lon → g ≡ longitude_zones n newest
    → lon ≡ decode g (to_z w64 (of_z w64 i)) x
    → (let p : Position = record { lat = lat; lon = lon } in p) ≡ made decode nl even odd newest a0 a1
made_is decode nl even odd newest a0 a1 lat lon n g x i lat_is x_is n_is fits i_is g_is lon_is =
    let zones : g ≡ longitude_zones (nl a0.num a0.den) newest = g_is ∙ ap (λ v. longitude_zones v newest) n_is in
    let index : to_z w64 (of_z w64 i) ≡ zone_index (nl a0.num a0.den) even.lon odd.lon = to_z-of_z w64 i fits ∙ i_is ∙ ap (λ v. zone_index v even.lon odd.lon) n_is in
    let whole : lon ≡ (made decode nl even odd newest a0 a1).lon = lon_is ∙ (λ k. decode (zones k) (index k) (x_is k)) in
    (λ k. record { lat = lat_is k; lon = whole k })

-- the position p, if there is one at two latitudes
module _ (nl : ℤ → ℕ → ℕ) (p : Position) (a0 a1 : Degrees) where
  abbrev passes : Bool
  passes = is_latitude a0 && is_latitude a1 && (nl a0.num a0.den == nl a1.num a1.den)

  abbrev pub outcome : Option Position
  outcome = if passes then Some p else None

  outcome_by : (t : Bool) → passes ≡ t → outcome ≡ (if t then Some p else None)
  outcome_by t e = ap (λ b. if b then Some p else None) e

  pub found : is_latitude a0 ≡ true → is_latitude a1 ≡ true → nl a0.num a0.den ≡ nl a1.num a1.den → outcome ≡ Some p
  found l0 l1 same =
      outcome_by true (and_from (is_latitude a0 && is_latitude a1) (nl a0.num a0.den == nl a1.num a1.den) (and_from (is_latitude a0) (is_latitude a1) l0 l1) (eq-eqb (nl a0.num a0.den) (nl a1.num a1.den) same))

  pub even_beyond : is_latitude a0 ≡ false → outcome ≡ None
  even_beyond l = outcome_by false (and_left (is_latitude a0 && is_latitude a1) _ (and_left (is_latitude a0) (is_latitude a1) l))

  pub odd_beyond : is_latitude a1 ≡ false → outcome ≡ None
  odd_beyond l = outcome_by false (and_left (is_latitude a0 && is_latitude a1) _ (and_right (is_latitude a0) (is_latitude a1) l))

  pub zones_differ : (nl a0.num a0.den ≡ nl a1.num a1.den → ⊥) → outcome ≡ None
  zones_differ apart = outcome_by false (and_right (is_latitude a0 && is_latitude a1) (nl a0.num a0.den == nl a1.num a1.den) (ne_eqb (nl a0.num a0.den) (nl a1.num a1.den) apart))

-- ---- airborne pairs

pub position_at : (nl : ℤ → ℕ → ℕ) (even odd : Place) (newest : Bool) (a0 a1 : Degrees)
    → decoded_angle 270 60 (zone_index 60 even.lat odd.lat) even.lat ≡ a0
    → decoded_angle 270 59 (zone_index 60 even.lat odd.lat) odd.lat ≡ a1
    → position_by nl even odd newest ≡ outcome nl (made (decoded_angle 180) nl even odd newest a0 a1) a0 a1
unfolding position_by
position_at nl even odd newest a0 a1 d0 d1 = (λ i. outcome nl (made (decoded_angle 180) nl even odd newest (d0 i) (d1 i)) (d0 i) (d1 i))
