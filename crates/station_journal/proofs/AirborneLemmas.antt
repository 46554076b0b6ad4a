-- Without a site a search finds what airborne places alone give.
use Rattle.std.proofs.Common.{◌≡◌, ℕ, Bool, true, false, not, if◌then◌else◌, List, [], ◌∷◌, Option, Some, None, refl, ap, ◌∙◌}
use Rattle.std.specs.Option.{option_map}
use Rattle.modes_fields.specs.declared.place.Place.{Place}
use Rattle.station_journal.proofs.Common.{Entry, Tick, Heard, clock, speaks_for, fresh, newest, newest_fix, read_for, airborne_spot, spot_from, spot_of, even_spot_of, odd_spot_of, fix_by, pair_with, partner, ground_of, row}
use Rattle.station_journal.specs.Past.{with_parity}
use Rattle.station_journal.specs.Airborne.{place_of, of_parity, even_place_of, odd_place_of, airborne_pair, airborne_partner, airborne_fix, newest_airborne_fix}
use Rattle.station_journal.proofs.MappedLemmas.{newest_mapped, fresh_mapped}

chosen_spot : (test : Bool) (place : Place) → (if test then Some (spot_from false place) else None) ≡ option_map (spot_from false) (if test then Some place else None)
chosen_spot true place = refl
chosen_spot false place = refl

parity_alike : (odd : Bool) (place : Option Place) → with_parity odd (airborne_spot place) ≡ option_map (spot_from false) (of_parity odd place)
parity_alike odd None = refl
parity_alike odd (Some place) = chosen_spot (if odd then place.odd else not place.odd) place

partner_alike : (odd : Bool) (base a : ℕ) (past : List Entry) → partner None odd base a past ≡ option_map (spot_from false) (airborne_partner odd base a past)
partner_alike true base a past =
    ap (fresh 10000 (clock base past)) (newest_mapped (spot_from false) even_place_of (even_spot_of None) (λ frame. parity_alike false (place_of frame)) base a past)
    ∙ fresh_mapped (spot_from false) 10000 (clock base past) (newest even_place_of base a past)
partner_alike false base a past =
    ap (fresh 10000 (clock base past)) (newest_mapped (spot_from false) odd_place_of (odd_spot_of None) (λ frame. parity_alike true (place_of frame)) base a past)
    ∙ fresh_mapped (spot_from false) 10000 (clock base past) (newest odd_place_of base a past)

pair_alike : (place : Place) (other : Option Place) → pair_with None (spot_from false place) (option_map (spot_from false) other) ≡ airborne_pair place other
pair_alike place None = refl
pair_alike place (Some other) = refl

fix_alike : (base a : ℕ) (past : List Entry) (place : Option Place) → fix_by None base a past (airborne_spot place) ≡ airborne_fix base a past place
fix_alike base a past None = refl
fix_alike base a past (Some place) =
    ap (pair_with None (spot_from false place)) (partner_alike place.odd base a past) ∙ pair_alike place (airborne_partner place.odd base a past)

read_alike : (speaks : Bool) (place : Option Place) → (if speaks then airborne_spot place else None) ≡ airborne_spot (if speaks then place else None)
read_alike true place = refl
read_alike false place = refl

pub fixes_alike : (base a : ℕ) (past : List Entry) → newest_fix None base a past ≡ newest_airborne_fix base a past
fixes_alike base a [] = refl
fixes_alike base a (Tick seat at ∷ past) = fixes_alike base a past
fixes_alike base a (Heard seat frame ∷ past) =
    let fix : fix_by None base a past (read_for (spot_of None) a frame) ≡ airborne_fix base a past (read_for place_of a frame) =
    ap (fix_by None base a past) (read_alike (speaks_for a frame) (place_of frame)) ∙ fix_alike base a past (read_for place_of a frame) in
    rw (fix, fixes_alike base a past) refl

-- nothing is on the ground
abbrev ground_none : Option Bool
ground_none = None

none_read : (speaks : Bool) → (if speaks then ground_none else None) ≡ None
none_read true = refl
none_read false = refl

no_ground : (base a : ℕ) (past : List Entry) → newest (ground_of None) base a past ≡ None
no_ground base a [] = refl
no_ground base a (Tick seat at ∷ past) = no_ground base a past
no_ground base a (Heard seat frame ∷ past) = let none = none_read (speaks_for a frame) in rw (none, no_ground base a past) refl

pub none_on_ground : (base a : ℕ) (past : List Entry) → (row None base past a).on_ground ≡ None
none_on_ground base a past = let none = no_ground base a past in rw none refl
