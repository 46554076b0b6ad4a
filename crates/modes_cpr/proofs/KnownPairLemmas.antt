-- Worked examples, computed by the checker from the definitions alone.
use Rattle.std.proofs.Common.{◌≡◌, ℕ, ℤ, pos, neg_ℤ, refl, true, false, Some, None, Option}
use Rattle.modes_fields.specs.declared.place.Place.{Place}
use Rattle.modes_cpr.proofs.Common.{floor, Position, zone_count, transitions, decoded_angle, zone_index, position_by, position_of, zone_of, bin_of, place_by, place_at}

abbrev even : ℕ → ℕ → Place
even y x = record { odd = false; lat = y; lon = x }

abbrev odd : ℕ → ℕ → Place
odd y x = record { odd = true; lat = y; lon = x }

abbrev point : ℤ → ℕ → ℤ → ℕ → Option Position
point a b c d = Some (record { lat = record { num = a; den = b }; lon = record { num = c; den = d } })

position_at_the_last_transition : position_of (even 65536 0) (odd 33860 0) false ≡ point (pos 684195840) 7864320 (pos 0) 262144
unfolding position_by decoded_angle zone_index floor zone_count transitions
position_at_the_last_transition = refl

position_of_a_known_pair : position_of (even 93000 51372) (odd 74158 50194) true ≡ point (pos 404184240) 7733248 (pos 18069840) 4587520
unfolding position_by decoded_angle zone_index floor zone_count transitions
position_of_a_known_pair = refl

position_south_of_the_equator : position_of (even 0 0) (odd 2185 0) false ≡ point (neg_ℤ (pos 47185920)) 7864320 (pos 0) 7733248
unfolding position_by decoded_angle zone_index floor zone_count transitions
position_south_of_the_equator = refl

no_position_where_the_zone_counts_differ : position_of (even 97658 0) (odd 93847 0) false ≡ None
unfolding position_by decoded_angle zone_index floor zone_count transitions
no_position_where_the_zone_counts_differ = refl

known_position_encoded_again : place_at (record { num = pos 404184240; den = 7733248 }) (record { num = pos 18069840; den = 4587520 }) true ≡ odd 74158 50194
unfolding place_by bin_of zone_of floor zone_count transitions
known_position_encoded_again = refl
