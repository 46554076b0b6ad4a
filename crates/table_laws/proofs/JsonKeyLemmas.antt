-- No object of a table's JSON has a key twice: keys come in one order.
use Rattle.std.proofs.Common.{◌≢◌, ℕ, suc, ◌+◌, ◌≤◌, ◌==◌, ◌&&◌, Bool, true, false, if◌then◌else◌, List, [], ◌∷◌, ◌++◌, codes, Option, Some, None, ℤ, ap, arith}
use Rattle.std.specs.List.{AllByRecursion}
use Rattle.std.specs.Option.{option_map}
use Rattle.std.proofs.lemmas.List.Elements.{All-from_recursion}
use Rattle.std.proofs.lemmas.List.Kept.{AllPairs-cons}
use Rattle.json.specs.Json.{Json, array, object}
use Rattle.json.specs.Strict.{keys, AreDistinct, HasUniqueKeys, MembersHaveUniqueKeys}
use Rattle.modes_fields.specs.declared.emergency.Emergency.{Emergency}
use Rattle.modes_fields.specs.declared.emergency.Emergency.TheVariants.{NoEmergency}
use Rattle.modes_fields.specs.declared.velocity.RateSource.{RateSource}
use Rattle.modes_fields.specs.declared.velocity.RateSource.TheVariants.{Gnss}
use Rattle.modes_fields.specs.declared.velocity.Velocity.{Velocity}
use Rattle.modes_fields.specs.declared.velocity.Velocity.TheVariants.{Ground, Air, Surface}
use Rattle.station_journal.specs.declared.aircraft.Aircraft.{Aircraft}
use Rattle.station_report.specs.Motion.{track}
use Rattle.station_report.specs.Text.{ground_track}
use Rattle.table_laws.specs.JsonValue.{Pairs, members_of, pairs_of, flight_pair, feet_pairs, altitude_pairs, track_pair, velocity_pairs, rate_pairs, squawk_pair, seen_pos_pair, place_pairs, category_pair, emergency_pair, field_pairs, last_pairs}
use Rattle.table_laws.proofs.JsonTextLemmas.{IsPlainValue, ArePlain}

-- ---- the order of keys

same_key : List ℕ → List ℕ → Bool
same_key [] [] = true
same_key [] (d ∷ ds) = false
same_key (c ∷ cs) [] = false
same_key (c ∷ cs) (d ∷ ds) = (c == d) && same_key cs ds

place_in : List (List ℕ) → List ℕ → ℕ
place_in [] key = 0
place_in (k ∷ ks) key = if same_key k key then 0 else 1 + place_in ks key

known_keys : List (List ℕ)
known_keys =
    codes "hex" ∷ codes "flight" ∷ codes "alt_baro" ∷ codes "altitude" ∷ codes "gs" ∷ codes "speed" ∷ codes "track" ∷ codes "mag_heading"
    ∷ codes "tas" ∷ codes "ias" ∷ codes "baro_rate" ∷ codes "geom_rate" ∷ codes "vert_rate" ∷ codes "squawk" ∷ codes "lat" ∷ codes "lon"
    ∷ codes "seen_pos" ∷ codes "category" ∷ codes "emergency" ∷ codes "rssi" ∷ codes "seen" ∷ codes "now" ∷ codes "messages" ∷ codes "aircraft" ∷ []

pub rank : List ℕ → ℕ
rank key = place_in known_keys key

-- ---- members whose keys rise

-- the ranks rise, from low to below high
abbrev pub AreRanked : ℕ → ℕ → Pairs → Type 0
AreRanked low high [] = low ≤ high
AreRanked low high ((key, value) ∷ rest) = (low ≤ rank key) × AreRanked (suc (rank key)) high rest

lower : (low low' high : ℕ) (pairs : Pairs) → low' ≤ low → AreRanked low high pairs → AreRanked low' high pairs
lower low low' high [] le h = omega arith
lower low low' high ((key, value) ∷ rest) le h = let here = h.0 in (omega arith, h.1)

pub ranked_append : (low mid high : ℕ) (xs ys : Pairs) → AreRanked low mid xs → AreRanked mid high ys → AreRanked low high (xs ++ ys)
ranked_append low mid high [] ys h k = lower mid low high ys h k
ranked_append low mid high ((key, value) ∷ rest) ys h k = (h.0, ranked_append (suc (rank key)) mid high rest ys h.1 k)

ranked_if : {V : Type 0} (low high : ℕ) (pairs : V → Pairs) → low ≤ high → ((v : V) → AreRanked low high (pairs v)) → (o : Option V) → AreRanked low high (pairs_of pairs o)
ranked_if low high pairs le each None = le
ranked_if low high pairs le each (Some v) = each v

above : (low high : ℕ) (pairs : Pairs) → AreRanked low high pairs → AllByRecursion (λ k. low ≤ rank k) (keys (members_of pairs))
above low high [] h = tt
above low high ((key, value) ∷ rest) h = (h.0, above low high rest (lower (suc (rank key)) low high rest (let here = h.0 in omega arith) h.1))

others : (key : List ℕ) (ks : List (List ℕ)) → AllByRecursion (λ k. suc (rank key) ≤ rank k) ks → AllByRecursion (λ k. key ≢ k) ks
others key [] h = tt
others key (k ∷ ks) h = ((λ e. let same = ap rank e in let more = h.0 in omega arith), others key ks h.1)

pub ranked_distinct : (low high : ℕ) (pairs : Pairs) → AreRanked low high pairs → AreDistinct (keys (members_of pairs))
ranked_distinct low high [] h = λ i j d lt within. absurd (omega arith)
ranked_distinct low high ((key, value) ∷ rest) h =
    AllPairs-cons (λ a b. a ≢ b) key (keys (members_of rest))
    (All-from_recursion (λ k. key ≢ k) (keys (members_of rest)) (others key (keys (members_of rest)) (above (suc (rank key)) high rest h.1)))
    (ranked_distinct (suc (rank key)) high rest h.1)

plain_unique : (value : Json) → IsPlainValue value → HasUniqueKeys value
plain_unique (array js) h = absurd h
plain_unique (object ms) h = absurd h
plain_unique _ h = tt

pub pairs_unique : (pairs : Pairs) → ArePlain pairs → MembersHaveUniqueKeys (members_of pairs)
pairs_unique [] h = tt
pairs_unique ((key, value) ∷ rest) h = (plain_unique value h.0.1, pairs_unique rest h.1)

-- ---- the members of an aircraft

ranked_track : (degrees : ℕ) → AreRanked 6 10 (track_pair degrees)
unfolding rank place_in known_keys same_key
ranked_track degrees = (omega arith, omega arith)

ranked_altitude : (on_ground : Option Bool) (altitude : Option ℤ) → AreRanked 2 4 (altitude_pairs on_ground altitude)
unfolding rank place_in known_keys same_key
ranked_altitude (Some true) altitude = (omega arith, (omega arith, omega arith))
ranked_altitude (Some false) altitude = ranked_if 2 4 feet_pairs (omega arith) (λ feet. (omega arith, (omega arith, omega arith))) altitude
ranked_altitude None altitude = ranked_if 2 4 feet_pairs (omega arith) (λ feet. (omega arith, (omega arith, omega arith))) altitude

ranked_velocity : (velocity : Velocity) → AreRanked 4 10 (velocity_pairs velocity)
unfolding rank place_in known_keys same_key
ranked_velocity (Ground east north) = (omega arith, (omega arith, ranked_if 6 10 track_pair (omega arith) ranked_track (track east north)))
ranked_velocity (Air heading true speed) = (omega arith, (omega arith, omega arith))
ranked_velocity (Air heading false speed) = (omega arith, (omega arith, omega arith))
ranked_velocity (Surface speed track) = (omega arith, (omega arith, ranked_if 6 10 track_pair (omega arith) ranked_track (option_map ground_track track)))

ranked_rate : (source : Option RateSource) (feet : ℤ) → AreRanked 10 13 (rate_pairs source feet)
unfolding rank place_in known_keys same_key
ranked_rate (Some Gnss) feet = (omega arith, (omega arith, omega arith))
ranked_rate _ feet = (omega arith, (omega arith, omega arith))

ranked_emergency : (e : Emergency) → AreRanked 18 19 (emergency_pair e)
unfolding rank place_in known_keys same_key
ranked_emergency NoEmergency = omega arith
ranked_emergency _ = (omega arith, omega arith)

module _ (now : ℕ) (a : Aircraft) (placed : Option ℕ) where
  ranked_fields : AreRanked 1 19 (field_pairs now a placed)
  unfolding rank place_in known_keys same_key
  ranked_fields =
      ranked_append 1 18 19 _ _ (ranked_append 1 17 18 _ _ (ranked_append 1 14 17 _ _ (ranked_append 1 13 14 _ _ (ranked_append 1 10 13 _ _ (ranked_append 1 4 10 _ _ (ranked_append 1 2 4 _ _
      (ranked_if 1 2 flight_pair (omega arith) (λ callsign. (omega arith, omega arith)) a.callsign)
      (ranked_altitude a.on_ground a.altitude))
      (ranked_if 4 10 velocity_pairs (omega arith) ranked_velocity a.velocity))
      (ranked_if 10 13 (rate_pairs a.rate_source) (omega arith) (ranked_rate a.rate_source) a.vertical))
      (ranked_if 13 14 squawk_pair (omega arith) (λ code. (omega arith, omega arith)) a.squawk))
      (ranked_if 14 17 (place_pairs now placed) (omega arith) (λ p. (omega arith, (omega arith, ranked_if 16 17 (seen_pos_pair now) (omega arith) (λ at. (omega arith, omega arith)) placed))) a.position))
      (ranked_if 17 18 category_pair (omega arith) (λ c. (omega arith, omega arith)) a.category))
      (ranked_if 18 19 emergency_pair (omega arith) ranked_emergency a.emergency)

  pub ranked_aircraft : (address : Json) → AreRanked 0 21 ((codes "hex", address) ∷ (field_pairs now a placed ++ last_pairs now a))
  unfolding rank place_in known_keys same_key
  ranked_aircraft address = (omega arith, ranked_append 1 19 21 (field_pairs now a placed) (last_pairs now a) ranked_fields (omega arith, (omega arith, omega arith)))

pub ranked_table : (now messages aircraft : Json) → AreRanked 21 24 ((codes "now", now) ∷ (codes "messages", messages) ∷ (codes "aircraft", aircraft) ∷ [])
unfolding rank place_in known_keys same_key
ranked_table now messages aircraft = (omega arith, (omega arith, (omega arith, omega arith)))
