-- The members of an aircraft are printed as its JSON has them.
use Rattle.std.proofs.Common.{◌≡◌, ℕ, zero, suc, ◌+◌, ◌-◌, ◌*◌, ◌/◌, ◌^◌, ◌<◌, ◌≤◌, ◌==◌, ◌&&◌, min, max, nat_le, nat_lt, Bool, true, false, if◌then◌else◌, List, [], ◌∷◌, ◌++◌, codes, Option, Some, None, IfSome, ℤ, unsigned_abs, option_map, decimal, refl, sym, ap, ap₂, ◌∙◌, arith, append_assoc, append-nil, flat_map, mul-le-mul_left}
use Rattle.std.specs.Fmt.{signed_decimal}
use Rattle.std.specs.Int.{is_negative}
use Rattle.std.specs.List.{AllByRecursion}
use Rattle.std.proofs.lemmas.Bool.Decides.{nat_tests}
use Rattle.std.proofs.lemmas.Int.{ints}
use Rattle.std.proofs.lemmas.List.Concat.{flat_map-append}
use Rattle.std.proofs.lemmas.List.Sums.{count_by-le-length}
use Rattle.std.proofs.lemmas.Nat.{mul-le}
use Rattle.json.specs.Print.{escape_byte}
use Rattle.json.proofs.Printed.Decimals.{IsNumber-decimal}
use Rattle.modes_fields.specs.declared.category.Category.{Category}
use Rattle.modes_fields.specs.declared.category.CategorySet.{CategorySet}
use Rattle.modes_fields.specs.declared.category.CategorySet.TheVariants.{A, B, C, D}
use Rattle.modes_fields.specs.declared.emergency.Emergency.{Emergency}
use Rattle.modes_fields.specs.declared.emergency.Emergency.TheVariants.{NoEmergency}
use Rattle.modes_fields.specs.declared.velocity.RateSource.{RateSource}
use Rattle.modes_fields.specs.declared.velocity.RateSource.TheVariants.{Gnss, Barometric}
use Rattle.modes_fields.specs.declared.velocity.Velocity.{Velocity}
use Rattle.modes_fields.specs.declared.velocity.Velocity.TheVariants.{Ground, Air, Surface}
use Rattle.modes_cpr.specs.declared.points.Position.{Position}
use Rattle.station_report.specs.Json.{if_known, flight, altitude_members, ground_members, shown_altitude, track_member, ground, air, surface, moving, rate, squawk, seen_pos, place, category_letter, category, emergency, seconds, tenths}
use Rattle.station_report.specs.Motion.{square, speed_tenths, tangents, nearest_degree, degrees_off, degrees_turned, track}
use Rattle.station_report.specs.Text.{ground_track, squawk_text, latitude_text, longitude_text}
use Rattle.station_report.proofs.RootLemmas.{root_is}
use Rattle.table_laws.specs.Ranges.{is_character, IsCallsign, IsCategory, IsAltitude, IsRate, IsVelocity, IsOnEarth}
use Rattle.table_laws.specs.JsonValue.{Pairs, pairs_of, flight_pair, feet_pairs, ground_pairs, altitude_pairs, track_pair, velocity_pairs, rate_pairs, squawk_pair, seen_pos_pair, place_pairs, category_pair, emergency_pair}
use Rattle.table_laws.proofs.NumberLemmas.{IsDecimal, decimal_digits}
use Rattle.table_laws.proofs.TextLemmas.{each_weaker}
use Rattle.table_laws.proofs.JsonTextLemmas.{ArePlain, pair_text, plain_append}
use Rattle.table_laws.proofs.JsonNumberLemmas.{IsNumber-tenths, IsNumber-seconds, IsNumber-latitude, IsNumber-longitude, IsNumber-feet, IsPlainByte, plain_text}

-- these members are printed so
pub record AreWritten (pairs : Pairs) (text : List ℕ) : Type 0 where
  pub plain : ArePlain pairs
  pub text_is : flat_map pair_text pairs ≡ text

pub written_append : (xs ys : Pairs) (s t : List ℕ) → AreWritten xs s → AreWritten ys t → AreWritten (xs ++ ys) (s ++ t)
written_append xs ys s t h k = record {
  plain = plain_append xs ys h.plain k.plain;
  text_is = flat_map-append pair_text xs ys ∙ ap₂ (λ a b. a ++ b) h.text_is k.text_is;
}

pub if_written : {V : Type 0} (P : V → Type 0) (pairs : V → Pairs) (text : V → List ℕ) → ((v : V) → P v → AreWritten (pairs v) (text v)) → (o : Option V) → IfSome o P → AreWritten (pairs_of pairs o) (if_known text o)
if_written P pairs text each None h = record { plain = tt; text_is = refl }
if_written P pairs text each (Some v) h = each v h

-- two keys with their values, and more
two : (a v b w l m : List ℕ) → l ≡ m → (a ++ v) ++ ((b ++ w) ++ l) ≡ a ++ v ++ b ++ w ++ m
two a v b w l m e = ap (λ l. (a ++ v) ++ ((b ++ w) ++ l)) e ∙ simp append_assoc

just_two : (a v b w : List ℕ) → (a ++ v) ++ ((b ++ w) ++ []) ≡ a ++ v ++ b ++ w
just_two a v b w = simp (append_assoc, append-nil)

in_quotes : (a v : List ℕ) → (a ++ (v ++ 34 ∷ [])) ++ [] ≡ a ++ v ++ 34 ∷ []
in_quotes a v = simp (append_assoc, append-nil)

-- ---- callsigns, altitudes, rates, squawks

plain_character : (c : ℕ) → is_character c ≡ true → IsPlainByte c
plain_character c h = (λ e. grind (arith, nat_tests), (λ e. grind (arith, nat_tests)), grind (arith, nat_tests))

pub flight_written : (callsign : List ℕ) → IsCallsign callsign → AreWritten (flight_pair callsign) (flight callsign)
unfolding flight escape_byte
flight_written callsign h = record {
  plain = ((refl, plain_text callsign (each_weaker (λ c. is_character c ≡ true) IsPlainByte plain_character callsign h.characters)), tt);
  text_is = in_quotes (codes ",\"flight\":\"") callsign;
}

feet_written : (feet : ℤ) → IsAltitude feet → AreWritten (feet_pairs feet) (altitude_members feet)
unfolding altitude_members escape_byte
feet_written feet h =
    let least = h.least in
    let most = h.most in
    let number = IsNumber-feet feet (omega (arith, ints)) in
    record { plain = ((refl, number), ((refl, number), tt)); text_is = just_two (codes ",\"alt_baro\":") (signed_decimal feet) (codes ",\"altitude\":") (signed_decimal feet) }

ground_written : AreWritten ground_pairs ground_members
unfolding ground_members escape_byte
ground_written = record { plain = ((refl, refl), ((refl, refl), tt)); text_is = refl }

pub altitude_written : (on_ground : Option Bool) (altitude : Option ℤ) → IfSome altitude IsAltitude → AreWritten (altitude_pairs on_ground altitude) (shown_altitude on_ground altitude)
altitude_written (Some true) altitude h = ground_written
altitude_written (Some false) altitude h = if_written IsAltitude feet_pairs altitude_members feet_written altitude h
altitude_written None altitude h = if_written IsAltitude feet_pairs altitude_members feet_written altitude h

pub rate_written : (source : Option RateSource) (feet : ℤ) → IsRate feet → AreWritten (rate_pairs source feet) (rate source feet)
unfolding rate escape_byte
rate_written (Some Gnss) feet h =
    let number = IsNumber-feet feet (omega (arith, h)) in
    record { plain = ((refl, number), ((refl, number), tt)); text_is = just_two (codes ",\"geom_rate\":") (signed_decimal feet) (codes ",\"vert_rate\":") (signed_decimal feet) }
rate_written (Some Barometric) feet h =
    let number = IsNumber-feet feet (omega (arith, h)) in
    record { plain = ((refl, number), ((refl, number), tt)); text_is = just_two (codes ",\"baro_rate\":") (signed_decimal feet) (codes ",\"vert_rate\":") (signed_decimal feet) }
rate_written None feet h =
    let number = IsNumber-feet feet (omega (arith, h)) in
    record { plain = ((refl, number), ((refl, number), tt)); text_is = just_two (codes ",\"baro_rate\":") (signed_decimal feet) (codes ",\"vert_rate\":") (signed_decimal feet) }

plain_digit : (c : ℕ) → 48 ≤ c → c ≤ 90 → IsPlainByte c
plain_digit c low high = (λ e. omega (arith, e), (λ e. omega (arith, e)), omega arith)

plain_squawk : (code : ℕ) → AllByRecursion IsPlainByte (squawk_text code)
unfolding squawk_text
plain_squawk code =
    (plain_digit _ (omega arith) (omega arith), (plain_digit _ (omega arith) (omega arith), (plain_digit _ (omega arith) (omega arith), (plain_digit _ (omega arith) (omega arith), tt))))

pub squawk_written : (code : ℕ) → AreWritten (squawk_pair code) (squawk code)
unfolding squawk escape_byte
squawk_written code = record { plain = ((refl, plain_text (squawk_text code) (plain_squawk code)), tt); text_is = in_quotes (codes ",\"squawk\":\"") (squawk_text code) }

-- ---- velocities

root_le : (n s : ℕ) → s * s ≤ n → s ≤ n
root_le n zero h = omega arith
root_le n (suc s) h = let m : suc s * 1 ≤ suc s * suc s = mul-le-mul_left (suc s) (omega arith) in omega (arith, m, h)

speed_small : (east north : ℤ) → unsigned_abs east ≤ 4088 → unsigned_abs north ≤ 4088 → speed_tenths east north < 2 ^ 64
speed_small east north e n =
    let a : square east ≤ 4088 * 4088 = mul-le (unsigned_abs east) (unsigned_abs east) 4088 4088 e e in
    let b : square north ≤ 4088 * 4088 = mul-le (unsigned_abs north) (unsigned_abs north) 4088 4088 n n in
    let m = root_le (100 * (square east + square north)) (speed_tenths east north) (root_is (100 * (square east + square north))).within in
    omega (arith, a, b, m)

nearest_most : (a b : ℕ) → nearest_degree a b ≤ 45
unfolding tangents
nearest_most a b = count_by-le-length (λ t. nat_lt (t * b) (1000000000 * a)) tangents

off_most : (east north : ℕ) → degrees_off east north ≤ 90
off_most east north = by (nat_le east north)
  where
    by : (t : Bool) → (if t then nearest_degree (min east north) (max east north) else 90 - nearest_degree (min east north) (max east north)) ≤ 90
    by true = omega (arith, nearest_most (min east north) (max east north))
    by false = omega arith

turned_most : (west south : Bool) (d : ℕ) → d ≤ 90 → degrees_turned west south d ≤ 360
turned_most false false d h = omega arith
turned_most false true d h = omega arith
turned_most true true d h = omega arith
turned_most true false d h = omega arith

abbrev IsTrack : ℕ → Type 0
IsTrack d = d ≤ 360

track_most : (east north : ℤ) → IfSome (track east north) IsTrack
track_most east north = by (unsigned_abs east == 0 && unsigned_abs north == 0)
  where
    d : ℕ
    d = degrees_turned (is_negative east) (is_negative north) (degrees_off (unsigned_abs east) (unsigned_abs north))

    by : (t : Bool) → IfSome (if t then None else Some (degrees_turned (is_negative east) (is_negative north) (degrees_off (unsigned_abs east) (unsigned_abs north)))) IsTrack
    by true = tt
    by false = turned_most (is_negative east) (is_negative north) (degrees_off (unsigned_abs east) (unsigned_abs north)) (off_most (unsigned_abs east) (unsigned_abs north))

track_written : (degrees : ℕ) → IsTrack degrees → AreWritten (track_pair degrees) (track_member degrees)
unfolding track_member escape_byte
track_written degrees h = record { plain = ((refl, IsNumber-decimal degrees (omega arith)), tt); text_is = append-nil (codes ",\"track\":" ++ decimal degrees) }

surface_track : (track : Option ℕ) → IfSome track (λ k. k < 128) → IfSome (option_map ground_track track) IsTrack
surface_track None h = tt
surface_track (Some k) h = omega arith

pub velocity_written : (velocity : Velocity) → IsVelocity velocity → AreWritten (velocity_pairs velocity) (moving velocity)
unfolding ground air surface escape_byte
velocity_written (Ground east north) h =
    let n = speed_tenths east north in
    let small : n < 2 ^ 64 = speed_small east north h.0 h.1 in
    let t = if_written IsTrack track_pair track_member track_written (track east north) (track_most east north) in
    record {
      plain = ((refl, IsNumber-tenths n small), ((refl, IsNumber-decimal (n / 10) (omega arith)), t.plain));
      text_is = two (codes ",\"gs\":") (tenths n) (codes ",\"speed\":") (decimal (n / 10)) _ _ t.text_is;
    }
velocity_written (Air heading true speed) h = record {
  plain = ((refl, IsNumber-tenths (heading * 3600 / 1024) (let few = h.0 in omega arith)), ((refl, IsNumber-decimal speed (let few = h.1 in omega arith)), tt));
  text_is = just_two (codes ",\"mag_heading\":") (tenths (heading * 3600 / 1024)) (codes ",\"tas\":") (decimal speed);
}
velocity_written (Air heading false speed) h = record {
  plain = ((refl, IsNumber-tenths (heading * 3600 / 1024) (let few = h.0 in omega arith)), ((refl, IsNumber-decimal speed (let few = h.1 in omega arith)), tt));
  text_is = just_two (codes ",\"mag_heading\":") (tenths (heading * 3600 / 1024)) (codes ",\"ias\":") (decimal speed);
}
velocity_written (Surface speed track) h =
    let few = h.0 in
    let t = if_written IsTrack track_pair track_member track_written (option_map ground_track track) (surface_track track h.1) in
    record {
      plain = ((refl, IsNumber-tenths (speed * 10 / 8) (omega arith)), ((refl, IsNumber-decimal (speed / 8) (omega arith)), t.plain));
      text_is = two (codes ",\"gs\":") (tenths (speed * 10 / 8)) (codes ",\"speed\":") (decimal (speed / 8)) _ _ t.text_is;
    }

-- ---- positions

abbrev IsAnyTime : ℕ → Type 0
IsAnyTime at = Unit {0}

any_time : (placed : Option ℕ) → IfSome placed IsAnyTime
any_time None = tt
any_time (Some at) = tt

seen_written : (now at : ℕ) → now < 2 ^ 64 → AreWritten (seen_pos_pair now at) (seen_pos now at)
unfolding seen_pos escape_byte
seen_written now at small = record { plain = ((refl, IsNumber-seconds (now - at) (omega arith)), tt); text_is = append-nil (codes ",\"seen_pos\":" ++ seconds (now - at)) }

pub place_written : (now : ℕ) (placed : Option ℕ) → now < 2 ^ 64 → (position : Position) → IsOnEarth position → AreWritten (place_pairs now placed position) (place now placed position)
unfolding place escape_byte
place_written now placed small position h =
    let seen = if_written IsAnyTime (seen_pos_pair now) (seen_pos now) (λ at any. seen_written now at small) placed (any_time placed) in
    record {
      plain = ((refl, IsNumber-latitude position h), ((refl, IsNumber-longitude position h), seen.plain));
      text_is = two (codes ",\"lat\":") (latitude_text position) (codes ",\"lon\":") (longitude_text position) _ _ seen.text_is;
    }

-- ---- categories and emergencies

plain_letter : (s : CategorySet) → IsPlainByte (category_letter s)
plain_letter A = plain_digit 65 (omega arith) (omega arith)
plain_letter B = plain_digit 66 (omega arith) (omega arith)
plain_letter C = plain_digit 67 (omega arith) (omega arith)
plain_letter D = plain_digit 68 (omega arith) (omega arith)

pub category_written : (c : Category) → IsCategory c → AreWritten (category_pair c) (category c)
unfolding category escape_byte
category_written c h =
    let most = h.most in
    let text = category_letter c.set ∷ decimal c.number in
    let digits = each_weaker IsDecimal IsPlainByte (λ d is. plain_digit d is.0 (let high = is.1 in omega arith)) (decimal c.number) (decimal_digits c.number (omega arith)) in
    record {
      plain = ((refl, plain_text text (plain_letter c.set, digits)), tt);
      text_is = in_quotes (codes ",\"category\":\"") text ∙ ap (λ l. l ++ codes "\"") (sym (append_assoc (codes ",\"category\":\"") (category_letter c.set ∷ []) (decimal c.number)));
    }

pub emergency_written : (e : Emergency) → AreWritten (emergency_pair e) (emergency e)
unfolding emergency escape_byte
emergency_written NoEmergency = record { plain = tt; text_is = refl }
emergency_written _ = record { plain = ((refl, refl), tt); text_is = refl }
