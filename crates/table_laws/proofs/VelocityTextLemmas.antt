-- Velocities are read back from their texts.
use Rattle.std.proofs.Common.{◌≡◌, ◌≢◌, ℕ, ◌/◌, ◌^◌, ◌<◌, ◌≤◌, ◌==◌, Bool, true, false, if◌then◌else◌, List, [], ◌∷◌, ◌++◌, length, drop, Option, Some, None, IfSome, ℤ, unsigned_abs, refl, ap, ap₂, ◌∙◌, arith, decimal, ne_eqb, append_assoc, length-append, option_map}
use Rattle.std.specs.Fmt.{signed_decimal}
use Rattle.std.specs.List.{AllByRecursion}
use Rattle.modes_fields.specs.declared.velocity.Velocity.{Velocity}
use Rattle.modes_fields.specs.declared.velocity.Velocity.TheVariants.{Ground, Air, Surface}
use Rattle.station_report.specs.Text.{or_dash, airspeed_mark, ground_track, ground_track_text, velocity_text}
use Rattle.table_laws.specs.Ranges.{IsVelocity}
use Rattle.table_laws.specs.Reading.{ShownVelocity, OverGround, InAir, OnGround, shown_velocity, before_slash, after_slash, starts_with, read_field, read_number, read_signed, read_velocity}
use Rattle.table_laws.proofs.NumberLemmas.{IsDecimal, read_number-decimal, read_signed-signed}
use Rattle.table_laws.proofs.TextLemmas.{IsNoSpace, StartsAs, IsReadAs, IsNumeric, starts_weaker, starts_before, each_weaker, decimal_starts, decimal_numeric, signed_numeric, signed_nonempty, signed_starts, long_is_no_dash, other_is_no_dash, before_slash-is, after_slash-is}

abbrev IsNoSlash : ℕ → Type 0
IsNoSlash c = c ≢ 47

decimal_no_slash : (n : ℕ) → n < 2 ^ 64 → AllByRecursion IsNoSlash (decimal n)
decimal_no_slash n small = each_weaker IsNumeric IsNoSlash (λ c h. h.2) (decimal n) (decimal_numeric n small)

signed_no_slash : (z : ℤ) → unsigned_abs z < 2 ^ 63 → AllByRecursion IsNoSlash (signed_decimal z)
signed_no_slash z small = each_weaker IsNumeric IsNoSlash (λ c h. h.2) (signed_decimal z) (signed_numeric z small)

-- ---- over ground

third : (t u : Bool) (x y z : ShownVelocity) → t ≡ false → u ≡ false → (if t then x else if u then y else z) ≡ z
third true u x y z e f = cc
third false true x y z e f = cc
third false false x y z e f = refl

-- a text that begins with a digit or a minus sign is that of a velocity over ground
over_ground : (text : List ℕ) → StartsAs IsNumeric text → read_velocity text ≡ OverGround (read_signed (before_slash text)) (read_signed (after_slash text))
over_ground [] h = absurd h
over_ground (c ∷ cs) h = let most = h.1 in third (c == 72) (c == 71) _ _ _ (ne_eqb c 72 (λ e. omega (arith, e))) (ne_eqb c 71 (λ e. omega (arith, e)))

ground_back : (east north : ℤ) → unsigned_abs east < 2 ^ 63 → unsigned_abs north < 2 ^ 63 → read_velocity (signed_decimal east ++ 47 ∷ signed_decimal north) ≡ OverGround east north
ground_back east north le ln =
    let a = signed_decimal east in
    let b = signed_decimal north in
    over_ground (a ++ 47 ∷ b) (starts_before IsNumeric a (47 ∷ b) (signed_starts east le))
    ∙ ap₂ OverGround (ap read_signed (before_slash-is b a (signed_no_slash east le)) ∙ read_signed-signed east le)
    (ap read_signed (after_slash-is b a (signed_no_slash east le)) ∙ read_signed-signed north ln)

-- ---- in the air and on the ground

marked : (is_true : Bool) (rest : List ℕ) → (starts_with 84 (airspeed_mark is_true ++ rest) ≡ is_true) × (drop 1 (airspeed_mark is_true ++ rest) ≡ rest)
marked true rest = (refl, refl)
marked false rest = (refl, refl)

air_back : (heading : ℕ) (is_true : Bool) (speed : ℕ) → heading < 2 ^ 64 → speed < 2 ^ 64
    → read_velocity (72 ∷ (decimal heading ++ 47 ∷ (airspeed_mark is_true ++ decimal speed))) ≡ InAir heading is_true speed
air_back heading is_true speed lh ls =
    let a = decimal heading in
    let b = airspeed_mark is_true ++ decimal speed in
    let m = marked is_true (decimal speed) in
    let before : before_slash (a ++ 47 ∷ b) ≡ a = before_slash-is b a (decimal_no_slash heading lh) in
    let after : after_slash (a ++ 47 ∷ b) ≡ b = after_slash-is b a (decimal_no_slash heading lh) in
    let h : read_number (before_slash (a ++ 47 ∷ b)) ≡ heading = ap read_number before ∙ read_number-decimal heading lh in
    let t : starts_with 84 (after_slash (a ++ 47 ∷ b)) ≡ is_true = ap (starts_with 84) after ∙ m.0 in
    let s : read_number (drop 1 (after_slash (a ++ 47 ∷ b))) ≡ speed = ap (λ l. read_number (drop 1 l)) after ∙ ap read_number m.1 ∙ read_number-decimal speed ls in
    λ i. InAir (h i) (t i) (s i)

track_back : (track : Option ℕ) → IfSome track (λ k. k < 128) → read_field read_number (or_dash ground_track_text track) ≡ option_map ground_track track
track_back None h = refl
track_back (Some k) h =
    let text = ground_track_text k in
    let no_dash = other_is_no_dash text (starts_weaker IsDecimal (λ c. c ≢ 45) (λ c d e. let low = d.0 in omega (arith, e)) text (decimal_starts (ground_track k) (omega arith))) in
    ap (λ t. if t then None else Some (read_number text)) no_dash ∙ ap Some (read_number-decimal (ground_track k) (omega arith))

surface_back : (speed : ℕ) (track : Option ℕ) → speed ≤ 1400 → IfSome track (λ k. k < 128)
    → read_velocity (71 ∷ (decimal (speed / 8) ++ 47 ∷ or_dash ground_track_text track)) ≡ OnGround (speed / 8) (option_map ground_track track)
surface_back speed track few small =
    let a = decimal (speed / 8) in
    let b = or_dash ground_track_text track in
    let before : before_slash (a ++ 47 ∷ b) ≡ a = before_slash-is b a (decimal_no_slash (speed / 8) (omega arith)) in
    let after : after_slash (a ++ 47 ∷ b) ≡ b = after_slash-is b a (decimal_no_slash (speed / 8) (omega arith)) in
    ap₂ OnGround (ap read_number before ∙ read_number-decimal (speed / 8) (omega arith)) (ap (read_field read_number) after ∙ track_back track small)

-- ---- any velocity

regrouped : (a b : List ℕ) → a ++ 47 ∷ [] ++ b ≡ a ++ 47 ∷ b
regrouped a b = append_assoc a (47 ∷ []) b

marked_regrouped : (c : ℕ) (a m b : List ℕ) → c ∷ [] ++ a ++ 47 ∷ [] ++ m ++ b ≡ c ∷ (a ++ 47 ∷ (m ++ b))
marked_regrouped c a m b = ap (λ l. c ∷ l) (ap (λ l. l ++ b) (append_assoc a (47 ∷ []) m) ∙ append_assoc a (47 ∷ m) b)

-- it begins with no space, and is no dash
first_and_long : (c : ℕ) (cs : List ℕ) → c ≢ 32 → 0 < length cs → {W : Type 0} (read : List ℕ → W) (value : W) → read (c ∷ cs) ≡ value → IsReadAs (c ∷ cs) read value
first_and_long c cs plain some read value e = record { plain = plain; no_dash = long_is_no_dash (c ∷ cs) (omega arith); gives = e }

pub velocity_back : (velocity : Velocity) → IsVelocity velocity → IsReadAs (velocity_text velocity) read_velocity (shown_velocity velocity)
unfolding velocity_text
velocity_back (Ground east north) h =
    let le : unsigned_abs east < 2 ^ 63 = omega (arith, h.0) in
    let ln : unsigned_abs north < 2 ^ 63 = omega (arith, h.1) in
    let a = signed_decimal east in
    let b = signed_decimal north in
    let same : velocity_text (Ground east north) ≡ a ++ 47 ∷ b = regrouped a b in
    let plain = starts_before IsNoSpace (a ++ 47 ∷ []) b (starts_before IsNoSpace a (47 ∷ []) (starts_weaker IsNumeric IsNoSpace (λ c n e. let low = n.0 in omega (arith, e)) a (signed_starts east le))) in
    record {
      plain = plain;
      no_dash = long_is_no_dash (velocity_text (Ground east north)) (omega (arith, signed_nonempty east le, length-append (a ++ 47 ∷ []) b, length-append a (47 ∷ [])));
      gives = ap read_velocity same ∙ ground_back east north le ln;
    }
velocity_back (Air heading is_true speed) h =
    let same : velocity_text (Air heading is_true speed) ≡ 72 ∷ (decimal heading ++ 47 ∷ (airspeed_mark is_true ++ decimal speed)) = marked_regrouped 72 (decimal heading) (airspeed_mark is_true) (decimal speed) in
    let read = air_back heading is_true speed (omega (arith, h.0)) (omega (arith, h.1)) in
    rw same (first_and_long 72 (decimal heading ++ 47 ∷ (airspeed_mark is_true ++ decimal speed)) (λ e. omega (arith, e)) (omega (arith, length-append (decimal heading) (47 ∷ (airspeed_mark is_true ++ decimal speed)))) read_velocity _ read)
velocity_back (Surface speed track) h =
    let b = or_dash ground_track_text track in
    let same : velocity_text (Surface speed track) ≡ 71 ∷ (decimal (speed / 8) ++ 47 ∷ b) = ap (λ l. 71 ∷ l) (append_assoc (decimal (speed / 8)) (47 ∷ []) b) in
    let read = surface_back speed track h.0 h.1 in
    rw same (first_and_long 71 (decimal (speed / 8) ++ 47 ∷ b) (λ e. omega (arith, e)) (omega (arith, length-append (decimal (speed / 8)) (47 ∷ b))) read_velocity _ read)
