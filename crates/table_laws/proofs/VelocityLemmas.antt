-- The ranges of velocities and vertical rates.
use Rattle.std.proofs.Common.{◌≡◌, ℕ, ◌-◌, ◌*◌, ◌<◌, ◌≤◌, ◌==◌, ◌||◌, Bool, true, false, if◌then◌else◌, List, Option, Some, None, IfSome, ℤ, unsigned_abs, arith, refl, option_map, nat_le, leb-true}
use Rattle.std.proofs.lemmas.Int.{ints}
use Rattle.modes_frame.specs.Frames.{bit_of}
use Rattle.modes_frame.proofs.AllByteLemmas.{all_of_width, all_of_width-at}
use Rattle.modes_fields.proofs.Common.{field}
use Rattle.modes_fields.specs.Velocities.{steps_of, signed_by, subtype_of, is_ground, is_air, knots_of, east_of, north_of, ground_of, air_of, velocity_in, vertical_in}
use Rattle.modes_fields.specs.Surfaces.{movement_speed, track_in, surface_velocity_in}
use Rattle.modes_fields.specs.declared.velocity.Velocity.TheVariants.{Ground, Air, Surface}
use Rattle.table_laws.specs.Ranges.{IsRate, IsVelocity}
use Rattle.table_laws.proofs.FieldLemmas.{either, mapped, and_then, field-lt}

abbrev IsAtMost : ℕ → ℕ → Type 0
IsAtMost most n = n ≤ most

steps_range : (step v most : ℕ) → step * (v - 1) ≤ most → IfSome (steps_of step v) (IsAtMost most)
steps_range step v most few = either (IsAtMost most) (v == 0) None (Some (step * (v - 1))) tt few

knots_by : (t : Bool) (v : ℕ) → v < 1024 → IfSome (steps_of (if t then 4 else 1) v) (IsAtMost 4088)
knots_by true v small = steps_range 4 v 4088 (omega arith)
knots_by false v small = steps_range 1 v 4088 (omega arith)

knots_range : (me : List Bool) (v : ℕ) → v < 1024 → IfSome (knots_of me v) (IsAtMost 4088)
knots_range me v small = knots_by (subtype_of me == 2 || subtype_of me == 4) v small

signed_range : (most : ℕ) (negative : Bool) (n : ℕ) → n ≤ most → unsigned_abs (signed_by negative n) ≤ most
signed_range most true n few = omega (arith, ints)
signed_range most false n few = omega (arith, ints)

abbrev IsSpeed : ℤ → Type 0
IsSpeed z = unsigned_abs z ≤ 4088

east_range : (me : List Bool) → IfSome (east_of me) IsSpeed
east_range me = mapped (IsAtMost 4088) IsSpeed (signed_by (bit_of 14 me)) (knots_of me (field 15 24 me)) (λ n few. signed_range 4088 (bit_of 14 me) n few) (knots_range me (field 15 24 me) (field-lt 15 24 me))

north_range : (me : List Bool) → IfSome (north_of me) IsSpeed
north_range me = mapped (IsAtMost 4088) IsSpeed (signed_by (bit_of 25 me)) (knots_of me (field 26 35 me)) (λ n few. signed_range 4088 (bit_of 25 me) n few) (knots_range me (field 26 35 me) (field-lt 26 35 me))

ground_range : (me : List Bool) → IfSome (ground_of me) IsVelocity
unfolding ground_of
ground_range me =
    and_then IsSpeed IsVelocity (λ east. option_map (Ground east) (north_of me)) (east_of me)
    (λ east e. mapped IsSpeed IsVelocity (Ground east) (north_of me) (λ north n. (e, n)) (north_range me)) (east_range me)

air_range : (me : List Bool) → IfSome (air_of me) IsVelocity
unfolding air_of
air_range me =
    either IsVelocity (bit_of 14 me) (option_map (Air (field 15 24 me) (bit_of 25 me)) (knots_of me (field 26 35 me))) None
    (mapped (IsAtMost 4088) IsVelocity (Air (field 15 24 me) (bit_of 25 me)) (knots_of me (field 26 35 me)) (λ n few. (field-lt 15 24 me, few)) (knots_range me (field 26 35 me) (field-lt 26 35 me))) tt

pub velocity_range : (me : List Bool) → IfSome (velocity_in me) IsVelocity
unfolding velocity_in
velocity_range me = either IsVelocity (is_ground me) (ground_of me) _ (ground_range me) (either IsVelocity (is_air me) (air_of me) None (air_range me) tt)

pub vertical_range : (me : List Bool) → IfSome (vertical_in me) IsRate
unfolding vertical_in
vertical_range me =
    either IsRate (is_ground me || is_air me) _ None
    (mapped (IsAtMost 32640) IsRate (signed_by (bit_of 37 me)) (steps_of 64 (field 38 46 me)) (λ n few. signed_range 32640 (bit_of 37 me) n few) (steps_range 64 (field 38 46 me) 32640 (let small = field-lt 38 46 me in omega arith))) tt

-- ---- on the ground

is_slow : Option ℕ → Bool
is_slow None = true
is_slow (Some speed) = nat_le speed 1400

slow_means : (o : Option ℕ) → is_slow o ≡ true → IfSome o (IsAtMost 1400)
unfolding is_slow
slow_means None e = tt
slow_means (Some speed) e = leb-true speed 1400 e

slow_everywhere : all_of_width 7 (λ code. is_slow (movement_speed code)) ≡ true
unfolding all_of_width is_slow movement_speed
slow_everywhere = refl

movement_range : (code : ℕ) → code < 128 → IfSome (movement_speed code) (IsAtMost 1400)
movement_range code small = slow_means (movement_speed code) (all_of_width-at 7 (λ code. is_slow (movement_speed code)) slow_everywhere code small)

track_range : (me : List Bool) → IfSome (track_in me) (λ k. k < 128)
unfolding track_in
track_range me = either (λ k. k < 128) (bit_of 13 me) (Some (field 14 20 me)) None (field-lt 14 20 me) tt

pub surface_velocity_range : (me : List Bool) → IfSome (surface_velocity_in me) IsVelocity
unfolding surface_velocity_in
surface_velocity_range me =
    mapped (IsAtMost 1400) IsVelocity (λ speed. Surface speed (track_in me)) (movement_speed (field 6 12 me))
    (λ speed few. (few, track_range me)) (movement_range (field 6 12 me) (field-lt 6 12 me))
