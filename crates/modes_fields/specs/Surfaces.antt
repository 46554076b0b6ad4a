-- Surface positions: ME of type codes 5 to 8 (Doc 9871, register 06; DO-260B 2.2.3.2.4).
use Rattle.std.specs.Prelude.{ℕ, ◌+◌, ◌-◌, ◌*◌, ◌==◌, nat_le, Bool, List, Option, Some, None, if◌then◌else◌}
use Rattle.std.specs.Option.{option_map}
use Rattle.modes_frame.specs.Frames.{bit_of}
use Rattle.modes_fields.specs.Bits.{field}
use Rattle.modes_fields.specs.Places.{place_in}
use Rattle.modes_fields.specs.declared.surface.Surface.{Surface}
use Rattle.modes_fields.specs.declared.velocity.Velocity.{Velocity}
use Rattle.modes_fields.specs.declared.velocity.Velocity.TheVariants as velocity

-- the least ground speed of a movement code, in eighths of a knot: 0 says nothing, 1 is standing, then come steps of 1/8 knot
-- from 1/8, 1/4 from 1, 1/2 from 2, 1 from 15, 2 from 70 and 5 from 100; 124 is 175 knots and more, the rest is reserved.
-- These are the steps of Doc 9871 and DO-260A. In DO-260B codes 2 to 8 begin at most 1/8 knot off.
unfoldable pub movement_speed : ℕ → Option ℕ
movement_speed code =
    if code == 0 then None
    else if code == 1 then Some 0
    else if nat_le code 8 then Some (1 + (code - 2))
    else if nat_le code 12 then Some (8 + 2 * (code - 9))
    else if nat_le code 38 then Some (16 + 4 * (code - 13))
    else if nat_le code 93 then Some (120 + 8 * (code - 39))
    else if nat_le code 108 then Some (560 + 16 * (code - 94))
    else if nat_le code 123 then Some (800 + 40 * (code - 109))
    else if code == 124 then Some 1400
    else None

-- the track in bits 14 to 20, in 1/128 turn from north, clockwise: bit 13 says that it is given
unfoldable pub track_in : List Bool → Option ℕ
track_in me = if bit_of 13 me then Some (field 14 20 me) else None

-- the velocity, where the movement in bits 6 to 12 gives a speed; a track without a speed is none
unfoldable pub surface_velocity_in : List Bool → Option Velocity
surface_velocity_in me = option_map (λ speed. velocity.Surface speed (track_in me)) (movement_speed (field 6 12 me))

-- the velocity and the place, whose bits are those of an airborne position
unfoldable pub surface_in : List Bool → Surface
surface_in me = record { velocity = surface_velocity_in me; place = place_in me }
