-- The ranges of all that a frame carries.
use Rattle.std.proofs.Common.{ℕ, ◌^◌, ◌<◌, ◌≤◌, Bool, true, false, if◌then◌else◌, List, [], ◌∷◌, length, take, drop, IfSome, Result, IfOk, arith, pow-suc, length-take}
use Rattle.std.proofs.Math.Nat.{pow-le-pow_right}
use Rattle.modes_frame.proofs.Common.{bits_of, number_of, df_of, remainder_of}
use Rattle.modes_frame.specs.Claims.{address_field, control_field, claim_of, is_overlaid_format, is_announced_format, has_parity, is_unassigned, is_squitter_frame}
use Rattle.modes_frame.specs.declared.claims.Claim.{Claim}
use Rattle.modes_frame.specs.declared.claims.CheckFault.{CheckFault}
use Rattle.modes_frame.proofs.ParityLemmas.{remainder-lt}
use Rattle.modes_frame.proofs.NumberLemmas.{number-after}
use Rattle.modes_fields.proofs.Common.{field, me_of}
use Rattle.modes_fields.specs.Carried.{no_fields, is_type, message_fields, has_ac, has_id, fields_of}
use Rattle.modes_fields.specs.Emergencies.{emergency_in}
use Rattle.modes_fields.specs.Surfaces.{surface_in}
use Rattle.modes_fields.specs.declared.fields.Fields.{Fields}
use Rattle.modes_fields.specs.declared.surface.Surface.{Surface}
use Rattle.table_laws.specs.Ranges.{IsCallsign, IsCategory, IsAltitude, IsRate, IsVelocity}
use Rattle.table_laws.proofs.CallsignLemmas.{callsign_range}
use Rattle.table_laws.proofs.FieldLemmas.{altitude12_range, altitude13_range, squawk_range, category_range}
use Rattle.table_laws.proofs.VelocityLemmas.{velocity_range, vertical_range, surface_velocity_range}
use Rattle.table_laws.proofs.PlaceLemmas.{IsSmallPlace, place_range}

pub record IsSmallSurface (surface : Surface) : Type 0 where
  pub velocity : IfSome surface.velocity IsVelocity
  pub place : IsSmallPlace surface.place

pub record AreInRange (fields : Fields) : Type 0 where
  pub callsign : IfSome fields.callsign IsCallsign
  pub category : IfSome fields.category IsCategory
  pub altitude : IfSome fields.altitude IsAltitude
  pub squawk : IfSome fields.squawk (λ code. code < 4096)
  pub velocity : IfSome fields.velocity IsVelocity
  pub vertical : IfSome fields.vertical IsRate
  pub place : IfSome fields.place IsSmallPlace
  pub surface : IfSome fields.surface IsSmallSurface

no_fields_range : AreInRange no_fields
no_fields_range = record { callsign = tt; category = tt; altitude = tt; squawk = tt; velocity = tt; vertical = tt; place = tt; surface = tt }

chosen : (t : Bool) (f g : Fields) → AreInRange f → AreInRange g → AreInRange (if t then f else g)
chosen true f g h k = h
chosen false f g h k = k

surface_range : (me : List Bool) → IsSmallSurface (surface_in me)
unfolding surface_in
surface_range me = record { velocity = surface_velocity_range me; place = place_range me }

message_range : (me : List Bool) → AreInRange (message_fields me)
unfolding message_fields
message_range me =
    chosen (is_type 1 4 me) _ _ (record { callsign = callsign_range (field 9 56 me); category = category_range me; altitude = tt; squawk = tt; velocity = tt; vertical = tt; place = tt; surface = tt })
    (chosen (is_type 5 8 me) _ _ (record { callsign = tt; category = tt; altitude = tt; squawk = tt; velocity = tt; vertical = tt; place = tt; surface = surface_range me })
    (chosen (is_type 9 18 me) _ _ (record { callsign = tt; category = tt; altitude = altitude12_range (field 9 20 me); squawk = tt; velocity = tt; vertical = tt; place = place_range me; surface = tt })
    (chosen (is_type 19 19 me) _ _ (record { callsign = tt; category = tt; altitude = tt; squawk = tt; velocity = velocity_range me; vertical = vertical_range me; place = tt; surface = tt })
    (chosen (is_type 20 22 me) _ _ (record { callsign = tt; category = tt; altitude = tt; squawk = tt; velocity = tt; vertical = tt; place = place_range me; surface = tt })
    (chosen (is_type 28 28 me) (record no_fields { emergency = emergency_in me }) no_fields (record { callsign = tt; category = tt; altitude = tt; squawk = tt; velocity = tt; vertical = tt; place = tt; surface = tt }) no_fields_range)))))

pub fields_range : (frame : List ℕ) → AreInRange (fields_of frame)
unfolding fields_of
fields_range frame =
    chosen (has_ac frame) _ _ (record { callsign = tt; category = tt; altitude = altitude13_range (field 20 32 (bits_of frame)); squawk = tt; velocity = tt; vertical = tt; place = tt; surface = tt })
    (chosen (has_id frame) _ _ (record { callsign = tt; category = tt; altitude = tt; squawk = squawk_range (field 20 32 (bits_of frame)); velocity = tt; vertical = tt; place = tt; surface = tt })
    (chosen (is_squitter_frame frame) (message_fields (me_of frame)) no_fields (message_range (me_of frame)) no_fields_range))

-- ---- addresses

number_of-lt : (bits : List Bool) → number_of bits < 2 ^ length bits
number_of-lt [] = omega arith
number_of-lt (true ∷ rest) = omega (arith, pow-suc 2 (length rest), number-after rest 1, number_of-lt rest)
number_of-lt (false ∷ rest) = omega (arith, pow-suc 2 (length rest), number_of-lt rest)

address_field-lt : (bytes : List ℕ) → address_field bytes < 2 ^ 24
unfolding address_field
address_field-lt bytes =
    let bits = take 24 (drop 8 (bits_of bytes)) in
    let few : length bits ≤ 24 = omega (arith, length-take 24 (drop 8 (bits_of bytes))) in
    let most : 2 ^ length bits ≤ 2 ^ 24 = pow-le-pow_right (omega arith) few in
    omega (arith, number_of-lt bits, most)

abbrev HasAddress : Claim → Type 0
HasAddress claim = claim.address < 2 ^ 24

claim_either : (t : Bool) (r s : Result Claim CheckFault) → IfOk r HasAddress → IfOk s HasAddress → IfOk (if t then r else s) HasAddress
claim_either true r s h k = h
claim_either false r s h k = k

pub claim_range : (frame : List ℕ) → IfOk (claim_of frame) (λ claim. claim.address < 2 ^ 24)
unfolding claim_of
claim_range frame =
    let address = address_field frame in
    let remainder = remainder_of frame in
    claim_either (is_overlaid_format (df_of frame)) _ _ (remainder-lt frame)
    (claim_either (is_announced_format (df_of frame) (control_field frame)) _ _
    (claim_either (has_parity (df_of frame) remainder) _ _
    (claim_either (is_unassigned address) _ _ tt (address_field-lt frame)) tt) tt)
