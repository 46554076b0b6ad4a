-- Emergency and priority status: ME of type code 28 with subtype 1 (Doc 9871, register 61; DO-260B 2.2.3.2.7.8.1).
use Rattle.std.specs.Prelude.{ℕ, ◌==◌, Bool, List, Option, Some, None, if◌then◌else◌}
use Rattle.modes_fields.specs.Bits.{field}
use Rattle.modes_fields.specs.declared.emergency.Emergency.{Emergency}
use Rattle.modes_fields.specs.declared.emergency.Emergency.TheVariants.{NoEmergency, General, Lifeguard, MinimumFuel, NoCommunications, UnlawfulInterference, Downed}

-- the emergency of a state: 0 says that there is none, 7 is reserved
abbrev pub emergency_of : ℕ → Option Emergency
emergency_of state =
    if state == 0 then Some NoEmergency
    else if state == 1 then Some General
    else if state == 2 then Some Lifeguard
    else if state == 3 then Some MinimumFuel
    else if state == 4 then Some NoCommunications
    else if state == 5 then Some UnlawfulInterference
    else if state == 6 then Some Downed
    else None

-- the subtype is in bits 6 to 8, the state in bits 9 to 11
unfoldable pub emergency_in : List Bool → Option Emergency
emergency_in me = if field 6 8 me == 1 then emergency_of (field 9 11 me) else None
