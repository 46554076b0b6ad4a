-- Whom a frame speaks for (ICAO Annex 10 Volume IV, 3.1.2.3.3.2).
use Rattle.std.specs.Prelude.{ℕ, ◌==◌, ◌||◌, ◌&&◌, not, nat_lt, Bool, true, List, Result, Ok, Err, if◌then◌else◌, take, drop}
use Rattle.modes_frame.specs.Frames.{df_of, bits_of, number_of, remainder_of}
use Rattle.modes_frame.specs.declared.claims.Claim.{Claim}
use Rattle.modes_frame.specs.declared.claims.CheckFault.{CheckFault}
use Rattle.modes_frame.specs.declared.claims.CheckFault.TheVariants.{Unsupported, BadParity, Unassigned}

-- the announced address AA: the number in bits 9 to 32 (3.1.2.5.2.2.2)
unfoldable pub address_field : List ℕ → ℕ
address_field bytes = number_of (take 24 (drop 8 (bits_of bytes)))

-- the control field CF of DF 18: the number in bits 6 to 8 (3.1.2.8.7.2)
unfoldable pub control_field : List ℕ → ℕ
control_field bytes = number_of (take 3 (drop 5 (bits_of bytes)))

-- an extended squitter whose AA is the address of its sender: DF 17, and DF 18 with control field 0, from a device that
-- is no transponder (3.1.2.8.6, 3.1.2.8.7)
abbrev pub is_squitter_format : ℕ → ℕ → Bool
is_squitter_format df control = df == 17 || (df == 18 && control == 0)

abbrev pub is_squitter_frame : List ℕ → Bool
is_squitter_frame bytes = is_squitter_format (df_of bytes) (control_field bytes)

-- the formats that end with AP: the address is laid over the parity (3.1.2.3.2.1.3)
abbrev pub is_overlaid_format : ℕ → Bool
is_overlaid_format df = df == 0 || df == 4 || df == 5 || df == 16 || df == 20 || df == 21

-- the formats that carry AA and end with PI: the all-call reply and the extended squitter (3.1.2.3.2.1.4)
abbrev pub is_announced_format : ℕ → ℕ → Bool
is_announced_format df control = df == 11 || is_squitter_format df control

-- the parity of an all-call reply is overlaid with a code of 7 bits, that of an extended squitter with nothing
abbrev pub has_parity : ℕ → ℕ → Bool
has_parity df remainder = if df == 11 then nat_lt remainder 128 else remainder == 0

-- no aircraft is given the address of 24 zeros or of 24 ones (Volume III, Part I, Chapter 9)
abbrev pub is_unassigned : ℕ → Bool
is_unassigned address = address == 0 || address == 0xFFFFFF

abbrev pub assigned_claim : ℕ → Bool → Result Claim CheckFault
assigned_claim address overlaid = if is_unassigned address then Err (Unassigned address) else Ok (record { address = address; overlaid = overlaid })

-- the claim, by the downlink format, the control field, the remainder of the whole frame and the announced address
abbrev pub claim_by : ℕ → ℕ → ℕ → ℕ → Result Claim CheckFault
claim_by df control remainder address =
    if is_overlaid_format df then Ok (record { address = remainder; overlaid = true })
    else if is_announced_format df control then (if has_parity df remainder then assigned_claim address (not (remainder == 0)) else Err (BadParity remainder))
    else Err (Unsupported df)

unfoldable pub claim_of : List ℕ → Result Claim CheckFault
claim_of bytes = claim_by (df_of bytes) (control_field bytes) (remainder_of bytes) (address_field bytes)
