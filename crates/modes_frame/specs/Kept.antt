-- How a frame is kept, and the values of digits.
use Rattle.std.specs.Prelude.{◌≡◌, ℕ, ◌+◌, ◌-◌, ◌*◌, ◌≤◌, List, [], ◌∷◌, ◌++◌, length, drop, replicate, unwrap_or, nat_lt, if◌then◌else◌}
use Rattle.hex.specs.Hex.{hex_digit_value}
use Rattle.modes_frame.specs.Frames.{df_of, IsFrame}

-- the number of bytes of a frame that begins like this
abbrev pub count_of : List ℕ → ℕ
count_of bytes = if nat_lt (df_of bytes) 16 then 7 else 14

-- the bytes of a frame that is kept in 16
abbrev pub bytes_in : ℕ → List ℕ → List ℕ
bytes_in count padded = drop (16 - count) padded

-- bytes with zeros before them, 16 in all
abbrev pub with_zeros : List ℕ → List ℕ
with_zeros bytes = replicate (16 - length bytes) 0 ++ bytes

-- a frame is kept as the number of its bytes, and these bytes with zeros before them, 16 in all
pub record IsPaddedFrame (count : ℕ) (padded : List ℕ) : Type 0 where
  pub size : length padded ≡ 16
  pub few : count ≤ 14
  pub same : length (bytes_in count padded) ≡ count
  pub rest : with_zeros (bytes_in count padded) ≡ padded
  pub frame : IsFrame (bytes_in count padded)

-- the value of a byte as a digit, or 16 where it is none
abbrev pub value_of : ℕ → ℕ
value_of byte = unwrap_or (hex_digit_value byte) 16

-- the bytes of pairs of digits' values
abbrev pub bytes_of : List ℕ → List ℕ
bytes_of [] = []
bytes_of (high ∷ []) = []
bytes_of (high ∷ low ∷ values) = (high * 16 + low) ∷ bytes_of values
