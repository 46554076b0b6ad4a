-- The place of the receivers, as a text of `--at` names it.
use Rattle.std.specs.Prelude.{ℕ, ◌+◌, ◌-◌, ◌*◌, ◌^◌, ◌==◌, ◌&&◌, [], ◌∷◌, Option, Some, None, ℤ, pos, neg_ℤ, drop, length, nat_le, nat_lt, option_and_then, option_map, if◌then◌else◌}
use Rattle.std.specs.List.{after_first, before_first, position_or_len}
use Rattle.std.specs.Str.Parse.{starts_with_minus}
use Rattle.clap.specs.Words.{Text}
use Rattle.modes_cpr.specs.declared.points.Reference.{Reference}

-- the number that decimal digits write behind those of n, if there is nothing else among them
abbrev pub digits_after : ℕ → Text → Option ℕ
digits_after n [] = Some n
digits_after n (byte ∷ rest) = if nat_le 48 byte && nat_le byte 57 then digits_after (n * 10 + (byte - 48)) rest else None

-- the number of 1 to `most` decimal digits
abbrev pub number : (most : ℕ) → Text → Option ℕ
number most text = if nat_le 1 (length text) && nat_le (length text) most then digits_after 0 text else None

-- what 1 to 7 digits after a point write, in ten-millionths
abbrev pub decimals : Text → Option ℕ
decimals text = option_map (λ n. n * 10 ^ (7 - length text)) (number 7 text)

-- the texts on both sides of the first such byte, if there is one
abbrev pub sides : ℕ → Text → Option (Text × Text)
sides byte text =
    if nat_lt (position_or_len (λ b. b == byte) text) (length text) then Some (before_first (λ b. b == byte) text, after_first (λ b. b == byte) text)
    else None

-- degrees without a sign, in ten-millionths of one: 1 to 3 digits, or these, a point and 1 to 7 digits
abbrev pub size_by : Text → Option (Text × Text) → Option ℕ
size_by text None = option_map (λ n. n * 10000000) (number 3 text)
size_by text (Some parts) = option_and_then (λ n. option_map (λ part. n * 10000000 + part) (decimals parts.1)) (number 3 parts.0)

-- n, if it is at most this many degrees
abbrev pub up_to : (most n : ℕ) → Option ℕ
up_to most n = if nat_le n (most * 10000000) then Some n else None

abbrev pub size : (most : ℕ) → Text → Option ℕ
size most text = option_and_then (up_to most) (size_by text (sides 46 text))

-- degrees with a sign: a minus sign at most
abbrev pub angle : (most : ℕ) → Text → Option ℤ
angle most text =
    if starts_with_minus text then option_map (λ n. neg_ℤ (pos n)) (size most (drop 1 text)) else option_map (λ n. pos n) (size most text)

-- latitude, a comma and longitude: at most 90 and 180 degrees
abbrev pub place_by : Option (Text × Text) → Option Reference
place_by None = None
place_by (Some parts) = option_and_then (λ lat. option_map (λ lon. record { lat = lat; lon = lon }) (angle 180 parts.1)) (angle 90 parts.0)

-- the place that a text names
abbrev pub place_named : Text → Option Reference
place_named text = place_by (sides 44 text)
