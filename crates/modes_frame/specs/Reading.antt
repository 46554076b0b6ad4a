-- What a line says.
use Rattle.std.specs.Prelude.{◌≡◌, ℕ, ◌+◌, ◌-◌, ◌/◌, slice_index, ◌==◌, ◌&&◌, ◌||◌, nat_lt, Bool, List, [], ◌∷◌, Result, Ok, Err, if◌then◌else◌, length, take, drop}
use Rattle.std.specs.List.{prefix_len, suffix_len}
use Rattle.hex.specs.Hex.{decode_pairs}
use Rattle.hex.specs.declared.error.FromHexError.{FromHexError}
use Rattle.hex.specs.declared.error.FromHexError.TheVariants.{InvalidHexCharacter, OddLength, InvalidStringLength, OutOfMemory}
use Rattle.modes_frame.specs.Frames.{df_of}
use Rattle.modes_frame.specs.Lines.{longest_line}
use Rattle.modes_frame.specs.declared.line.Line.{Line}
use Rattle.modes_frame.specs.declared.line.Line.TheVariants.{Frame, ModeAc, Blank}
use Rattle.modes_frame.specs.declared.line.LineFault.{LineFault}
use Rattle.modes_frame.specs.declared.line.LineFault.TheVariants.{NoStart, NoEnd, BadLength, BadDigit, WrongLength}
use Rattle.modes_frame.specs.declared.line.LineFault.TheVariants as Faults

-- a space, a tab or a carriage return
abbrev pub is_blank : ℕ → Bool
is_blank c = c == 32 || c == 9 || c == 13

-- the line without the blanks at its front
unfoldable pub front_trimmed : List ℕ → List ℕ
front_trimmed line = drop (prefix_len is_blank line) line

-- the line without the blanks at its back
unfoldable pub back_trimmed : List ℕ → List ℕ
back_trimmed line = take (length line - suffix_len is_blank line) line

-- the line without the blanks at both ends
abbrev pub trimmed_line : List ℕ → List ℕ
trimmed_line line = back_trimmed (front_trimmed line)

-- ---- from the start byte on

-- the number of digits of the counter, which come first
abbrev pub counter_len : ℕ → ℕ
counter_len start = if start == 64 then 12 else 0

abbrev pub is_start : ℕ → Bool
is_start c = c == 42 || c == 64

abbrev pub fits_length : ℕ → ℕ → Bool
fits_length start n = n == counter_len start + 4 || n == counter_len start + 14 || n == counter_len start + 28

-- a Mode A/C reply has two bytes, a frame the number that its format has
abbrev pub said_by : List ℕ → Result Line LineFault
said_by bytes = if length bytes == 2 then Ok ModeAc
    else if length bytes == (if nat_lt (df_of bytes) 16 then 7 else 14) then Ok (Frame bytes)
    else Err (WrongLength (df_of bytes))

-- places are counted from 1; an even number of digits has no other fault
abbrev pub from_digits : ℕ → Result (List ℕ) FromHexError → Result Line LineFault
from_digits start (Ok bytes) = said_by (drop (counter_len start / 2) bytes)
from_digits start (Err (InvalidHexCharacter c index)) = Err (BadDigit (index + 1))
from_digits start (Err OddLength) = Err (BadDigit 0)
from_digits start (Err InvalidStringLength) = Err (BadDigit 0)
from_digits start (Err OutOfMemory) = Err (BadDigit 0)

abbrev pub digits_of : ℕ → List ℕ → Result Line LineFault
digits_of start digits = if fits_length start (length digits) then from_digits start (decode_pairs 0 digits) else Err (BadLength (length digits))

abbrev pub body_of : ℕ → List ℕ → Result Line LineFault
body_of start rest = if nat_lt 0 (length rest) && slice_index rest (length rest - 1) == 59 then digits_of start (take (length rest - 1) rest) else Err NoEnd

-- what a line without blanks at its ends says
abbrev pub line_reading : List ℕ → Result Line LineFault
line_reading [] = Ok Blank
line_reading (start ∷ rest) = if is_start start then body_of start rest else Err NoStart

-- what a whole line says: one of more than 64 bytes is too long, blanks included
abbrev pub reading_of : List ℕ → Result Line LineFault
reading_of line = if nat_lt longest_line (length line) then Err Faults.TooLong else line_reading (trimmed_line line)

-- ---- the digits' bytes

-- the bytes of the digits, or the place of the first byte that is no digit, counted from 1
abbrev pub Decoded : Result (List ℕ) FromHexError → List ℕ → Result (Unit {0}) ℕ → Type 0
Decoded (Ok decoded) bytes result = (result ≡ Ok tt) × (bytes ≡ decoded)
Decoded (Err (InvalidHexCharacter c index)) bytes result = result ≡ Err (index + 1)
Decoded _ bytes result = ⊥

abbrev pub Decodes : List ℕ → List ℕ → Result (Unit {0}) ℕ → Type 0
Decodes digits bytes result = Decoded (decode_pairs 0 digits) bytes result
