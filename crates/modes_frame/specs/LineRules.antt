-- When each answer to a line comes, over the whole line.
use Rattle.std.specs.Prelude.{◌≡◌, ◌≢◌, ℕ, ◌+◌, ◌*◌, ◌<◌, ◌≤◌, ◌⊎◌, List, [], ◌∷◌, ◌++◌, Result, Ok, Err, IsTrue, Some, length, drop}
use Rattle.std.specs.List.{All}
use Rattle.hex.specs.Hex.{hex_digit_value, is_hex_digit}
use Rattle.modes_frame.specs.Frames.{IsFrame, df_of}
use Rattle.modes_frame.specs.Lines.{longest_line}
use Rattle.modes_frame.specs.Reading.{is_blank}
use Rattle.modes_frame.specs.declared.line.Line.{Line}
use Rattle.modes_frame.specs.declared.line.Line.TheVariants.{Frame, ModeAc, Blank}
use Rattle.modes_frame.specs.declared.line.LineFault.{LineFault}
use Rattle.modes_frame.specs.declared.line.LineFault.TheVariants.{TooLong, NoStart, NoEnd, BadLength, BadDigit, WrongLength}

abbrev pub IsBlank : ℕ → Type 0
IsBlank c = IsTrue (is_blank c)

-- the line without the spaces, tabs and carriage returns at its ends
pub record IsTrimmed (line rest : List ℕ) : Type 0 where
  pub front : List ℕ
  pub back : List ℕ
  pub parts : line ≡ front ++ (rest ++ back)
  pub blank_front : All IsBlank front
  pub blank_back : All IsBlank back
  pub first : (c : ℕ) (cs : List ℕ) → rest ≡ c ∷ cs → ¬ IsBlank c
  pub last : (c : ℕ) (cs : List ℕ) → rest ≡ cs ++ c ∷ [] → ¬ IsBlank c

-- `*`, or `@` before a counter of 12 digits
abbrev pub IsStart : ℕ → ℕ → Type 0
IsStart start counter = ((start ≡ 42) × (counter ≡ 0)) ⊎ ((start ≡ 64) × (counter ≡ 12))

-- a line that starts and ends as it should, and the bytes between
pub record IsEnclosed (rest : List ℕ) (counter : ℕ) (digits : List ℕ) : Type 0 where
  pub start : ℕ
  pub starts : IsStart start counter
  pub parts : rest ≡ start ∷ digits ++ 59 ∷ []

-- 4, 14 or 28 digits after the counter
abbrev pub HasLength : ℕ → List ℕ → Type 0
HasLength counter digits = (length digits ≡ counter + 4) ⊎ (length digits ≡ counter + 14) ⊎ (length digits ≡ counter + 28)

abbrev pub IsDigit : ℕ → Type 0
IsDigit c = IsTrue (is_hex_digit c)

-- bytes written as two hexadecimal digits each
abbrev pub Writes : List ℕ → List ℕ → Type 0
Writes [] bytes = bytes ≡ []
Writes (high ∷ []) bytes = ⊥
Writes (high ∷ low ∷ digits) [] = ⊥
Writes (high ∷ low ∷ digits) (byte ∷ bytes) =
    ((h : ℕ) × (l : ℕ) × (hex_digit_value high ≡ Some h) × (hex_digit_value low ≡ Some l) × (byte ≡ 16 * h + l)) × Writes digits bytes

-- the first byte that is no digit is at this place, counted from 1
pub record IsFirstBad (digits : List ℕ) (place : ℕ) : Type 0 where
  pub before : List ℕ
  pub bad : ℕ
  pub after : List ℕ
  pub parts : digits ≡ before ++ bad ∷ after
  pub all_digits : All IsDigit before
  pub no_digit : ¬ IsDigit bad
  pub is_place : place ≡ length before + 1

-- the digits after the counter write these bytes
pub record Carries (rest bytes : List ℕ) : Type 0 where
  pub counter : ℕ
  pub digits : List ℕ
  pub enclosed : IsEnclosed rest counter digits
  pub all_digits : All IsDigit digits
  pub written : Writes (drop counter digits) bytes

-- the one answer to a line of at most 64 bytes, without the blanks at its ends
abbrev pub Says : List ℕ → Result Line LineFault → Type 0
Says rest (Ok Blank) = rest ≡ []
Says rest (Ok ModeAc) = (bytes : List ℕ) × Carries rest bytes × (length bytes ≡ 2)
Says rest (Ok (Frame bytes)) = Carries rest bytes × IsFrame bytes
Says rest (Err TooLong) = ⊥
Says rest (Err NoStart) = (c : ℕ) × (cs : List ℕ) × (rest ≡ c ∷ cs) × ((counter : ℕ) → ¬ IsStart c counter)
Says rest (Err NoEnd) = (c : ℕ) × (cs : List ℕ) × (counter : ℕ) × (rest ≡ c ∷ cs) × IsStart c counter × ((digits : List ℕ) → cs ≢ digits ++ 59 ∷ [])
Says rest (Err (BadLength n)) = (counter : ℕ) × (digits : List ℕ) × IsEnclosed rest counter digits × (¬ HasLength counter digits) × (n ≡ length digits)
Says rest (Err (BadDigit place)) = (counter : ℕ) × (digits : List ℕ) × IsEnclosed rest counter digits × HasLength counter digits × IsFirstBad digits place
Says rest (Err (WrongLength df)) = (bytes : List ℕ) × Carries rest bytes × ((length bytes ≡ 7) ⊎ (length bytes ≡ 14)) × (¬ IsFrame bytes) × (df ≡ df_of bytes)

-- the one answer to a whole line
abbrev pub Reads : List ℕ → Result Line LineFault → Type 0
Reads line answer = ((longest_line < length line) × (answer ≡ Err TooLong)) ⊎ ((length line ≤ longest_line) × ((rest : List ℕ) × IsTrimmed line rest × Says rest answer))
