-- Lines of a list of bytes, and their cuts.
use Rattle.std.specs.Prelude.{ℕ, ◌==◌, nat_le, nat_lt, List, [], ◌∷◌, ◌++◌, Option, Some, None, if◌then◌else◌, length, map}
use Rattle.modes_frame.specs.declared.cutter.Cut.{Cut}
use Rattle.modes_frame.specs.declared.cutter.Cut.TheVariants.{Whole, TooLong}

-- the most bytes that a line may have, blanks at its ends included
abbrev pub longest_line : ℕ
longest_line = 64

-- the pieces that a line feed ends, and the piece after the last of them
pub record Pieces : Type 0 where
  pub ended : List (List ℕ)
  pub rest : List ℕ

-- a byte before the first piece
abbrev pub onto : ℕ → List (List ℕ) → List ℕ → Pieces
onto c [] rest = record { ended = []; rest = c ∷ rest }
onto c (line ∷ lines) rest = record { ended = (c ∷ line) ∷ lines; rest = rest }

abbrev pub pieces : List ℕ → Pieces
pieces [] = record { ended = []; rest = [] }
pieces (c ∷ cs) = if c == 10 then record { ended = [] ∷ (pieces cs).ended; rest = (pieces cs).rest }
    else onto c (pieces cs).ended (pieces cs).rest

-- a line of more than 64 bytes is too long
abbrev pub cut_of : List ℕ → Cut
cut_of line = if nat_le (length line) longest_line then Whole line else TooLong

-- the last piece is a line where it isn't empty
abbrev pub last_line : List ℕ → List (List ℕ)
last_line [] = []
last_line (c ∷ cs) = (c ∷ cs) ∷ []

-- the lines that a line feed ended; `cuts` has the last line too
abbrev pub ended_cuts : List ℕ → List Cut
ended_cuts bytes = map cut_of (pieces bytes).ended

abbrev pub cuts : List ℕ → List Cut
cuts bytes = map cut_of ((pieces bytes).ended ++ last_line (pieces bytes).rest)

-- the beginning of a line that no line feed has ended yet
abbrev pub pending : List ℕ → Cut
pending bytes = cut_of (pieces bytes).rest

-- ---- byte by byte

abbrev pub grown_cut : Cut → ℕ → Cut
grown_cut (Whole line) byte = if nat_lt (length line) longest_line then Whole (line ++ byte ∷ []) else TooLong
grown_cut TooLong byte = TooLong

abbrev pub cut_after : Cut → ℕ → Cut
cut_after held byte = if byte == 10 then Whole [] else grown_cut held byte

abbrev pub cut_ended_by : Cut → ℕ → Option Cut
cut_ended_by held byte = if byte == 10 then Some held else None

abbrev pub last_given : Cut → Option Cut
last_given (Whole []) = None
last_given (Whole (c ∷ cs)) = Some (Whole (c ∷ cs))
last_given TooLong = Some TooLong

-- a line with bytes after it, none of them a line feed
abbrev pub lengthened_cut : Cut → List ℕ → Cut
lengthened_cut (Whole line) piece = cut_of (line ++ piece)
lengthened_cut TooLong piece = TooLong
