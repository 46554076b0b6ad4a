-- Lines, with their line feed, that say a frame.
use Rattle.std.specs.Prelude.{◌≡◌, ◌≢◌, ℕ, ◌<◌, ◌≤◌, List, [], ◌∷◌, ◌++◌, Ok, length, slice_index}
use Rattle.modes_frame.specs.declared.cutter.Cut.{Cut}
use Rattle.modes_frame.specs.declared.cutter.Cut.TheVariants.{Whole}
use Rattle.modes_frame.specs.declared.line.Line.TheVariants.{Frame}
use Rattle.modes_frame.specs.Lines.{ended_cuts, longest_line, pending}
use Rattle.modes_frame.specs.Reading.{reading_of}

-- these bytes are a line and its line feed, and the line says this frame
pub record IsFrameLine (bytes frame : List ℕ) : Type 0 where
  pub line : List ℕ
  pub parts : bytes ≡ line ++ 10 ∷ []
  pub no_line_feed : (k : ℕ) → k < length line → slice_index line k ≢ 10
  pub short : length line ≤ longest_line
  pub says : reading_of line ≡ Ok (Frame frame)

-- after any bytes that leave a cutter in this state, these end one line, which says this frame, and leave the same state
pub record EndsFrame (held : Cut) (bytes frame : List ℕ) : Type 0 where
  pub line : List ℕ
  pub says : reading_of line ≡ Ok (Frame frame)
  pub ended : (before : List ℕ) → held ≡ pending before → ended_cuts (before ++ bytes) ≡ ended_cuts before ++ Whole line ∷ []
  pub left : (before : List ℕ) → held ≡ pending before → held ≡ pending (before ++ bytes)
