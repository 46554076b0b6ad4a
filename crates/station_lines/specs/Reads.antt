-- How many bytes are read at once.
use Rattle.std.specs.Prelude.{ℕ}

-- the most bytes asked for by one read
abbrev pub longest_read : ℕ
longest_read = 512

-- the most bytes that are gathered from reads made one after another
abbrev pub longest_piece : ℕ
longest_piece = 16384
