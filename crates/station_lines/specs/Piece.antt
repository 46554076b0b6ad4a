-- What clauses read of a piece.
use Rattle.std.specs.Prelude.{ℕ, List, take}
use Rattle.station_lines.specs.declared.piece.Piece.{Piece}

-- its bytes
abbrev pub piece_bytes : Piece → List ℕ
piece_bytes piece = take piece.count piece.bytes
