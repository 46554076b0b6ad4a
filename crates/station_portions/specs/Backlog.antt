-- The bytes that were read and not sent yet.
use Rattle.std.specs.Prelude.{◌≡◌, ℕ, List, [], ◌∷◌, ◌++◌, length, take, Option}
use Rattle.std.specs.Io.KnownBytes.{Consumes, IsAtEnd}
use Rattle.station_portions.specs.declared.backlog.Backlog.{Backlog}

abbrev pub unsent_bytes : Backlog → List ℕ
unsent_bytes backlog = take backlog.count backlog.buffer.bytes.items

-- the bytes with a line feed after them, where there are some
abbrev pub ended_line : List ℕ → List ℕ
ended_line [] = []
ended_line (c ∷ cs) = c ∷ cs ++ 10 ∷ []

-- a read gave n bytes, which follow the old ones
pub record ReadsOn (left_old left_new : Option (List ℕ)) (old new : List ℕ) (n : ℕ) : Type 0 where
  pub bytes : List ℕ
  pub held : new ≡ old ++ bytes
  pub many : length bytes ≡ n
  pub given : Consumes left_old left_new bytes
  pub over : n ≡ 0 → IsAtEnd left_new
