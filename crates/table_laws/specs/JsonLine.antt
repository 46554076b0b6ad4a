-- A text that is one line of JSON, and what its numbers say.
use Rattle.std.specs.Prelude.{◌≡◌, ℕ, ◌==◌, ℤ, List, [], ◌∷◌, ◌++◌, length, Some, if◌then◌else◌}
use Rattle.json.specs.Json.{Json, document}
use Rattle.json.specs.Strict.{HasUniqueKeys}
use Rattle.table_laws.specs.Reading.{read_units}

-- the text is a line with its line feed. The grammar of JSON reads the line as this value, in which no object has a key twice
pub record IsJsonLine (text : List ℕ) (value : Json) : Type 0 where
  pub line : List ℕ
  pub ends : text ≡ line ++ 10 ∷ []
  pub reads : document line ≡ Some value
  pub unique : HasUniqueKeys value

-- what is after the point, if there is one
abbrev pub after_point : List ℕ → List ℕ
after_point [] = []
after_point (c ∷ cs) = if c == 46 then cs else after_point cs

-- what the text of a number is in units of its last decimal, and how many decimals it has
pub record Spells (text : List ℕ) (units : ℤ) (decimals : ℕ) : Type 0 where
  pub read : read_units text ≡ units
  pub places : length (after_point text) ≡ decimals
