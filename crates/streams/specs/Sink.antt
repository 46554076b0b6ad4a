-- What a sink has taken, and when it has failed.
use Rattle.std.specs.Prelude.{◌≡◌, ℕ, ◌+◌, ◌-◌, ◌^◌, Bool, true, false, List, ◌++◌, Option, Result, MatchResult, is_ok, min}
use Rattle.std.specs.Io.KnownBytes.{Appends}

-- the bytes that a sink has taken so far, where they are known, and the writes and flushes that failed
pub record SinkState : Type 0 where
  pub taken : Option (List ℕ)
  pub failures : ℕ

-- a stored count after a call: as before where it went well, else one more, up to 2^64 - 1
abbrev pub count_after : Bool → ℕ → ℕ
count_after true n = n
count_after false n = min (n + 1) (2 ^ 64 - 1)

-- the known bytes grow by a prefix of this text
pub record AppendsFront (old new : Option (List ℕ)) (text : List ℕ) : Type 0 where
  pub front : List ℕ
  pub rest : List ℕ
  pub parts : text ≡ front ++ rest
  pub grown : Appends old new front

-- the whole text was taken and nothing failed, or the sink failed once and took a prefix of the text
pub record TakesAll {E : Type 0} (old new : SinkState) (text : List ℕ) (result : Result (Unit {0}) E) : Type 0 where
  pub bytes : MatchResult result (λ _. Appends old.taken new.taken text) (λ _. AppendsFront old.taken new.taken text)
  pub failures : new.failures ≡ count_after (is_ok result) old.failures
