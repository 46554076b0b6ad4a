-- What a source reports.
use denote.RawPtr.{Ptr}
use Rattle.std.specs.Prelude.{◌≡◌, ◌⊎◌, ℕ, zero, suc, ◌==◌, ◌&&◌, not, Bool, false, List, [], ◌∷◌, ◌++◌, Option, Result, Ok, Err}
use Rattle.std.specs.declared.alloc.Global.{Global}
use Rattle.streams.specs.Sink.{count_after}

-- the name of a ring: where it is in memory, its capacity and ghost names, and whose memory it is
pub record RingName : Type 0 where
  pub words : Ptr
  pub slots : Ptr
  pub names : ℕ × (ℕ × ℕ)
  pub heap : Global

-- no line is begun: no bytes, or the last one is a line feed
abbrev pub IsBorder : List ℕ → Type 0
IsBorder bytes = (bytes ≡ []) ⊎ ((front : List ℕ) × (bytes ≡ front ++ 10 ∷ []))

-- what a source has left and has given
pub record SourceState : Type 0 where
  -- the bytes still to come, where they are known
  pub left : Option (List ℕ)
  -- the bytes given so far, where the source reports them
  pub given : Option (List ℕ)
  -- the reads so far, those of them that found the end, and those that failed, each up to 2^64 - 1. A read finds the
  -- end where it gives no byte into a buffer with room
  pub reads : ℕ
  pub ends : ℕ
  pub failures : ℕ
  -- the next read can't fail
  pub at_hand : Bool
  -- the ring that its bytes come through, if there is one
  pub ring : Option RingName

-- a read into a buffer with room that gave no byte found the end
abbrev pub is_end : {E : Type 0} → Result ℕ E → ℕ → Bool
is_end (Ok n) room = n == 0 && not (room == 0)
is_end (Err e) room = false

-- a stored count and one more, up to 2^64 - 1
abbrev pub one_more : ℕ → ℕ
one_more n = count_after false n

-- a stored count and n more
abbrev pub counted_up : ℕ → ℕ → ℕ
counted_up zero old = old
counted_up (suc n) old = one_more (counted_up n old)
