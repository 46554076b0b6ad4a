-- The lines that a call takes of what its source gives.
use Rattle.std.specs.Prelude.{◌≡◌, ℕ, ◌*◌, ◌<◌, ◌≤◌, Bool, true, false, not, nat_lt, List, length, [], ◌++◌, IfSome, Result, Ok, Err}
use Rattle.std.specs.Io.KnownBytes.{Appends, Consumes, Keeps, IsAtEnd}
use Rattle.modes_frame.specs.declared.cutter.Cut.{Cut}
use Rattle.modes_frame.specs.Lines.{cuts, ended_cuts, pending}
use Rattle.streams.specs.Sink.{count_after}
use Rattle.streams.specs.Source.{IsBorder, SourceState, one_more, counted_up}
use Rattle.station_lines.specs.Reads.{longest_read}
use Rattle.station_lines.specs.declared.lines.Ended.{Ended}
use Rattle.station_lines.specs.declared.lines.Ended.TheVariants as Ends

-- it gave these bytes, and is the same source
abbrev pub Gives : SourceState → SourceState → List ℕ → Type 0
Gives old new bytes = Consumes old.left new.left bytes × Appends old.given new.given bytes × (new.ring ≡ old.ring)

-- it gave none
abbrev pub GivesNone : SourceState → SourceState → Type 0
GivesNone old new = Keeps old.left new.left × Keeps old.given new.given × (new.ring ≡ old.ring)

-- it is at its end, where no line is begun in what it has given
abbrev pub IsOver : SourceState → Type 0
IsOver source = IsAtEnd source.left × IfSome source.given IsBorder

-- reads made one after another gave these bytes, at most 512 each, and the last of them may have found the end
pub record Gathers (old new : SourceState) (turns : ℕ) (bytes : List ℕ) (made : ℕ) (is_over : Bool) : Type 0 where
  pub given : Gives old new bytes
  pub some : 0 < made
  pub few : made ≤ turns
  pub reads : new.reads ≡ counted_up made old.reads
  pub ends : new.ends ≡ count_after (not is_over) old.ends
  pub over : is_over ≡ true → IsOver new
  pub failures : new.failures ≡ old.failures
  pub asked : length bytes ≤ longest_read * made

-- a read of at most 512 bytes gave n, which follow those before it
pub record ReadsMore (old new : SourceState) (before after : List ℕ) (n : ℕ) : Type 0 where
  pub bytes : List ℕ
  pub held : after ≡ before ++ bytes
  pub many : length bytes ≡ n
  pub given : Gives old new bytes
  pub reads : new.reads ≡ one_more old.reads
  pub ends : new.ends ≡ count_after (nat_lt 0 n) old.ends
  pub over : n ≡ 0 → IsOver new
  pub failures : new.failures ≡ old.failures
  pub asked : n ≤ longest_read

-- a read gave nothing and failed
pub record FailsOnce (old new : SourceState) : Type 0 where
  pub given : GivesNone old new
  pub reads : new.reads ≡ one_more old.reads
  pub ends : new.ends ≡ old.ends
  pub failures : new.failures ≡ one_more old.failures

-- why no further line is taken: the source reached its end, a read failed, all turns were used, or a line stopped the call
pub data Ending : Type 0 where
  AtEnd : Ending
  ReadFailed : Ending
  TurnsOver : Ending
  LineStopped : Ending

-- the lines taken of those in the bytes given, and what the source counted, by the reason
abbrev pub EndsAs : List ℕ → List Cut → List Cut → ℕ → SourceState → SourceState → Ending → Type 0
EndsAs given lines left_out turns old new AtEnd = (left_out ≡ []) × (new.ends ≡ one_more old.ends) × IsOver new
EndsAs given lines left_out turns old new ReadFailed = (lines ≡ ended_cuts given) × (new.ends ≡ old.ends)
EndsAs given lines left_out turns old new TurnsOver =
    (lines ≡ ended_cuts given) × (new.ends ≡ old.ends) × (new.reads ≡ counted_up turns old.reads)
EndsAs given lines left_out turns old new LineStopped = Unit {0}

-- a failed read ended the call
abbrev pub is_read_failed : Ending → Bool
is_read_failed ReadFailed = true
is_read_failed _ = false

-- the bytes that the reads of a call gave, and the lines taken of them: a prefix of all lines
pub record Draws (old new : SourceState) (turns : ℕ) (ending : Ending) (lines : List Cut) : Type 0 where
  pub given : List ℕ
  pub left_out : List Cut
  pub bytes : Gives old new given
  pub front : cuts given ≡ lines ++ left_out
  pub ends : EndsAs given lines left_out turns old new ending
  -- a read failed exactly where that ended the call. At most `turns` reads were made, of at most 512 bytes each
  pub failures : new.failures ≡ count_after (not (is_read_failed ending)) old.failures
  pub reads : (made : ℕ) × (made ≤ turns) × (new.reads ≡ counted_up made old.reads) × (length given ≤ longest_read * made)

-- the lines that end in `bytes`, after the bytes before them, were taken, as Took says
pub record TakesEach {X E : Type 0} (Took : X → List Cut → Result (Unit {0}) E → X → Type 0) (before bytes : List ℕ) (held : Cut) (x y : X) (result : Result (Unit {0}) E) : Type 0 where
  pub lines : List Cut
  pub ended : ended_cuts (before ++ bytes) ≡ ended_cuts before ++ lines
  pub begun : held ≡ pending (before ++ bytes)
  pub took : Took x lines result y

-- the first of these lines were taken, up to one that stopped the taking
pub record StopsWithin {X E : Type 0} (Took : X → List Cut → Result (Unit {0}) E → X → Type 0) (before bytes : List ℕ) (x y : X) (stop : E) : Type 0 where
  pub lines : List Cut
  pub left_out : List Cut
  pub ended : ended_cuts (before ++ bytes) ≡ ended_cuts before ++ (lines ++ left_out)
  pub took : Took x lines (Err stop) y

-- these lines were taken: all, or up to one that stopped the taking
abbrev pub TakesBytes : {X E : Type 0} → (X → List Cut → Result (Unit {0}) E → X → Type 0) → List ℕ → List ℕ → Cut → X → X → Result (Unit {0}) E → Type 0
TakesBytes Took before bytes held x y (Ok done) = TakesEach Took before bytes held x y (Ok tt)
TakesBytes Took before bytes held x y (Err stop) = StopsWithin Took before bytes x y stop

-- the last line, without its line feed, where it isn't empty
pub record TakesLast {X E : Type 0} (Took : X → List Cut → Result (Unit {0}) E → X → Type 0) (before : List ℕ) (x y : X) (result : Result (Unit {0}) E) : Type 0 where
  pub lines : List Cut
  pub all_given : cuts before ≡ ended_cuts before ++ lines
  pub took : Took x lines result y

-- all lines that a call took, as Took says, of the bytes that its source gave
pub record Taken {X E : Type 0} (Took : X → List Cut → Result (Unit {0}) E → X → Type 0) (old new : SourceState) (turns : ℕ) (ending : Ending) (x z : X) (result : Result (Unit {0}) E) : Type 0 where
  pub lines : List Cut
  pub draws : Draws old new turns ending lines
  pub took : Took x lines result z

-- the reason in the answer of a call
abbrev pub ending_as : {E : Type 0} → Ended E → Ending
ending_as Ends.AtEnd = AtEnd
ending_as Ends.ReadFailed = ReadFailed
ending_as Ends.TurnsOver = TurnsOver
ending_as (Ends.Stopped stop) = LineStopped

-- whether a line stopped the call, by its answer
abbrev pub stopped_as : {E : Type 0} → Ended E → Result (Unit {0}) E
stopped_as (Ends.Stopped stop) = Err stop
stopped_as _ = Ok tt

-- why a call ended whose source reached its end, by the answer to its last line
abbrev pub ended_by : {E : Type 0} → Result (Unit {0}) E → Ended E
ended_by (Ok done) = Ends.AtEnd
ended_by (Err stop) = Ends.Stopped stop
