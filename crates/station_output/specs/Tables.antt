-- The tables that are printed, one and many.
use Rattle.std.specs.Prelude.{◌≡◌, ◌⊎◌, ℕ, ◌&&◌, Bool, true, false, not, List, [], ◌∷◌, ◌++◌, Option, Some, None}
use Rattle.std.specs.Io.KnownBytes.{Appends}
use Rattle.station_journal.specs.declared.entry.Entry.{Entry}
use Rattle.streams.specs.Sink.{AppendsFront}
use Rattle.streams.specs.Source.{RingName}
use Rattle.station_report.specs.declared.formats.Format.{Format}
use Rattle.station_replay.specs.Replay.{table_in}
use Rattle.station_history.specs.Start.{Start, log_of}
use Rattle.station_shared.specs.Seats.{Seated, Looks}
use Rattle.messages.specs.Telling.{Tells, Told, fault_line}
use Rattle.messages.specs.declared.faults.Fault.TheVariants as fault

-- the table of these entries, in a format
abbrev pub text_of : Format → Start → List Entry → List ℕ
text_of format start seen = table_in format (log_of start seen)

-- ---- the output

-- the output of tables: the ring by which they go there, if there is one; what it takes where all that was sent is written, if that is known; whether it
-- is known that a write failed; whether a run goes on without its output; and the standard error where a failed write is then reported
-- at once
pub record Printing : Type 0 where
  pub ring : Option RingName
  pub taken : Option (List ℕ)
  pub has_failed : Bool
  pub goes_on : Bool
  pub alarm : Told

-- an output is broken: a write failed, and the run doesn't go on without it
abbrev pub is_broken : Printing → Bool
is_broken out = out.has_failed && not out.goes_on

-- a failed write is reported at once where the run goes on without its output
abbrev pub TellsOutput : (goes_on : Bool) → (old new : Told) → Type 0
TellsOutput true old new = Tells old new (fault_line fault.Write)
TellsOutput false old new = new ≡ old

-- it is learned that a write failed
pub record Fails (old new : Printing) : Type 0 where
  pub was : old.has_failed ≡ false
  pub is : new.has_failed ≡ true
  pub taken : new.taken ≡ old.taken
  pub goes_on : new.goes_on ≡ old.goes_on
  pub ring : new.ring ≡ old.ring
  pub told : TellsOutput old.goes_on old.alarm new.alarm

-- that, or nothing
abbrev pub MayFail : (old new : Printing) → Type 0
MayFail old new = (new ≡ old) ⊎ Fails old new

-- an output that had taken bytes before those that are known here
abbrev pub put_after : (before taken : Option (List ℕ)) → Option (List ℕ)
put_after None taken = None
put_after (Some bytes) None = None
put_after (Some bytes) (Some more) = Some (bytes ++ more)

abbrev pub based : (before : Option (List ℕ)) → Printing → Printing
based before out = record { ring = out.ring; taken = put_after before out.taken; has_failed = out.has_failed; goes_on = out.goes_on; alarm = out.alarm }

-- ---- many tables

-- the text of a look; a refused one has none
abbrev pub look_text : Format → Start → Option Seated → List ℕ
look_text format start None = []
look_text format start (Some look) = text_of format start look.seen

-- the texts of looks, one after another
abbrev pub texts : Format → Start → List (Option Seated) → List ℕ
texts format start [] = []
texts format start (look ∷ looks) = look_text format start look ++ texts format start looks

-- the output took the texts of all looks and nothing else
pub record TakesEach (format : Format) (start : Start) (looks : List (Option Seated)) (old new : Printing) : Type 0 where
  pub grown : Appends old.taken new.taken (texts format start looks)
  pub untold : new.alarm ≡ old.alarm

-- the output took a front of the texts of the first looks, and a write failed; it took nothing of later ones. Where the run doesn't go
-- on without it, none came
pub record FailsWithin (format : Format) (start : Start) (looks : List (Option Seated)) (old new : Printing) : Type 0 where
  pub first : List (Option Seated)
  pub later : List (Option Seated)
  pub parts : looks ≡ first ++ later
  pub takes : AppendsFront old.taken new.taken (texts format start first)
  pub told : TellsOutput old.goes_on old.alarm new.alarm
  pub stops : old.goes_on ≡ false → later ≡ []

-- a write failed before, and the output took nothing. Where the run doesn't go on without it, no look came
pub record TakesNothing (looks : List (Option Seated)) (old new : Printing) : Type 0 where
  pub same : new ≡ old
  pub stops : old.goes_on ≡ false → looks ≡ []

-- before and after: whether a write failed
abbrev pub TakesTextsBy : (before after : Bool) → Format → Start → List (Option Seated) → Printing → Printing → Type 0
TakesTextsBy false false format start looks old new = TakesEach format start looks old new
TakesTextsBy false true format start looks old new = FailsWithin format start looks old new
TakesTextsBy true true format start looks old new = TakesNothing looks old new
TakesTextsBy true false format start looks old new = ⊥

-- the output took the texts of these looks, or a front of them if it failed
pub record TakesTexts (format : Format) (start : Start) (looks : List (Option Seated)) (old new : Printing) : Type 0 where
  pub bytes : TakesTextsBy old.has_failed new.has_failed format start looks old new
  pub goes_on : new.goes_on ≡ old.goes_on
  pub ring : new.ring ≡ old.ring

-- ---- one table

-- the seat looks, and the table of all that it has seen by then is printed, unless a write failed before
pub record Prints (format : Format) (start : Start) (old new : Seated) (before after : Printing) : Type 0 where
  pub looks : Looks start old new
  pub takes : TakesTexts format start (Some new ∷ []) before after

-- the look is refused, or no more tables are printed: nothing is done
pub record PassesOver (old new : Seated) (before after : Printing) : Type 0 where
  pub same_seat : new ≡ old
  pub same_output : after ≡ before
