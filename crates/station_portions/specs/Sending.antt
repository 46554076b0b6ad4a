-- The lines that a reader sends of those that it reads.
use Rattle.std.specs.Prelude.{◌≡◌, ℕ, List, ◌++◌, Option}
use Rattle.std.specs.Io.KnownBytes.{Consumes, IsAtEnd}
use Rattle.modes_frame.specs.declared.cutter.Cut.{Cut}
use Rattle.modes_frame.specs.Lines.{cuts, ended_cuts, pending}
use Rattle.station_portions.specs.Batches.{IsBorder}
use Rattle.station_portions.specs.Messages.{AreLines, bytes_of_messages}
use Rattle.station_portions.specs.declared.message.Message.{Message}
use Rattle.station_portions.specs.declared.message.PathEnd.{PathEnd}
use Rattle.station_portions.specs.declared.message.PathEnd.TheVariants.{AtEnd, ReadFailed}

-- the lines that were read are those that were sent and those that are kept, and the begun line is kept
pub record KeepsLines (read sent unsent : List ℕ) : Type 0 where
  pub lines : ended_cuts read ≡ ended_cuts sent ++ ended_cuts unsent
  pub begun : pending unsent ≡ pending read

-- further batches, of bytes that were kept
pub record SendsOn (before after : List Message) (unsent_old unsent_new : List ℕ) : Type 0 where
  pub more : List Message
  pub after_is : after ≡ before ++ more
  pub only : AreLines more
  pub keeps : (read sent : List ℕ) → IsBorder sent → KeepsLines read sent unsent_old → KeepsLines read (sent ++ bytes_of_messages more) unsent_new

-- the bytes read so far, and the batches with lines of them
pub record SentSoFar (left_old left_new : Option (List ℕ)) (before after : List Message) (unsent : List ℕ) : Type 0 where
  pub read : List ℕ
  pub more : List Message
  pub given : Consumes left_old left_new read
  pub after_is : after ≡ before ++ more
  pub only : AreLines more
  pub keeps : KeepsLines read (bytes_of_messages more) unsent

-- the lines to be sent: all, or after a failed read those that a line feed ended
abbrev pub lines_of : PathEnd → List ℕ → List Cut
lines_of AtEnd read = cuts read
lines_of ReadFailed read = ended_cuts read

-- the lines sent are those of all bytes read, which end where the path does, or with a failed read; nothing else is sent
pub record SendsPath (left_old left_new : Option (List ℕ)) (before after : List Message) (end : PathEnd) : Type 0 where
  pub read : List ℕ
  pub more : List Message
  pub given : Consumes left_old left_new read
  pub after_is : after ≡ before ++ more
  pub only : AreLines more
  pub lines : cuts (bytes_of_messages more) ≡ lines_of end read
  pub over : end ≡ AtEnd → IsAtEnd left_new

-- of one opening of a path just these lines were sent, and after its end the path was opened again
pub record SendsOpening {I O : Type 0} (opens : O → PathEnd → I → O → Type 0) (left : Option (List ℕ)) (before after : List Message) (again_old again_new : O) (next : I) : Type 0 where
  pub left_new : Option (List ℕ)
  pub end : PathEnd
  pub sends : SendsPath left left_new before after end
  pub opened : opens again_old end next again_new
