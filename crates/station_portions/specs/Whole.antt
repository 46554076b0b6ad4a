-- The lines of a whole path.
use Rattle.std.specs.Prelude.{◌≡◌, ℕ, List, [], ◌∷◌, ◌++◌, Option}
use Rattle.std.specs.Io.KnownBytes.{Consumes, IsAtEnd}
use Rattle.modes_frame.specs.Lines.{cuts}
use Rattle.rtrb.specs.Ends.{SameRing}
use Rattle.rtrb.specs.Ring.{sent}
use Rattle.rtrb.specs.declared.producer.Producer.{Producer}
use Rattle.station_portions.specs.Messages.{AreLines, bytes_of_messages}
use Rattle.station_portions.specs.Sending.{lines_of}
use Rattle.station_portions.specs.declared.message.Message.{Message}
use Rattle.station_portions.specs.declared.message.Message.TheVariants.{Over}
use Rattle.station_portions.specs.declared.message.PathEnd.{PathEnd}
use Rattle.station_portions.specs.declared.message.PathEnd.TheVariants.{AtEnd}

-- the lines sent are those of all bytes read; the end was sent after them, and nothing else
pub record SendsAll (left_old left_new : Option (List ℕ)) (before after : List Message) (end : PathEnd) : Type 0 where
  pub read : List ℕ
  pub more : List Message
  pub given : Consumes left_old left_new read
  pub after_is : after ≡ before ++ (more ++ Over end ∷ [])
  pub only : AreLines more
  pub lines : cuts (bytes_of_messages more) ≡ lines_of end read
  pub over : end ≡ AtEnd → IsAtEnd left_new

-- the same of what a thread sends by, when it begins and when it has ended
abbrev pub SendsWhole : {A P : Type 0} → Option (List ℕ) → Option (List ℕ) → Producer Message A P → PathEnd → Producer Message A P → Type 0
SendsWhole left_old left_new first end last =
    SameRing first.end last.end × SendsAll left_old left_new (sent first) (sent last) end

-- the lines of the bytes that were given are those of all bytes read of a path: of all that it has, or up to a failed read
pub record GivesPath (left : Option (List ℕ)) (end : PathEnd) (given : List ℕ) : Type 0 where
  pub left_new : Option (List ℕ)
  pub read : List ℕ
  pub taken : Consumes left left_new read
  pub over : end ≡ AtEnd → IsAtEnd left_new
  pub lines : cuts given ≡ lines_of end read
