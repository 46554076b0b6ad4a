-- The bytes in the messages of a reader, and those of them that were given.
use Rattle.std.specs.Prelude.{ℕ, ◌-◌, List, [], ◌∷◌, ◌++◌, Option, Some, None, length, take, drop, ⊤}
use Rattle.station_portions.specs.declared.message.Batch.{Batch}
use Rattle.station_portions.specs.declared.message.Message.{Message}
use Rattle.station_portions.specs.declared.message.Message.TheVariants.{Lines, Over}
use Rattle.station_portions.specs.declared.message.PathEnd.{PathEnd}

-- the bytes of a batch
abbrev pub bytes_of_batch : Batch → List ℕ
bytes_of_batch batch = take batch.count batch.buffer.bytes.items

-- the bytes of all batches, in their order
abbrev pub bytes_of_messages : List Message → List ℕ
bytes_of_messages [] = []
bytes_of_messages (Lines batch ∷ messages) = bytes_of_batch batch ++ bytes_of_messages messages
bytes_of_messages (Over end ∷ messages) = bytes_of_messages messages

-- each of these is a batch: none is the end of a path
abbrev pub AreLines : List Message → Type 0
AreLines [] = ⊤
AreLines (Lines batch ∷ messages) = AreLines messages
AreLines (Over end ∷ messages) = ⊥

-- the bytes from a place of the last batch on, which weren't given yet
abbrev pub ungiven_of : Option Batch → ℕ → List ℕ
ungiven_of None at = []
ungiven_of (Some batch) at = drop at (bytes_of_batch batch)

-- the bytes before those
abbrev pub bytes_before : List Message → List ℕ → List ℕ
bytes_before messages ungiven = take (length (bytes_of_messages messages) - length ungiven) (bytes_of_messages messages)

-- the end that a message reports
abbrev pub end_of : Message → Option PathEnd
end_of (Lines batch) = None
end_of (Over end) = Some end

-- the end that the last of these reports
abbrev pub last_end : List Message → Option PathEnd
last_end [] = None
last_end (message ∷ []) = end_of message
last_end (message ∷ next ∷ messages) = last_end (next ∷ messages)
