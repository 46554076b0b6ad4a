-- The tables that wait for an output, and what the output takes of them.
use Rattle.std.specs.Prelude.{◌≡◌, ℕ, Bool, false, List, [], ◌∷◌, ◌++◌, Option}
use Rattle.std.specs.declared.alloc.Global.{Global}
use Rattle.std.specs.Io.KnownBytes.{Keeps, append_known}
use Rattle.rtrb.specs.Ring.{SameConsumer, received, sent}
use Rattle.rtrb.specs.declared.AnyItems.{AnyItems}
use Rattle.rtrb.specs.declared.consumer.Consumer.{Consumer}
use Rattle.streams.specs.Sink.{AppendsFront, SinkState}
use Rattle.streams.specs.Source.{RingName}
use Rattle.station_output.specs.declared.table.Table.{Table}
use Rattle.station_output.specs.declared.table_queue.OutputThread.{OutputThread}
use Rattle.station_output.specs.declared.table_queue.TableQueue.{TableQueue}

-- the texts of tables, one after another
abbrev pub all_texts : List Table → List ℕ
all_texts [] = []
all_texts (table ∷ tables) = table.text.items ++ all_texts tables

-- an output has taken texts: all of them, or a front where a write failed
pub record HasWritten (before after : Option (List ℕ)) (texts : List ℕ) (has_failed : Bool) : Type 0 where
  pub takes : AppendsFront before after texts
  pub all : has_failed ≡ false → takes.rest ≡ []

-- an output that has taken the tables before goes on with those that came since
pub record WritesOn (before after : Option (List ℕ)) (old new : Consumer Table Global AnyItems) (was is : Bool) : Type 0 where
  pub ring : SameConsumer old new
  pub written : (first : Option (List ℕ)) → HasWritten first before (all_texts (received old)) was → HasWritten first after (all_texts (received new)) is

-- all texts that were sent to an output, one after another
abbrev pub sent_texts : TableQueue → List ℕ
sent_texts queue = all_texts (sent queue.tables)

-- the ring by which tables go to an output
abbrev pub queue_ring : TableQueue → RingName
queue_ring queue = record { words = queue.tables.end.words; slots = queue.tables.end.slots; names = queue.tables.end.names; heap = queue.tables.end.heap }

-- the ring from which a thread takes them
abbrev pub thread_ring : {S : Type 0} → OutputThread S → RingName
thread_ring thread = let tables = thread.handle.promise.begun.value.tables in
    record { words = tables.end.words; slots = tables.end.slots; names = tables.end.names; heap = tables.end.heap }

-- what the output of a thread had taken before the first table
abbrev pub taken_before : {S : Type 0} → (S → SinkState) → OutputThread S → Option (List ℕ)
taken_before state thread = (state thread.handle.promise.begun.value.out).taken

-- a queue to which the same texts were sent, by the same ring
pub record IsSame (old new : TableQueue) : Type 0 where
  pub sent : sent_texts new ≡ sent_texts old
  pub ring : queue_ring new ≡ queue_ring old

-- an output after its last write: what wasn't written is left out, and that is nothing if no write failed
pub record GivesBack (before after : Option (List ℕ)) (has_failed : Bool) : Type 0 where
  pub unwritten : List ℕ
  pub bytes : Keeps before (append_known after unwritten)
  pub well : has_failed ≡ false → unwritten ≡ []
