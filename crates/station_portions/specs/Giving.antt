-- What a source of portions took, and what of it it gave.
use Rattle.std.specs.Prelude.{ℕ, List, [], Option, None, Some, nat_lt, length}
use Rattle.rtrb.specs.Ring.{received}
use Rattle.streams.specs.Source.{SourceState}
use Rattle.station_portions.specs.Messages.{bytes_before, ungiven_of}
use Rattle.station_portions.specs.Rings.{source_ring}
use Rattle.station_portions.specs.declared.message.Message.{Message}
use Rattle.station_portions.specs.declared.message.PathEnd.{PathEnd}
use Rattle.station_portions.specs.declared.portions.Portions.{Portions}

-- all messages that it took
abbrev pub taken_messages : {R : Type 0} → Portions R → List Message
taken_messages portions = received portions.messages

-- the bytes in them that it hasn't given yet
abbrev pub ungiven_bytes : {R : Type 0} → Portions R → List ℕ
ungiven_bytes portions = ungiven_of portions.batch portions.at

-- all bytes that it gave, over all portions
abbrev pub given_bytes : {R : Type 0} → Portions R → List ℕ
given_bytes portions = bytes_before (taken_messages portions) (ungiven_bytes portions)

-- nothing is left of a path that has ended, or whose read failed; before that it isn't known
abbrev pub left_of : Option PathEnd → Option (List ℕ)
left_of None = None
left_of (Some end) = Some []

-- the source as its trait shows it: the bytes given so far, what it has counted, whether some were received, and its ring
abbrev pub state_of : {R : Type 0} → Portions R → SourceState
state_of portions = record {
  left = left_of portions.end;
  given = Some (given_bytes portions);
  reads = portions.reads;
  ends = portions.ends;
  failures = portions.failures;
  at_hand = nat_lt 0 (length (ungiven_bytes portions));
  ring = Some (source_ring portions.messages);
}
