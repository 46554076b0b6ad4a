-- The names of the rings that messages come through.
use Rattle.std.specs.declared.alloc.Global.{Global}
use Rattle.rtrb.specs.declared.AnyItems.{AnyItems}
use Rattle.rtrb.specs.declared.consumer.Consumer.{Consumer}
use Rattle.rtrb.specs.declared.producer.Producer.{Producer}
use Rattle.streams.specs.Source.{RingName}
use Rattle.station_portions.specs.declared.message.Message.{Message}

-- the ring from which a source takes
abbrev pub source_ring : Consumer Message Global AnyItems → RingName
source_ring messages = record { words = messages.end.words; slots = messages.end.slots; names = messages.end.names; heap = messages.end.heap }

-- the ring into which a path's reader sends
abbrev pub reader_ring : Producer Message Global AnyItems → RingName
reader_ring messages = record { words = messages.end.words; slots = messages.end.slots; names = messages.end.names; heap = messages.end.heap }
