-- The names of rings.
use Rattle.std.proofs.Common.{◌≡◌, ◌∙◌, sym, ap}
use Rattle.std.specs.declared.alloc.Global.{Global}
use Rattle.rtrb.specs.Ends.{SameRing}
use Rattle.rtrb.specs.Ring.{IsPair}
use Rattle.rtrb.specs.declared.AnyItems.{AnyItems}
use Rattle.rtrb.specs.declared.consumer.Consumer.{Consumer}
use Rattle.rtrb.specs.declared.producer.Producer.{Producer}
use Rattle.station_portions.proofs.Common.{Message}
use Rattle.station_portions.specs.Rings.{reader_ring, source_ring}

-- what a thread sends by, once it has ended, and a source that has the ring that it had when it began
pub still_pair : (first last : Producer Message Global AnyItems) (c : Consumer Message Global AnyItems) → SameRing first.end last.end → source_ring c ≡ reader_ring first → IsPair last c
still_pair first last c same ring = (
  ap (λ r. r.words) ring ∙ sym same.0,
  ap (λ r. r.slots) ring ∙ sym same.1,
  ap (λ r. r.names) ring ∙ sym same.2,
  ap (λ r. r.heap) ring ∙ sym same.3,
)
