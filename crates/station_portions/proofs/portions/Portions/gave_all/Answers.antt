use Rattle.std.proofs.Common.{◌≡◌, ◌∙◌, ap, arith, inl, inr, length, not, sym}
use Rattle.rtrb.specs.Ring.{known_items, received, sent}
use Rattle.station_portions.specs.Giving.{ungiven_bytes}
use Rattle.station_portions.proofs.GivingLemmas.{gave_whole, nothing_held, some_held}
use Rattle.station_portions.proofs.portions.Portions.gave_all.Goals as goal

pub returns-then-slots_beside-eq0-clause-all : goal.returns-then-slots_beside-eq0-clause-all
returns-then-slots_beside-eq0-clause-all g c = λ none.
    let known : length (known_items c.slots_beside.new.self) ≡ 0 = omega (arith, c.slots_beside.ensures.value, c.if-slots_beside-eq0.true) in
    gave_whole (received c.slots_beside.new.self) (known_items c.slots_beside.new.self) (sent c.args.path.now.messages) (ungiven_bytes c.args.self.now)
    (c.slots_beside.ensures.fifo ∙ c.slots_beside.ensures.producer.1) known (nothing_held (ungiven_bytes c.args.self.now) (ap not (sym c.has_bytes.ensures) ∙ none))

pub returns-then-slots_beside-eq0-clause-rest : goal.returns-then-slots_beside-eq0-clause-rest
returns-then-slots_beside-eq0-clause-rest g c = λ no. (
  known_items c.slots_beside.new.self,
  c.slots_beside.ensures.fifo ∙ c.slots_beside.ensures.producer.1,
  inr (some_held (ungiven_bytes c.args.self.now) (ap not (sym c.has_bytes.ensures) ∙ no)),
)

pub returns-else-slots_beside-eq0-clause-rest : goal.returns-else-slots_beside-eq0-clause-rest
returns-else-slots_beside-eq0-clause-rest g c = λ no. (
  known_items c.slots_beside.new.self,
  c.slots_beside.ensures.fifo ∙ c.slots_beside.ensures.producer.1,
  inl (omega (arith, c.slots_beside.ensures.value, c.if-slots_beside-eq0.false)),
)
