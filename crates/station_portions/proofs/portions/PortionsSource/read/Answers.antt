use Rattle.std.proofs.Common.{◌≡◌, ◌⊎◌, [], is_some, true, not, Some, rules}
use Rattle.station_portions.specs.Giving.{ungiven_bytes}
use Rattle.station_portions.specs.declared.message.PathEnd.TheVariants.{AtEnd}
use Rattle.station_portions.proofs.GivingLemmas.{why_none}
use Rattle.station_portions.proofs.portions.PortionsSource.read.Goals.{then-count-eq0+then-not-is_empty, else-count-eq0}
use Rattle.station_portions.proofs.portions.PortionsSource.read.Goals as goal

pub returns-else-count-gt0-clause-why : goal.returns-else-count-gt0-clause-why
returns-else-count-gt0-clause-why g c = λ zero room.
    let ready = c.prepare.new.self in
    let none : c.give_some-count.result ≡ 0 = cc (zero) in
    let empty : ungiven_bytes ready ≡ [] = c.give_some-count.ensures.none none room in
    let has_room : not c.is_empty.result ≡ true = let e = c.is_empty.ensures in let r = c.give_some-count.ensures.room in search rules in
    let why : (c.give_some-count.new.self.end ≡ Some AtEnd) ⊎ (is_some c.give_some-count.new.self.asked ≡ true) =
    why_none _ _ _ _ _ _ empty c.give_some-count.ensures.end c.give_some-count.ensures.asked (c.has_failed.ensures.ended c.if-has_failed.false empty) (c.prepare.ensures.found has_room) in
    elim c.if-count-eq0.branch [
      | then-count-eq0+then-not-is_empty w ↦ rw w.self-is why
      | else-count-eq0 w ↦ rw w.self-is why
    ]
