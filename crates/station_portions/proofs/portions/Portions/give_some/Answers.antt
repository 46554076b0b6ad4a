use Rattle.std.proofs.Common.{take}
use Rattle.rtrb.specs.Ring.{received}
use Rattle.station_portions.specs.Messages.{ungiven_of}
use Rattle.station_portions.proofs.GivingLemmas.{given_more, kept_more, nothing_given, nothing_left, border_given}
use Rattle.station_portions.proofs.portions.Portions.give_some.Goals as goal

pub invariant_of-self : goal.invariant_of-self
invariant_of-self g c =
    let portions = c.args.self.now in
    record {
      kept = kept_more (received portions.messages) (ungiven_of portions.batch portions.at) (take c.give.result c.give.new.buffer) _ portions.kept c.give.ensures.given;
      over = λ e.
          let none = portions.over e in
          nothing_left (ungiven_of portions.batch portions.at) c.give.new.buffer _ c.give.result
          (nothing_given (ungiven_of portions.batch portions.at) c.give.new.buffer _ c.give.result c.give.ensures.within none c.give.ensures.given) none c.give.ensures.given;
      ended = portions.ended;
      failed = portions.failed;
    }

pub returns-clause-given : goal.returns-clause-given
returns-clause-given g c =
    let portions = c.args.self.now in
    given_more (received portions.messages) (ungiven_of portions.batch portions.at) (take c.give.result c.give.new.buffer) _ portions.kept c.give.ensures.given

pub returns-clause-border : goal.returns-clause-border
returns-clause-border g c none room =
    let portions = c.args.self.now in
    border_given (received portions.messages) _
    (nothing_left (ungiven_of portions.batch portions.at) c.give.new.buffer _ c.give.result none (c.give.ensures.none none room) c.give.ensures.given)

pub returns-clause-still : goal.returns-clause-still
returns-clause-still g c none =
    let portions = c.args.self.now in
    nothing_given (ungiven_of portions.batch portions.at) c.give.new.buffer _ c.give.result c.give.ensures.within none c.give.ensures.given
