use Rattle.std.proofs.Common.{◌≡◌, ◌<◌, List, take, take_all, arith, refl, sym, ◌∙◌, subst, below_more}
use Rattle.std.specs.List.{AllByRecursion}
use Rattle.station_shared.specs.Seats.{Seated}
use Rattle.station_shared.proofs.close.each_once.Goals as goal

pub returns-then-times-ne1 : goal.returns-then-times-ne1
returns-then-times-ne1 g c = ((λ t. absurd (cc)), (λ each. absurd (c.if-times-ne1.true (c.times.ensures ∙ each.once c.loop-number.number c.loop-number-test.true))))

pub loop-number-preserved : goal.loop-number-preserved
loop-number-preserved g c = below_more _ _ c.loop-number.invariant (sym c.times.ensures ∙ c.if-times-ne1.false)

pub returns : goal.returns
returns g c =
    let whole : take c.loop-seat.seat-index c.args.seats.now ≡ c.args.seats.now = take_all c.loop-seat.seat-index c.args.seats.now c.loop-seat-test.false in (
      (λ t. record {
        as_many = omega arith;
        below = subst (λ (l : List Seated). AllByRecursion (λ (s : Seated). s.number < c.args.count) l) whole c.loop-seat.invariant;
        once = λ k below. c.loop-number.invariant k (omega (arith, below, c.loop-number-test.false));
      }),
      (λ each. refl),
    )
