use Rattle.std.proofs.Common.{[], ◌∷◌, ◌++◌, ap, ◌∙◌, inl, sym}
use Rattle.rtrb.specs.Ring.{received}
use Rattle.station_portions.specs.Messages.{ungiven_of}
use Rattle.station_portions.proofs.GivingLemmas.{end_over, end_refilled, kept_over, kept_refilled, given_refilled, given_over, no_end, some_refilled}
use Rattle.station_portions.proofs.portions.Portions.refill.Goals as goal

pub invariant_of-self-in-Some-Lines-clause-kept : goal.invariant_of-self-in-Some-Lines-clause-kept
invariant_of-self-in-Some-Lines-clause-kept g c =
    let before = received c.args.self.now.messages in
    kept_refilled before _ c.in-Some-Lines.batch
    (c.in-Some-Lines.ensures.some ∙ ap (λ x. before ++ x ∷ []) c.in-Some-Lines.field-0-is)

pub invariant_of-self-in-Some-Lines-clause-ended : goal.invariant_of-self-in-Some-Lines-clause-ended
invariant_of-self-in-Some-Lines-clause-ended g c =
    let before = received c.args.self.now.messages in
    end_refilled before _ c.in-Some-Lines.batch _ (sym c.is_some.ensures ∙ c.if-is_some.false)
    (c.in-Some-Lines.ensures.some ∙ ap (λ x. before ++ x ∷ []) c.in-Some-Lines.field-0-is)

pub invariant_of-self-in-Some-Over-clause-ended : goal.invariant_of-self-in-Some-Over-clause-ended
invariant_of-self-in-Some-Over-clause-ended g c =
    let before = received c.args.self.now.messages in
    end_over before _ c.in-Some-Over.end
    (c.in-Some-Over.ensures.some ∙ ap (λ x. before ++ x ∷ []) c.in-Some-Over.field-0-is)

pub invariant_of-self-in-Some-Over-clause-kept : goal.invariant_of-self-in-Some-Over-clause-kept
invariant_of-self-in-Some-Over-clause-kept g c =
    let before = received c.args.self.now.messages in
    kept_over before _ _ c.in-Some-Over.end (ap (λ batch. ungiven_of batch c.args.self.now.at) c.take-emptied.ensures.after)
    (c.in-Some-Over.ensures.some ∙ ap (λ x. before ++ x ∷ []) c.in-Some-Over.field-0-is)

pub invariant_of-self-in-Some-Over-clause-over : goal.invariant_of-self-in-Some-Over-clause-over
invariant_of-self-in-Some-Over-clause-over g c = λ _. ap (λ batch. ungiven_of batch c.args.self.now.at) c.take-emptied.ensures.after

pub invariant_of-self-in-Some-Over-clause-failed : goal.invariant_of-self-in-Some-Over-clause-failed
invariant_of-self-in-Some-Over-clause-failed g c = λ some. absurd (no_end _ _ (sym c.is_some.ensures ∙ c.if-is_some.false) (c.args.self.now.failed some))

pub returns-in-Some-Lines-clause-found : goal.returns-in-Some-Lines-clause-found
returns-in-Some-Lines-clause-found g c = λ _. inl (some_refilled c.in-Some-Lines.batch)

pub returns-in-Some-Lines-clause-given : goal.returns-in-Some-Lines-clause-given
returns-in-Some-Lines-clause-given g c =
    let before = received c.args.self.now.messages in
    given_refilled before _ _ c.in-Some-Lines.batch c.requires
    (c.in-Some-Lines.ensures.some ∙ ap (λ x. before ++ x ∷ []) c.in-Some-Lines.field-0-is)

pub returns-in-Some-Over-clause-given : goal.returns-in-Some-Over-clause-given
returns-in-Some-Over-clause-given g c =
    let before = received c.args.self.now.messages in
    given_over before _ _ _ c.in-Some-Over.end c.requires (ap (λ batch. ungiven_of batch c.args.self.now.at) c.take-emptied.ensures.after)
    (c.in-Some-Over.ensures.some ∙ ap (λ x. before ++ x ∷ []) c.in-Some-Over.field-0-is)
