use Rattle.std.proofs.Common.{◌∙◌, ap, arith, inl, inr, refl, sym}
use Rattle.station_portions.specs.Giving.{left_of}
use Rattle.station_paths.proofs.path_ends.tell_end_of.Goals as goal

pub returns-then-is_left-clause-whole : goal.returns-then-is_left-clause-whole
returns-then-is_left-clause-whole g c = λ _.
    let is = c.is_left.ensures c.if-is_left.true in
    (inr (is.0, ap left_of (sym c.end.ensures ∙ is.1)), refl)

pub returns-then-is_left-clause-unfinished : goal.returns-then-is_left-clause-unfinished
returns-then-is_left-clause-unfinished g c = λ one. absurd (omega (arith, one))

pub returns-then-is_left-clause-told : goal.returns-then-is_left-clause-told
returns-then-is_left-clause-told g c = λ one. absurd (omega (arith, one))

pub returns-then-gave_all-clause-whole : goal.returns-then-gave_all-clause-whole
returns-then-gave_all-clause-whole g c = λ _. (inl (c.gave_all.ensures.whole c.if-gave_all.true), refl)

pub returns-then-gave_all-clause-unfinished : goal.returns-then-gave_all-clause-unfinished
returns-then-gave_all-clause-unfinished g c = λ one. absurd (omega (arith, one))

pub returns-then-gave_all-clause-told : goal.returns-then-gave_all-clause-told
returns-then-gave_all-clause-told g c = λ one. absurd (omega (arith, one))

pub returns-clause-whole : goal.returns-clause-whole
returns-clause-whole g c = λ none. absurd (omega (arith, none))

pub returns-clause-unfinished : goal.returns-clause-unfinished
returns-clause-unfinished g c = λ _. c.gave_all.ensures.unfinished c.if-gave_all.false

pub returns-clause-told : goal.returns-clause-told
returns-clause-told g c = λ _. c.tell_unfinished.ensures
