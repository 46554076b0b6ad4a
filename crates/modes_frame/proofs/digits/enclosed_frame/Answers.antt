use Rattle.std.proofs.Common.{Ok, ap, refl, sym, ◌∙◌}
use Rattle.modes_frame.proofs.LaneLemmas.{enclosed}
use Rattle.modes_frame.proofs.digits.enclosed_frame.Goals as goal

pub from_padded-requires-clause-zeros : goal.from_padded-requires-clause-zeros
from_padded-requires-clause-zeros c =
    (enclosed c.args.longer c.requires.one c.args.line.now _ _ c.requires.size c.digit_values-front.ensures c.digit_values-back.ensures
    (c.if-not-are_digits.ensures.front refl) (c.if-not-are_digits.ensures.back refl) c.paired.result c.paired.ensures c.requires.first).0

pub from_padded-requires-clause-frame : goal.from_padded-requires-clause-frame
from_padded-requires-clause-frame c =
    (enclosed c.args.longer c.requires.one c.args.line.now _ _ c.requires.size c.digit_values-front.ensures c.digit_values-back.ensures
    (c.if-not-are_digits.ensures.front refl) (c.if-not-are_digits.ensures.back refl) c.paired.result c.paired.ensures c.requires.first).2

pub returns-clause-value : goal.returns-clause-value
returns-clause-value c =
    (enclosed c.args.longer c.requires.one c.args.line.now _ _ c.requires.size c.digit_values-front.ensures c.digit_values-back.ensures
    (c.if-not-are_digits.ensures.front refl) (c.if-not-are_digits.ensures.back refl) c.paired.result c.paired.ensures c.requires.first).1
    ∙ ap (λ bytes. Ok bytes) (sym c.from_padded.ensures)
