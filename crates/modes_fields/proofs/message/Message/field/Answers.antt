use Rattle.std.proofs.Common.{ap, ◌∙◌}
use Rattle.modes_fields.specs.Bits.{field}
use Rattle.modes_fields.proofs.MessageLemmas.{me_field_by_word}
use Rattle.modes_fields.proofs.message.Message.field.Goals as goal

pub returns-clause-value : goal.returns-clause-value
returns-clause-value c =
    me_field_by_word c.self.inside.word c.args.first c.args.last c.self.invariant c.requires.first c.requires.order c.requires.last
    ∙ ap (λ me. field c.args.first c.args.last me) c.self.view_is
