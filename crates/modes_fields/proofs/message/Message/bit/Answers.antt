use Rattle.std.proofs.Common.{ap, ◌∙◌}
use Rattle.modes_frame.specs.Frames.{bit_of}
use Rattle.modes_fields.proofs.MessageLemmas.{me_bit_by_word}
use Rattle.modes_fields.proofs.message.Message.bit.Goals as goal

pub returns : goal.returns
returns c = me_bit_by_word c.self.inside.word c.args.n c.requires.first c.requires.last ∙ ap (λ me. bit_of c.args.n me) c.self.view_is
