use Rattle.modes_fields.proofs.MessageLemmas.{code_bit_by_word}
use Rattle.modes_fields.proofs.readers.code_bit.Goals as goal

pub returns-clause-value : goal.returns-clause-value
returns-clause-value c = code_bit_by_word c.args.code c.args.n c.requires.first c.requires.last
