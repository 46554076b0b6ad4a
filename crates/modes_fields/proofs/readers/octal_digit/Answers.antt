use Rattle.std.proofs.Common.{◌∙◌, ◌+◌, ◌*◌}
use Rattle.modes_frame.specs.Frames.{bit_of}
use Rattle.modes_fields.specs.Bits.{code_bits}
use Rattle.modes_fields.proofs.MessageLemmas.{octal_by_bits}
use Rattle.modes_fields.proofs.readers.octal_digit.Goals as goal

pub returns-clause-value : goal.returns-clause-value
returns-clause-value c =
    (λ i. 4 * c.code_bit.ensures.value i + 2 * c.code_bit-2.ensures.value i + c.code_bit-3.ensures.value i)
    ∙ octal_by_bits (bit_of c.args.four (code_bits 13 c.args.code)) (bit_of c.args.two (code_bits 13 c.args.code)) (bit_of c.args.one (code_bits 13 c.args.code))
