use Rattle.std.proofs.Common.{◌≡◌, ◌≤◌, ap, ◌∙◌, take, length, rules}
use Rattle.modes_frame.specs.Frames.{bits_of}
use Rattle.modes_fields.specs.Bits.{number}
use Rattle.modes_fields.proofs.MessageLemmas.{code13_by_word}
use Rattle.modes_fields.proofs.message.code13.Goals as goal

pub returns-clause-value : goal.returns-clause-value
returns-clause-value c =
    let long : 4 ≤ length c.args.frame.now = search rules in
    let word_is : c.word.result ≡ number (bits_of (take 4 c.args.frame.now)) = c.word.ensures ∙ ap (λ bytes. number (bits_of (take 4 bytes))) c.bytes.ensures.bytes in
    code13_by_word c.args.frame.now c.word.result long word_is
