use Rattle.std.proofs.Common.{◌≡◌, ap, ◌∙◌, take, drop}
use Rattle.modes_frame.specs.Frames.{bits_of}
use Rattle.modes_fields.specs.Bits.{number}
use Rattle.modes_fields.proofs.MessageLemmas.{me_word-lt, me_by_word}
use Rattle.modes_fields.proofs.message.Message.of.Goals as goal

pub invariant_of-result : goal.invariant_of-result
invariant_of-result c =
    let word_is : c.word.result ≡ number (bits_of (take 7 (drop 4 c.args.frame.now))) = c.word.ensures ∙ ap (λ bytes. number (bits_of (take 7 (drop 4 bytes)))) c.bytes.ensures.bytes in
    me_word-lt c.args.frame.now c.word.result c.requires word_is

pub returns : goal.returns
returns c =
    let word_is : c.word.result ≡ number (bits_of (take 7 (drop 4 c.args.frame.now))) = c.word.ensures ∙ ap (λ bytes. number (bits_of (take 7 (drop 4 bytes)))) c.bytes.ensures.bytes in
    me_by_word c.args.frame.now c.word.result c.requires word_is
