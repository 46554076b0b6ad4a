use Rattle.std.proofs.Common.{ap, ◌∙◌, ◌-◌, length, take, bit_xor}
use Rattle.modes_frame.specs.Frames.{bits_of, number_of, parity_of, remainder_of}
use Rattle.modes_frame.proofs.BlankLemmas.{rest-is}
use Rattle.modes_frame.proofs.ParityLemmas.{remainder-lt}
use Rattle.modes_frame.proofs.PlaceLemmas.{remainder-at, remainder-after_zeros}
use Rattle.modes_frame.proofs.parity_by_place.remainder_by_place.Goals as goal

pub returns-clause-value : goal.returns-clause-value
returns-clause-value c =
    let bytes = c.last_fourteen-bytes.result.now in
    (λ i. bit_xor (c.parity_by_place.ensures i) (c.sent.ensures i))
    ∙ ap (λ last. bit_xor (parity_of (take 11 bytes)) (number_of (bits_of last))) (rest-is bytes 11)
    ∙ remainder-at bytes 11 c.last_fourteen-bytes.ensures.size
    ∙ ap remainder_of c.last_fourteen-bytes.ensures.bytes
    ∙ remainder-after_zeros (14 - length c.args.frame.now) c.args.frame.now

pub returns-clause-small : goal.returns-clause-small
returns-clause-small c = rw (returns-clause-value c) (remainder-lt c.args.frame.now)
