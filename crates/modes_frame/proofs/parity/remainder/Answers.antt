use Rattle.std.proofs.Common.{◌≡◌, ◌+◌, ◌-◌, ap, ◌∙◌, arith, length, take, bit_xor}
use Rattle.modes_frame.specs.Frames.{bits_of, number_of, parity_of, remainder_of}
use Rattle.modes_frame.proofs.BlankLemmas.{rest-is}
use Rattle.modes_frame.proofs.ParityLemmas.{remainder-lt}
use Rattle.modes_frame.proofs.PlaceLemmas.{remainder-at}
use Rattle.modes_frame.proofs.parity.remainder.Goals as goal
use Rattle.modes_frame.proofs.parity.remainder.Goals.{After-sent}

value : (c : After-sent) → bit_xor c.parity.result c.sent.result ≡ remainder_of c.args.frame.now
value c =
    let bytes = c.bytes-bytes.result.now in
    let n = length bytes - 3 in
    let same : length bytes ≡ length c.args.frame.now = ap length c.bytes-bytes.ensures.bytes in
    let count : length bytes ≡ n + 3 = grind arith in
    (λ i. bit_xor (c.parity.ensures i) (c.sent.ensures i))
    ∙ ap (λ last. bit_xor (parity_of (take n bytes)) (number_of (bits_of last))) (rest-is bytes n)
    ∙ remainder-at bytes n count
    ∙ ap remainder_of c.bytes-bytes.ensures.bytes

pub returns-clause-value : goal.returns-clause-value
returns-clause-value c = value c

pub returns-clause-small : goal.returns-clause-small
returns-clause-small c = rw (value c) (remainder-lt c.args.frame.now)
