use Rattle.std.proofs.Common.{◌+◌, ◌*◌, ◌<◌, ◌∙◌, arith, get_or}
use Rattle.modes_frame.proofs.PlaceLemmas.{number-of_three}
use Rattle.modes_frame.proofs.parity.sent.Goals as goal

pub returns : goal.returns
returns c =
    let bytes = c.args.bytes.now in
    let first : get_or bytes 0 0 < 256 = omega arith in
    let second : get_or bytes 1 0 < 256 = omega arith in
    let third : get_or bytes 2 0 < 256 = omega arith in
    (λ i. c.from.ensures i * 65536 + c.from-2.ensures i * 256 + c.from-3.ensures i)
    ∙ number-of_three bytes c.requires first second third
