use Rattle.std.proofs.Common.{◌≡◌, ◌<◌, ◌≤◌, length, ap, ◌∙◌, arith, get_or}
use Rattle.modes_frame.specs.Claims.{address_field}
use Rattle.modes_frame.proofs.ClaimLemmas.{address_field-bytes}
use Rattle.modes_frame.proofs.readers.announced_address.Goals as goal

pub returns-clause-value : goal.returns-clause-value
returns-clause-value c =
    let bytes = c.bytes-bytes.result.now in
    let same : length bytes ≡ length c.args.frame.now = ap length c.bytes-bytes.ensures.bytes in
    let few : 4 ≤ length bytes = grind arith in
    let second : get_or bytes 1 0 < 256 = omega arith in
    let third : get_or bytes 2 0 < 256 = omega arith in
    let fourth : get_or bytes 3 0 < 256 = omega arith in
    (omega arith) ∙ address_field-bytes bytes few second third fourth ∙ ap address_field c.bytes-bytes.ensures.bytes
