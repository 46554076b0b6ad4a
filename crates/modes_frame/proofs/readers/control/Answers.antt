use Rattle.std.proofs.Common.{◌≡◌, ◌<◌, ◌≤◌, length, ap, ◌∙◌, arith, get_or}
use Rattle.modes_frame.specs.Claims.{control_field}
use Rattle.modes_frame.proofs.ClaimLemmas.{control_field-bytes}
use Rattle.modes_frame.proofs.readers.control.Goals as goal

pub returns : goal.returns
returns c =
    let bytes = c.bytes.result.now in
    let same : length bytes ≡ length c.args.frame.now = ap length c.bytes.ensures.bytes in
    let few : 1 ≤ length bytes = grind arith in
    let first : get_or bytes 0 0 < 256 = omega arith in
    (omega arith) ∙ control_field-bytes bytes few first ∙ ap control_field c.bytes.ensures.bytes
