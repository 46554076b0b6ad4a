use Rattle.std.proofs.Common.{◌<◌, get_or, arith}
use Rattle.modes_frame.proofs.FormatLemmas.{format-is}
use Rattle.modes_frame.proofs.frame.format_of.Goals as goal

pub returns-clause-value : goal.returns-clause-value
returns-clause-value c =
    let bytes = c.args.bytes.now in
    let first : get_or bytes 0 0 < 256 = omega arith in
    format-is bytes first
