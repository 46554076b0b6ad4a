use Rattle.std.proofs.Common.{sym, arith}
use Rattle.modes_frame.proofs.BitLemmas.{bit_of-bits_of}
use Rattle.modes_frame.proofs.frame.Frame.bit.Goals as goal

pub bounds-bytes-n : goal.bounds-bytes-n
bounds-bytes-n c = rw c.bytes.ensures.bytes (omega (arith, c.requires.first, c.requires.last))

pub returns : goal.returns
returns c = rw c.bytes.ensures.bytes (sym (bit_of-bits_of c.args.self.now c.args.n c.requires.first c.requires.last))
