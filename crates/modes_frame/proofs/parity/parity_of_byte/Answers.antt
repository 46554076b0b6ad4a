use Rattle.std.proofs.Common.{refl, arith}
use Rattle.modes_frame.proofs.Common.{parity_of, divide, byte_bits, TABLE}
use Rattle.modes_frame.proofs.AllByteLemmas.{all_of_width}
use Rattle.modes_frame.proofs.ParityLemmas.{table-at}
use Rattle.modes_frame.proofs.parity.parity_of_byte.Goals as goal

pub returns : goal.returns
unfolding all_of_width parity_of divide byte_bits
returns c = table-at TABLE refl c.args.byte (omega arith)
