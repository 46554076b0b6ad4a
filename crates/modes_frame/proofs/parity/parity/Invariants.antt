use Rattle.std.proofs.Common.{◌≡◌, take}
use Rattle.modes_frame.specs.Frames.{parity_of}
use Rattle.modes_frame.proofs.parity.parity.Given as goal

-- the parity of the bytes so far
abbrev pub invariant-loop-byte : goal.invariant-loop-byte
invariant-loop-byte l = l.rest ≡ parity_of (take l.byte-index l.bytes)
