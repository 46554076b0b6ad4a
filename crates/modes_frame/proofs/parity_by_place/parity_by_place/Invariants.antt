use Rattle.std.proofs.Common.{◌≡◌, drop, bit_xor}
use Rattle.modes_frame.specs.Frames.{parity_of}
use Rattle.modes_frame.proofs.parity_by_place.parity_by_place.Given as goal

-- the parity of the places so far, XOR that of the bytes that are left
abbrev pub invariant-loop-place : goal.invariant-loop-place
invariant-loop-place l = bit_xor l.parity (parity_of (drop l.place l.bytes)) ≡ parity_of l.bytes
