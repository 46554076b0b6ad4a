use Rattle.std.proofs.Common.{◌<◌, ◌^◌, ◌∷◌, [], ap, sym, ◌∙◌, subst, arith, rules, take, get_or, ℕ, ◌/◌, ◌%◌, ◌*◌, bit_xor}
use Rattle.std.proofs.lemmas.List.{take_more}
use Rattle.modes_frame.specs.Frames.{parity_of, divide}
use Rattle.modes_frame.proofs.ParityLemmas.{parity-lt, parity-more}
use Rattle.modes_frame.proofs.parity.parity.Goals as goal

pub loop-byte-init : goal.loop-byte-init
unfolding parity_of divide
loop-byte-init c = search rules

pub with_byte-rest-requires : goal.with_byte-rest-requires
with_byte-rest-requires c = subst (λ (n : ℕ). n < 2 ^ 24) (sym c.loop-byte.invariant) (parity-lt (take c.loop-byte.byte-index c.args.bytes.now))

pub loop-byte-preserved : goal.loop-byte-preserved
loop-byte-preserved c =
    let bytes = c.args.bytes.now in
    let i = c.loop-byte.byte-index in
    let small : get_or bytes i 0 < 256 = omega arith in
    c.with_byte-rest.ensures
    ∙ ap (λ (n : ℕ). bit_xor (parity_of (bit_xor (n / 65536) (get_or bytes i 0) ∷ [])) (n % 65536 * 256)) c.loop-byte.invariant
    ∙ sym (parity-more (take i bytes) (get_or bytes i 0) small)
    ∙ ap parity_of (sym (take_more bytes i 0 c.loop-byte-test.true))
