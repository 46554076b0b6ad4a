use Rattle.std.proofs.Common.{◌≡◌, ◌+◌, ◌-◌, ◌<◌, ◌≤◌, ◌∷◌, ap, sym, ◌∙◌, arith, length, replicate, drop, get_or, bit_xor}
use Rattle.std.specs.Int.Bits.{xor_assoc, xor_zero_r}
use Rattle.std.proofs.lemmas.List.{drop_all, drop_more, length-drop}
use Rattle.modes_frame.specs.Frames.{parity_of}
use Rattle.modes_frame.proofs.PlaceLemmas.{parity-first, parity-none}
use Rattle.modes_frame.proofs.parity_by_place.parity_by_place.Goals as goal

pub loop-place-preserved : goal.loop-place-preserved
loop-place-preserved c =
    let bytes = c.args.bytes.now in
    let at = c.loop-place.place in
    let byte = get_or bytes at 0 in
    let left = drop (at + 1) bytes in
    let within : at < length bytes = omega arith in
    let small : byte < 256 = omega arith in
    let count : length bytes - 1 - at ≡ length left = omega (arith, length-drop (at + 1) bytes) in
    xor_assoc c.loop-place.parity c.parity_before-parity.result (parity_of left)
    ∙ ap (λ n. bit_xor c.loop-place.parity n) (
    ap (λ n. bit_xor n (parity_of left)) (c.parity_before-parity.ensures ∙ ap (λ k. parity_of (byte ∷ replicate k 0)) count)
    ∙ sym (parity-first byte left small)
    ∙ ap parity_of (sym (drop_more bytes at 0 within))
    )
    ∙ c.loop-place.invariant

pub returns : goal.returns
returns c =
    let bytes = c.args.bytes.now in
    let done : length bytes ≤ c.loop-place.place = omega arith in
    sym (xor_zero_r c.loop-place.parity)
    ∙ ap (λ n. bit_xor c.loop-place.parity n) (sym parity-none ∙ ap parity_of (sym (drop_all c.loop-place.place bytes done)))
    ∙ c.loop-place.invariant
