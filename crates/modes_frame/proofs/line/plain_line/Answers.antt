use Rattle.std.proofs.Common.{◌≡◌, ◌+◌, ◌*◌, ◌⊎◌, length, take, drop, arith, ap, inl, inr, refl, rules, sym, ◌∙◌}
use Rattle.std.proofs.lemmas.List.{drop-take, take-take}
use Rattle.hex.specs.Hex.{decode_pairs}
use Rattle.modes_frame.proofs.LaneLemmas.{zero_or_one}
use Rattle.modes_frame.proofs.PlainLemmas.{frame-line}
use Rattle.modes_frame.proofs.line.plain_line.Goals as goal

pub returns-clause-line : goal.returns-clause-line
returns-clause-line c =
    let bytes = c.args.bytes.now in
    let longer = c.longer-longer.result in
    let count = 14 + 14 * longer in
    let digits = take count (drop 1 bytes) in
    let one = c.longer-longer.ensures.one in
    let number : length digits ≡ count = search (arith, rules, c.if-not-is_enclosed.ensures.within refl) in
    let few : (length digits ≡ 14) ⊎ (length digits ≡ 28) =
    elim (zero_or_one longer one) [ inl is ↦ inl (omega (arith, number, is)) | inr is ↦ inr (omega (arith, number, is)) ] in
    let more : count + 3 ≡ 1 + (count + 2) = omega arith in
    let inside : take count (drop 1 (take (count + 3) bytes)) ≡ digits =
    ap (take count) (ap (λ n. drop 1 (take n bytes)) more ∙ drop-take 1 (count + 2) bytes) ∙ take-take count (count + 2) (drop 1 bytes) (omega arith) in
    frame-line digits c.in_ok-frame.frame few (ap (decode_pairs 0) (sym inside) ∙ c.in_ok-frame.ensures.value) c.in_ok-frame.ensures.frame
    (take (count + 3) bytes) (c.if-not-is_enclosed.ensures.parts refl)
