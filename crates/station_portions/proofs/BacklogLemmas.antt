-- The bytes kept of those that were read.
use Rattle.std.proofs.Common.{◌≡◌, ◌≢◌, ℕ, ◌+◌, ◌-◌, ◌<◌, ◌≤◌, min, List, length, take, drop, slice_index_or, sym, ap, ◌∙◌, length-take-le, length-drop, arith}
use Rattle.std.proofs.lemmas.List.{drop-take, take-take, take_min, get_or-drop}
use Rattle.station_portions.specs.Batches.{HasNoLineFeed}

-- the first bytes, as many as are kept
pub kept_few : (room : List ℕ) (count most : ℕ) → count ≤ length room → take (min count most) room ≡ take most (take count room)
kept_few room count most within =
    sym (take-take (min count most) count room (omega arith))
    ∙ ap (λ k. take k (take count room)) (omega (arith, length-take-le count room within))
    ∙ take_min most (take count room)

-- the bytes copied from a place on
pub copied_rest : (room new : List ℕ) (count border : ℕ) → border ≤ count → count ≤ length room
    → take (length (take (count - border) (drop border room))) new ≡ take (count - border) (drop border room)
    → take (count - border) new ≡ drop border (take count room)
copied_rest room new count border within large is =
    let many : length (take (count - border) (drop border room)) ≡ count - border =
    length-take-le (count - border) (drop border room) (omega (arith, length-drop border room)) in
    let same : count ≡ border + (count - border) = omega arith in
    sym (ap (λ k. take k new) many) ∙ is ∙ sym (ap (λ k. drop border (take k room)) same ∙ drop-take border (count - border) room)

-- where no byte from a place on is a line feed
pub none_after : (bytes : List ℕ) (at : ℕ) → ((k : ℕ) → at ≤ k → k < length bytes → slice_index_or bytes k 0 ≢ 10) → HasNoLineFeed (drop at bytes)
none_after bytes at none k less is =
    none (at + k) (omega arith) (omega (arith, length-drop at bytes)) (sym (get_or-drop at bytes k 0) ∙ is)
