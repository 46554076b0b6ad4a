-- Digits in pairs: the only fault is a bad digit, and its place is within the text.
use Rattle.std.proofs.Common.{◌≡◌, ◌≢◌, ℕ, ◌+◌, ◌*◌, ◌<◌, List, Result, Ok, Err, MatchResult, length, slice_index, arith, refl, ap, sym, ◌∙◌, subst}
use Rattle.hex.specs.Hex.{decode_pairs, decode_sized}
use Rattle.hex.specs.declared.error.FromHexError.{FromHexError}
use Rattle.hex.specs.declared.error.FromHexError.TheVariants.{InvalidHexCharacter}
use Rattle.hex.proofs.HexLemmas.{decode_pairs-err}
use Rattle.hex.proofs.Pairs.{decode_sized-pairs}
use Rattle.modes_frame.specs.Reading.{Decoded}

abbrev pub Outcome : List ℕ → Result (Unit {0}) FromHexError → Result (List ℕ) FromHexError → Type 0
Outcome new result sized = MatchResult sized (λ bytes. (result ≡ Ok tt) × (new ≡ bytes)) (λ e. result ≡ Err e)

refused : (e : FromHexError) (new : List ℕ) (decoded : Result (List ℕ) FromHexError) → Outcome new (Err e) decoded → decoded ≡ Err e
refused e new (Ok bytes) h = let same = h.0 in absurd cc
refused e new (Err d) h = let same : e ≡ d = cc in ap Err (sym same)

module _ (digits bytes new : List ℕ) (even : length digits ≡ 2 * length bytes) where
  pairs : decode_sized digits (length bytes) ≡ decode_pairs 0 digits
  pairs = decode_sized-pairs digits (length bytes) (omega (arith, even)) (omega (arith, even))

  fault : (e : FromHexError) → Outcome new (Err e) (decode_sized digits (length bytes)) → decode_pairs 0 digits ≡ Err e
  fault e h = sym pairs ∙ refused e new (decode_sized digits (length bytes)) h

  module _ (e : FromHexError) (h : Outcome new (Err e) (decode_sized digits (length bytes))) where
    first : (k : ℕ) × (e ≡ InvalidHexCharacter (slice_index digits k) (0 + k)) × (k < length digits)
    first = let at = decode_pairs-err 0 digits e (omega (arith, even)) (fault e h) in (at.0, at.1, at.2)

    -- the place of a bad digit
    pub bad_digit : (c index : ℕ) → e ≡ InvalidHexCharacter c index → (index < length digits) × Decoded (decode_pairs 0 digits) new (Err (index + 1))
    bad_digit c index is =
        let at = first in
        let place : index ≡ 0 + at.0 = let same = sym is ∙ at.1 in cc in
        let told : decode_pairs 0 digits ≡ Err (InvalidHexCharacter c index) = fault e h ∙ ap Err is in
        (omega (arith, place, at.2), subst (λ r. Decoded r new (Err (index + 1))) (sym told) refl)

    -- no other fault comes
    pub never : (d : FromHexError) → e ≡ d → ((c index : ℕ) → d ≢ InvalidHexCharacter c index) → ⊥
    never d is other = let at = first in other (slice_index digits at.0) (0 + at.0) (sym is ∙ at.1)
