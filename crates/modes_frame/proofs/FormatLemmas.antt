-- The downlink format is in the first byte.
use Rattle.std.proofs.Common.{◌≡◌, ℕ, ◌/◌, ◌<◌, ◌==◌, true, List, [], ◌∷◌, get_or, refl, sym, ◌∙◌, eqb-true}
use Rattle.modes_frame.specs.Frames.{byte_bits, df_of}
use Rattle.modes_frame.proofs.AllByteLemmas.{all_of_width, all_of_width-at}

-- the bytes after the first don't matter
pub format-first : (bytes : List ℕ) → df_of bytes ≡ df_of (get_or bytes 0 0 ∷ [])
unfolding df_of byte_bits
format-first [] = refl
format-first (b ∷ bs) = refl

format-byte_all : all_of_width 8 (λ b. b / 8 == df_of (b ∷ [])) ≡ true
unfolding all_of_width df_of byte_bits
format-byte_all = refl

format-byte : (b : ℕ) → b < 256 → b / 8 ≡ df_of (b ∷ [])
format-byte b h = eqb-true (b / 8) (df_of (b ∷ [])) (all_of_width-at 8 (λ b. b / 8 == df_of (b ∷ [])) format-byte_all b h)

pub format-is : (bytes : List ℕ) → get_or bytes 0 0 < 256 → get_or bytes 0 0 / 8 ≡ df_of bytes
format-is bytes h = format-byte (get_or bytes 0 0) h ∙ sym (format-first bytes)
