-- The text of an aircraft, member by member.
use Rattle.std.proofs.Common.{◌≡◌, ℕ, List, ◌++◌, ap, ◌∙◌, append_assoc}

pub then_text : (before old new text : List ℕ) → new ≡ old ++ text → old ≡ before → new ≡ before ++ text
then_text before old new text n o = n ∙ ap (λ l. l ++ text) o

joined : (a b c d e : List ℕ) → a ++ b ++ c ++ d ++ e ≡ a ++ (b ++ c ++ d ++ e)
joined a b c d e = simp append_assoc

-- two keys with their values
pub two_members : (old mid new key value text other key2 value2 text2 : List ℕ) → value ≡ text → other ≡ key2 → value2 ≡ text2 → mid ≡ old ++ key ++ value → new ≡ mid ++ other ++ value2 → new ≡ old ++ (key ++ text ++ key2 ++ text2)
two_members old mid new key value text other key2 value2 text2 v k w m n =
    n
    ∙ ap (λ l. l ++ other ++ value2) (m ∙ ap (λ t. old ++ key ++ t) v)
    ∙ ap (λ l. old ++ key ++ text ++ l ++ value2) k
    ∙ ap (λ l. old ++ key ++ text ++ key2 ++ l) w
    ∙ joined old key text key2 text2
