-- The ranges of callsigns.
use Rattle.std.proofs.Common.{◌≡◌, ℕ, suc, ◌+◌, ◌≤◌, ◌==◌, ◌&&◌, ◌||◌, Bool, true, false, if◌then◌else◌, List, [], ◌∷◌, length, map, Option, Some, None, IfSome, arith, refl, ap, nat_le}
use Rattle.std.specs.List.{AllByRecursion}
use Rattle.std.proofs.lemmas.Bool.Decides.{nat_tests}
use Rattle.modes_fields.proofs.Common.{code_bits, character_of, character_codes, characters_of, all_of, before, without_end_spaces, some_text, callsign_in_code}
use Rattle.table_laws.specs.Ranges.{is_character, IsCallsign}
use Rattle.table_laws.proofs.FieldLemmas.{mapped, and_then}

abbrev IsOneCharacter : ℕ → Type 0
IsOneCharacter c = is_character c ≡ true

abbrev AreCharacters : List ℕ → Type 0
AreCharacters = AllByRecursion IsOneCharacter

-- ---- eight characters

either_test : (t : Bool) (x y : Option ℕ) → (t ≡ true → IfSome x IsOneCharacter) → (t ≡ false → IfSome y IsOneCharacter) → IfSome (if t then x else y) IsOneCharacter
either_test true x y h k = h refl
either_test false x y h k = k refl

a_letter : (code : ℕ) → (nat_le 1 code && nat_le code 26) ≡ true → IsOneCharacter (code + 64)
a_letter code e = grind (arith, nat_tests)

a_digit : (code : ℕ) → (code == 32 || (nat_le 48 code && nat_le code 57)) ≡ true → IsOneCharacter code
a_digit code e = grind (arith, nat_tests)

character_range : (code : ℕ) → IfSome (character_of code) IsOneCharacter
unfolding character_of
character_range code =
    either_test (nat_le 1 code && nat_le code 26) (Some (code + 64)) _ (a_letter code)
    (λ other. either_test (code == 32 || (nat_le 48 code && nat_le code 57)) (Some code) None (a_digit code) (λ none. tt))

abbrev AreEach : ℕ → List ℕ → Type 0
AreEach n text = (length text ≡ n) × AreCharacters text

one_more : (n : ℕ) (o : Option ℕ) (rest : List (Option ℕ)) → IfSome o IsOneCharacter → IfSome (all_of rest) (AreEach n) → IfSome (all_of (o ∷ rest)) (AreEach (suc n))
one_more n None rest h each = tt
one_more n (Some c) rest h each = mapped (AreEach n) (AreEach (suc n)) (λ cs. c ∷ cs) (all_of rest) (λ cs is. (ap suc is.0, (h, is.1))) each

all_range : (codes : List ℕ) → IfSome (all_of (map character_of codes)) (AreEach (length codes))
all_range [] = (refl, tt)
all_range (code ∷ rest) = one_more (length rest) (character_of code) (map character_of rest) (character_range code) (all_range rest)

-- ---- without the spaces at the end

length-before : (c : ℕ) (text : List ℕ) → length (before c text) ≤ suc (length text)
length-before c [] = by (c == 32)
  where
    by : (t : Bool) → length (if t then [] else c ∷ []) ≤ 1
    by true = omega arith
    by false = omega arith
length-before c (next ∷ rest) = omega arith

pub length-trimmed : (text : List ℕ) → length (without_end_spaces text) ≤ length text
unfolding without_end_spaces
length-trimmed [] = omega arith
length-trimmed (c ∷ cs) = let more = length-trimmed cs in let here = length-before c (without_end_spaces cs) in omega arith

before_each : (c : ℕ) (text : List ℕ) → IsOneCharacter c → AreCharacters text → AreCharacters (before c text)
before_each c [] here each = by (c == 32)
  where
    by : (t : Bool) → AreCharacters (if t then [] else c ∷ [])
    by true = tt
    by false = (here, tt)
before_each c (next ∷ rest) here each = (here, each)

trimmed_each : (text : List ℕ) → AreCharacters text → AreCharacters (without_end_spaces text)
unfolding without_end_spaces
trimmed_each [] each = tt
trimmed_each (c ∷ cs) each = before_each c (without_end_spaces cs) each.0 (trimmed_each cs each.1)

trimmed_before : (c : ℕ) (text : List ℕ) → without_end_spaces text ≡ text → without_end_spaces (before c text) ≡ before c text
unfolding without_end_spaces
trimmed_before c [] same = by (c == 32) refl
  where
    by : (t : Bool) → (c == 32) ≡ t → without_end_spaces (if t then [] else c ∷ []) ≡ (if t then [] else c ∷ [])
    by true e = refl
    by false e = ap (λ (t : Bool). if t then [] else c ∷ []) e
trimmed_before c (next ∷ rest) same = ap (before c) same

pub trimmed_twice : (text : List ℕ) → without_end_spaces (without_end_spaces text) ≡ without_end_spaces text
unfolding without_end_spaces
trimmed_twice [] = refl
trimmed_twice (c ∷ cs) = trimmed_before c (without_end_spaces cs) (trimmed_twice cs)

-- ---- the callsign

some_text_is : (text : List ℕ) → length text ≤ 8 → AreCharacters text → without_end_spaces text ≡ text → IfSome (some_text text) IsCallsign
some_text_is [] few each same = tt
some_text_is (c ∷ cs) few each same = record { some = omega arith; most = few; characters = each; trimmed = same }

pub callsign_range : (code : ℕ) → IfSome (callsign_in_code code) IsCallsign
unfolding callsign_in_code characters_of
callsign_range code =
    and_then (AreEach 8) IsCallsign (λ text. some_text (without_end_spaces text)) (all_of (map character_of (character_codes (code_bits 48 code))))
    (λ text each. some_text_is (without_end_spaces text) (let n = each.0 in omega (arith, length-trimmed text)) (trimmed_each text each.1) (trimmed_twice text))
    (all_range (character_codes (code_bits 48 code)))
