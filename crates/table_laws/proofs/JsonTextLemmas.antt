-- How a value of JSON whose members are numbers and plain strings is printed, and its depth.
use Rattle.std.proofs.Common.{◌≡◌, ℕ, Bool, true, false, cond, List, [], ◌∷◌, ◌++◌, refl, ap, sym, ◌∙◌, arith, append_assoc, flat_map}
use Rattle.std.specs.List.{AllByRecursion}
use Rattle.json.specs.Token.{Token}
use Rattle.json.specs.Json.{Json, null, boolean, number, string, array, object}
use Rattle.json.specs.Print.{escape, print_from, IsNumber}
use Rattle.json.specs.Tree.{json_tokens, members_tokens, depth, members_depth, HasNumbers, MembersHaveNumbers}
use Rattle.table_laws.specs.JsonValue.{Pairs, members_of}

-- ---- plain members

abbrev pub IsPlainValue : Json → Type 0
IsPlainValue (number s) = IsNumber s
IsPlainValue (string s) = escape s ≡ s
IsPlainValue _ = ⊥

abbrev pub IsPlainPair : List ℕ × Json → Type 0
IsPlainPair (key, value) = (escape key ≡ key) × IsPlainValue value

abbrev pub ArePlain : Pairs → Type 0
ArePlain = AllByRecursion IsPlainPair

abbrev value_text : Json → List ℕ
value_text (number s) = s
value_text (string s) = 34 ∷ (s ++ 34 ∷ [])
value_text _ = []

-- a member behind a comma
abbrev pub pair_text : List ℕ × Json → List ℕ
pair_text (key, value) = 44 ∷ 34 ∷ (key ++ 34 ∷ 58 ∷ value_text value)

-- a member, and what follows it
first_text : (key value rest : List ℕ) → (34 ∷ (key ++ 34 ∷ []) ++ 58 ∷ []) ++ (value ++ rest) ≡ 34 ∷ (key ++ 34 ∷ 58 ∷ value) ++ rest
first_text key value rest = ap (λ l. 34 ∷ l) (ap (λ l. l ++ (value ++ rest)) (append_assoc key (34 ∷ []) (58 ∷ [])) ∙ append_assoc key (34 ∷ 58 ∷ []) (value ++ rest) ∙ sym (append_assoc key (34 ∷ 58 ∷ value) rest))

-- a key and a plain value after a comma or none, and what follows
pub print_pair : (c : Bool) (key : List ℕ) (value : Json) (ts : List Token) → IsPlainPair (key, value)
    → print_from c (Token.key key ∷ (json_tokens value ++ ts)) ≡ cond c (44 ∷ []) [] ++ (34 ∷ (key ++ 34 ∷ 58 ∷ value_text value) ++ print_from true ts)
unfolding print_from
print_pair c key null ts h = absurd h.1
print_pair c key (boolean b) ts h = absurd h.1
print_pair true key (number s) ts h = ap (λ k. 44 ∷ ((34 ∷ (k ++ 34 ∷ []) ++ 58 ∷ []) ++ (s ++ print_from true ts))) h.0 ∙ ap (λ l. 44 ∷ l) (first_text key s (print_from true ts))
print_pair false key (number s) ts h = ap (λ k. (34 ∷ (k ++ 34 ∷ []) ++ 58 ∷ []) ++ (s ++ print_from true ts)) h.0 ∙ first_text key s (print_from true ts)
print_pair true key (string s) ts h =
    ap (λ k. 44 ∷ ((34 ∷ (k ++ 34 ∷ []) ++ 58 ∷ []) ++ (34 ∷ (escape s ++ 34 ∷ []) ++ print_from true ts))) h.0
    ∙ ap (λ t. 44 ∷ ((34 ∷ (key ++ 34 ∷ []) ++ 58 ∷ []) ++ (34 ∷ (t ++ 34 ∷ []) ++ print_from true ts))) h.1
    ∙ ap (λ l. 44 ∷ l) (first_text key (34 ∷ (s ++ 34 ∷ [])) (print_from true ts))
print_pair false key (string s) ts h =
    ap (λ k. (34 ∷ (k ++ 34 ∷ []) ++ 58 ∷ []) ++ (34 ∷ (escape s ++ 34 ∷ []) ++ print_from true ts)) h.0
    ∙ ap (λ t. (34 ∷ (key ++ 34 ∷ []) ++ 58 ∷ []) ++ (34 ∷ (t ++ 34 ∷ []) ++ print_from true ts)) h.1
    ∙ first_text key (34 ∷ (s ++ 34 ∷ [])) (print_from true ts)
print_pair c key (array js) ts h = absurd h.1
print_pair c key (object ms) ts h = absurd h.1

-- members after the first, the brace that closes their object, and what follows
pub print_pairs : (pairs : Pairs) (ts : List Token) → ArePlain pairs
    → print_from true (members_tokens (members_of pairs) ++ ts) ≡ flat_map pair_text pairs ++ 125 ∷ print_from true ts
unfolding print_from
print_pairs [] ts h = refl
print_pairs ((key, value) ∷ pairs) ts h =
    ap (λ l. print_from true (Token.key key ∷ l)) (append_assoc (json_tokens value) (members_tokens (members_of pairs)) ts)
    ∙ print_pair true key value (members_tokens (members_of pairs) ++ ts) h.0
    ∙ ap (λ l. pair_text (key, value) ++ l) (print_pairs pairs ts h.1)
    ∙ sym (append_assoc (pair_text (key, value)) (flat_map pair_text pairs) (125 ∷ print_from true ts))

-- ---- depth and numbers

plain_depth : (value : Json) → IsPlainValue value → depth value ≡ 0
plain_depth (number s) h = refl
plain_depth (string s) h = refl
plain_depth _ h = absurd h

pub pairs_depth : (pairs : Pairs) → ArePlain pairs → members_depth (members_of pairs) ≡ 0
pairs_depth [] h = refl
pairs_depth ((key, value) ∷ pairs) h = omega (arith, plain_depth value h.0.1, pairs_depth pairs h.1)

plain_numbers : (value : Json) → IsPlainValue value → HasNumbers value
plain_numbers (number s) h = h
plain_numbers (string s) h = tt
plain_numbers _ h = absurd h

pub pairs_numbers : (pairs : Pairs) → ArePlain pairs → MembersHaveNumbers (members_of pairs)
pairs_numbers [] h = tt
pairs_numbers ((key, value) ∷ pairs) h = (plain_numbers value h.0.1, pairs_numbers pairs h.1)

pub plain_append : (xs ys : Pairs) → ArePlain xs → ArePlain ys → ArePlain (xs ++ ys)
plain_append [] ys h k = k
plain_append (x ∷ xs) ys h k = (h.0, plain_append xs ys h.1 k)
