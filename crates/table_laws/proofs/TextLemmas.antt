-- Texts are read back from their columns.
use Rattle.std.proofs.Common.{◌≡◌, ◌≢◌, ℕ, zero, suc, ◌-◌, ◌^◌, ◌<◌, ◌≤◌, true, false, if◌then◌else◌, List, [], ◌∷◌, ◌++◌, length, replicate, codes, Option, Some, None, IfSome, ℤ, pos, negsuc, unsigned_abs, refl, ap, ◌∙◌, arith, decimal, ne_eqb, option_map}
use Rattle.std.specs.Fmt.{signed_decimal}
use Rattle.std.specs.List.{AllByRecursion}
use Rattle.std.proofs.lemmas.Bool.Decides.{nat_tests}
use Rattle.std.proofs.lemmas.Fmt.{decimal_nonempty}
use Rattle.modes_fields.specs.Characters.{before, without_end_spaces}
use Rattle.station_report.specs.Text.{right, left, or_dash, callsign_text}
use Rattle.table_laws.specs.Ranges.{is_character, IsCallsign}
use Rattle.table_laws.specs.Reading.{after_spaces, before_slash, after_slash, is_dash, read_field}
use Rattle.table_laws.proofs.NumberLemmas.{IsDecimal, decimal_digits}

-- ---- spaces before a text

-- the first byte of a text, which isn't empty
abbrev pub StartsAs : (ℕ → Type 0) → List ℕ → Type 0
StartsAs P [] = ⊥
StartsAs P (c ∷ cs) = P c

abbrev pub IsNoSpace : ℕ → Type 0
IsNoSpace c = c ≢ 32

plain_stays : (text : List ℕ) → StartsAs IsNoSpace text → after_spaces text ≡ text
plain_stays [] h = absurd h
plain_stays (c ∷ cs) h = ap (λ t. if t then after_spaces cs else c ∷ cs) (ne_eqb c 32 h)

spaces_pass : (n : ℕ) (text : List ℕ) → after_spaces (replicate n 32 ++ text) ≡ after_spaces text
spaces_pass zero text = refl
spaces_pass (suc n) text = spaces_pass n text

pub after_spaces-right : (width : ℕ) (text : List ℕ) → StartsAs IsNoSpace text → after_spaces (right width text) ≡ text
after_spaces-right width text h = spaces_pass (width - length text) text ∙ plain_stays text h

-- ---- fields that may be absent

-- how the text of a field is read: it begins with no space, is no dash, and gives what is shown
pub record IsReadAs {W : Type 0} (text : List ℕ) (read : List ℕ → W) (value : W) : Type 0 where
  pub plain : StartsAs IsNoSpace text
  pub no_dash : is_dash text ≡ false
  pub gives : read text ≡ value

module _ {V W : Type 0} (P : V → Type 0) (text : V → List ℕ) (read : List ℕ → W) (shown : V → W) where
  pub read_text : (v : V) → IsReadAs (text v) read (shown v) → read_field read (text v) ≡ Some (shown v)
  read_text v h = ap (λ t. if t then None else Some (read (text v))) h.no_dash ∙ ap Some h.gives

  pub read_right : (width : ℕ) → ((v : V) → P v → IsReadAs (text v) read (shown v)) → (o : Option V) → IfSome o P → read_field read (after_spaces (right width (or_dash text o))) ≡ option_map shown o
  read_right width each None h = ap (read_field read) (after_spaces-right width (codes "-") (λ e. omega (arith, e)))
  read_right width each (Some v) h = ap (read_field read) (after_spaces-right width (text v) (each v h).plain) ∙ read_text v (each v h)

pub mapped_itself : {V : Type 0} (o : Option V) → option_map (λ v. v) o ≡ o
mapped_itself None = refl
mapped_itself (Some v) = refl

pub long_is_no_dash : (text : List ℕ) → 2 ≤ length text → is_dash text ≡ false
long_is_no_dash [] long = absurd (omega arith)
long_is_no_dash (c ∷ []) long = absurd (omega arith)
long_is_no_dash (c ∷ next ∷ rest) long = refl

pub other_is_no_dash : (text : List ℕ) → StartsAs (λ c. c ≢ 45) text → is_dash text ≡ false
other_is_no_dash [] h = absurd h
other_is_no_dash (c ∷ []) h = ne_eqb c 45 h
other_is_no_dash (c ∷ next ∷ rest) h = refl

pub starts_from_each : (P : ℕ → Type 0) (text : List ℕ) → 0 < length text → AllByRecursion P text → StartsAs P text
starts_from_each P [] some h = absurd (omega arith)
starts_from_each P (c ∷ cs) some h = h.0

pub starts_weaker : (P Q : ℕ → Type 0) → ((c : ℕ) → P c → Q c) → (text : List ℕ) → StartsAs P text → StartsAs Q text
starts_weaker P Q step [] h = h
starts_weaker P Q step (c ∷ cs) h = step c h

pub starts_before : (P : ℕ → Type 0) (text rest : List ℕ) → StartsAs P text → StartsAs P (text ++ rest)
starts_before P [] rest h = absurd h
starts_before P (c ∷ cs) rest h = h

pub each_weaker : (P Q : ℕ → Type 0) → ((c : ℕ) → P c → Q c) → (text : List ℕ) → AllByRecursion P text → AllByRecursion Q text
each_weaker P Q step [] h = tt
each_weaker P Q step (c ∷ cs) h = (step c h.0, each_weaker P Q step cs h.1)

-- ---- numbers in texts

pub decimal_starts : (n : ℕ) → n < 2 ^ 64 → StartsAs IsDecimal (decimal n)
decimal_starts n small = starts_from_each IsDecimal (decimal n) (decimal_nonempty n small) (decimal_digits n small)

-- a digit or a minus sign
abbrev pub IsNumeric : ℕ → Type 0
IsNumeric c = (45 ≤ c) × (c ≤ 57) × (c ≢ 47) × (c ≢ 46)

numeric_digit : (c : ℕ) → IsDecimal c → IsNumeric c
numeric_digit c h = let low = h.0 in let high = h.1 in (omega arith, omega arith, λ e. omega (arith, e), λ e. omega (arith, e))

pub decimal_numeric : (n : ℕ) → n < 2 ^ 64 → AllByRecursion IsNumeric (decimal n)
decimal_numeric n small = each_weaker IsDecimal IsNumeric numeric_digit (decimal n) (decimal_digits n small)

pub signed_numeric : (z : ℤ) → unsigned_abs z < 2 ^ 63 → AllByRecursion IsNumeric (signed_decimal z)
signed_numeric (pos n) small = decimal_numeric n (omega arith)
signed_numeric (negsuc n) small = ((omega arith, omega arith, λ e. omega (arith, e), λ e. omega (arith, e)), decimal_numeric (suc n) (omega arith))

pub signed_nonempty : (z : ℤ) → unsigned_abs z < 2 ^ 63 → 0 < length (signed_decimal z)
signed_nonempty (pos n) small = decimal_nonempty n (omega arith)
signed_nonempty (negsuc n) small = omega arith

pub signed_starts : (z : ℤ) → unsigned_abs z < 2 ^ 63 → StartsAs IsNumeric (signed_decimal z)
signed_starts z small = starts_from_each IsNumeric (signed_decimal z) (signed_nonempty z small) (signed_numeric z small)

pub signed_is_no_dash : (z : ℤ) → unsigned_abs z < 2 ^ 63 → is_dash (signed_decimal z) ≡ false
signed_is_no_dash (pos n) small = other_is_no_dash (decimal n) (starts_weaker IsDecimal (λ c. c ≢ 45) (λ c h e. let low = h.0 in omega (arith, e)) (decimal n) (decimal_starts n (omega arith)))
signed_is_no_dash (negsuc n) small = long_is_no_dash (45 ∷ decimal (suc n)) (let some = decimal_nonempty (suc n) (omega arith) in omega arith)

-- ---- slashes

module _ (b : List ℕ) where
  pub before_slash-is : (a : List ℕ) → AllByRecursion (λ c. c ≢ 47) a → before_slash (a ++ 47 ∷ b) ≡ a
  before_slash-is [] h = refl
  before_slash-is (c ∷ cs) h = ap (λ t. if t then [] else c ∷ before_slash (cs ++ 47 ∷ b)) (ne_eqb c 47 h.0) ∙ ap (λ l. c ∷ l) (before_slash-is cs h.1)

  pub after_slash-is : (a : List ℕ) → AllByRecursion (λ c. c ≢ 47) a → after_slash (a ++ 47 ∷ b) ≡ b
  after_slash-is [] h = refl
  after_slash-is (c ∷ cs) h = ap (λ t. if t then cs ++ 47 ∷ b else after_slash (cs ++ 47 ∷ b)) (ne_eqb c 47 h.0) ∙ after_slash-is cs h.1

-- ---- callsigns

trimmed_spaces : (n : ℕ) → without_end_spaces (replicate n 32) ≡ []
unfolding without_end_spaces
trimmed_spaces zero = refl
trimmed_spaces (suc n) = ap (before 32) (trimmed_spaces n)

trimmed_padded : (text : List ℕ) (n : ℕ) → without_end_spaces (text ++ replicate n 32) ≡ without_end_spaces text
unfolding without_end_spaces
trimmed_padded [] n = trimmed_spaces n
trimmed_padded (c ∷ cs) n = ap (before c) (trimmed_padded cs n)

no_dash_character : (c : ℕ) → is_character c ≡ true → c ≢ 45
no_dash_character c is e = grind (arith, nat_tests)

pub read_callsign : (o : Option (List ℕ)) → IfSome o IsCallsign → read_field (λ text. text) (without_end_spaces (left 8 (or_dash callsign_text o))) ≡ o
unfolding without_end_spaces
read_callsign None h = refl
read_callsign (Some text) h =
    let characters : StartsAs (λ c. c ≢ 45) text =
    starts_weaker (λ c. is_character c ≡ true) (λ c. c ≢ 45) no_dash_character text (starts_from_each (λ c. is_character c ≡ true) text (let some = h.some in omega arith) h.characters) in
    ap (read_field (λ text. text)) (trimmed_padded text (8 - length text) ∙ h.trimmed)
    ∙ ap (λ t. if t then None else Some text) (other_is_no_dash text characters)
