-- The answer to a line is the one that the rules give.
use Rattle.std.proofs.Common.{◌≡◌, ◌≢◌, ℕ, zero, suc, ◌+◌, ◌-◌, ◌*◌, ◌/◌, ◌<◌, ◌≤◌, ◌==◌, ◌||◌, ◌&&◌, nat_lt, ◌⊎◌, inl, inr, Bool, true, false, cond, List, [], ◌∷◌, ◌++◌, Option, Some, None, Result, Ok, Err, length, length-append, take, drop, get_or, refl, ap, sym, ◌∙◌, subst, arith, eqb-true, zero-add, All}
use Rattle.std.proofs.lemmas.List.{length-drop, take_all, take_more}
use Rattle.std.proofs.Math.Seq.{get_or-append_seam}
use Rattle.modes_frame.proofs.Common.{Line, LineFault, df_of, is_start, counter_len, fits_length, said_by, from_digits, digits_of, body_of, line_reading, trimmed_line, IsStart, IsEnclosed, HasLength, IsDigit, Writes, IsFirstBad, Carries, Says, Reads}
use Rattle.modes_frame.proofs.TrimLemmas.{trimmed_line-is}
use Rattle.std.proofs.lemmas.List.Elements.{All-nil, All-cons}
use Rattle.hex.specs.Hex.{decode_pairs, digit_or_error, hex_digit_value, ◌>>=◌}
use Rattle.hex.specs.declared.error.FromHexError.{FromHexError}
use Rattle.hex.specs.declared.error.FromHexError.TheVariants.{InvalidHexCharacter, OddLength}

-- ---- digits

-- what decoding digits answers: the bytes that they write, or the first byte that is no digit
abbrev IsDecoded : ℕ → List ℕ → Result (List ℕ) FromHexError → Type 0
IsDecoded i digits (Ok bytes) = Writes digits bytes × All IsDigit digits
IsDecoded i digits (Err (InvalidHexCharacter c index)) = (place : ℕ) × (index ≡ i + place) × IsFirstBad digits (place + 1)
IsDecoded i digits _ = ⊥

is_digit : (c v : ℕ) → hex_digit_value c ≡ Some v → IsDigit c
is_digit c v e = rw e refl

no_digit : (c : ℕ) → hex_digit_value c ≡ None → ¬ IsDigit c
no_digit c e h = let f = rw e at h in cc

bad_first : (bad : ℕ) (rest : List ℕ) → ¬ IsDigit bad → IsFirstBad (bad ∷ rest) 1
bad_first bad rest h = record { before = []; bad = bad; after = rest; parts = refl; all_digits = All-nil IsDigit; no_digit = h; is_place = refl }

bad_later : (d : ℕ) (digits : List ℕ) (place : ℕ) → IsDigit d → IsFirstBad digits place → IsFirstBad (d ∷ digits) (place + 1)
bad_later d digits place h b = record {
  before = d ∷ b.before;
  bad = b.bad;
  after = b.after;
  parts = ap (λ l. d ∷ l) b.parts;
  all_digits = All-cons IsDigit d b.before h b.all_digits;
  no_digit = b.no_digit;
  is_place = ap (λ n. n + 1) b.is_place ∙ (omega arith);
}

nth_later : (d e : ℕ) (digits : List ℕ) (place : ℕ) → IsDigit d → IsDigit e → IsFirstBad digits (place + 1) → IsFirstBad (d ∷ e ∷ digits) (place + 2 + 1)
nth_later d e digits place hd he b =
    let n : place + 1 + 1 + 1 ≡ place + 2 + 1 = omega arith in
    subst (λ (k : ℕ). IsFirstBad (d ∷ e ∷ digits) k) n (bad_later d (e ∷ digits) (place + 1 + 1) hd (bad_later e digits (place + 1) he b))

pair-decoded : (i high low : ℕ) (v w : Option ℕ) (digits : List ℕ) (rest : Result (List ℕ) FromHexError)
    → hex_digit_value high ≡ v → hex_digit_value low ≡ w → IsDecoded (i + 2) digits rest
    → IsDecoded i (high ∷ low ∷ digits)
    ((digit_or_error high i v >>= λ h. digit_or_error low (i + 1) w >>= λ l. Ok (h * 16 + l)) >>= λ byte. rest >>= λ bytes. Ok (byte ∷ bytes))
pair-decoded i high low None w digits rest e f t = (0, (omega arith), bad_first high (low ∷ digits) (no_digit high e))
pair-decoded i high low (Some h) None digits rest e f t =
    (1, refl, bad_later high (low ∷ digits) 1 (is_digit high h e) (bad_first low digits (no_digit low f)))
pair-decoded i high low (Some h) (Some l) digits (Ok bytes) e f t =
    (((h, l, e, f, (omega arith)), t.0), All-cons IsDigit high (low ∷ digits) (is_digit high h e) (All-cons IsDigit low digits (is_digit low l f) t.1))
pair-decoded i high low (Some h) (Some l) digits (Err (InvalidHexCharacter c k)) e f t =
    (t.0 + 2, t.1 ∙ (omega arith), nth_later high low digits t.0 (is_digit high h e) (is_digit low l f) t.2)
pair-decoded i high low (Some h) (Some l) digits (Err OddLength) e f t = t
pair-decoded i high low (Some h) (Some l) digits _ e f t = t

pub decode-decoded : (i k : ℕ) (digits : List ℕ) → length digits ≡ 2 * k → IsDecoded i digits (decode_pairs i digits)
unfolding decode_pairs
decode-decoded i k [] e = (refl, All-nil IsDigit)
decode-decoded i k (d ∷ []) e = absurd (omega arith)
decode-decoded i k (high ∷ low ∷ digits) e =
    pair-decoded i high low (hex_digit_value high) (hex_digit_value low) digits (decode_pairs (i + 2) digits) refl refl (decode-decoded (i + 2) (k - 1) digits (omega arith))

drop-nil : (n : ℕ) → drop {A = ℕ} n [] ≡ []
drop-nil zero = refl
drop-nil (suc n) = refl

drop-two : (k a b : ℕ) (rest : List ℕ) → drop (2 * suc k) (a ∷ b ∷ rest) ≡ drop (2 * k) rest
drop-two k a b rest = ap (λ n. drop n (a ∷ b ∷ rest)) (let e : 2 * suc k ≡ suc (suc (2 * k)) = omega arith in e)

-- the bytes of the digits after some pairs
Writes-drop : (k : ℕ) (digits bytes : List ℕ) → Writes digits bytes → Writes (drop (2 * k) digits) (drop k bytes)
Writes-drop zero digits bytes w = w
Writes-drop (suc k) [] bytes w = subst (λ ds. Writes ds (drop (suc k) bytes)) (sym (drop-nil (2 * suc k))) (ap (λ bs. drop (suc k) bs) w)
Writes-drop (suc k) (high ∷ []) bytes w = absurd w
Writes-drop (suc k) (high ∷ low ∷ digits) [] w = absurd w
Writes-drop (suc k) (high ∷ low ∷ digits) (byte ∷ bytes) w = subst (λ ds. Writes ds (drop k bytes)) (sym (drop-two k high low digits)) (Writes-drop k digits bytes w.1)

Writes-length : (digits bytes : List ℕ) → Writes digits bytes → length digits ≡ 2 * length bytes
Writes-length [] bytes w = sym (ap (λ bs. 2 * length bs) w)
Writes-length (high ∷ []) bytes w = absurd w
Writes-length (high ∷ low ∷ digits) [] w = absurd w
Writes-length (high ∷ low ∷ digits) (byte ∷ bytes) w = let e = Writes-length digits bytes w.1 in omega arith

-- ---- from the start byte on

nat-same : (m n : ℕ) → (m == n) ≡ true → m ≡ n
nat-same m n e = eqb-true m n e

nat-other : (m n : ℕ) → (m == n) ≡ false → m ≢ n
nat-other m n e = grind arith

counter-is : (start counter : ℕ) → IsStart start counter → counter_len start ≡ counter
counter-is start counter (inl h) = ap counter_len h.0 ∙ sym h.1
counter-is start counter (inr h) = ap counter_len h.0 ∙ sym h.1

counter-even : (start counter : ℕ) → IsStart start counter → 2 * (counter_len start / 2) ≡ counter
counter-even start counter (inl h) = ap (λ n. 2 * (counter_len n / 2)) h.0 ∙ sym h.1
counter-even start counter (inr h) = ap (λ n. 2 * (counter_len n / 2)) h.0 ∙ sym h.1

says-if : (rest : List ℕ) (b : Bool) (r s : Result Line LineFault) → (b ≡ true → Says rest r) → (b ≡ false → Says rest s) → Says rest (cond b r s)
says-if rest true r s p q = p refl
says-if rest false r s p q = q refl

has-length : (n m : ℕ) → (n == m + 4 || n == m + 14 || n == m + 28) ≡ true → (n ≡ m + 4) ⊎ (n ≡ m + 14) ⊎ (n ≡ m + 28)
has-length n m e = grind arith

no-length : (n m : ℕ) → (n == m + 4 || n == m + 14 || n == m + 28) ≡ false → ¬ ((n ≡ m + 4) ⊎ (n ≡ m + 14) ⊎ (n ≡ m + 28))
no-length n m e h = grind arith

half-length : (n m k : ℕ) → ((n ≡ m + 4) ⊎ (n ≡ m + 14) ⊎ (n ≡ m + 28)) → 2 * (m / 2) ≡ m → n ≡ 2 * (n / 2)
half-length n m k h e = grind arith

seven-or-fourteen : (n m k : ℕ) → ((n ≡ m + 4) ⊎ (n ≡ m + 14) ⊎ (n ≡ m + 28)) → n - m ≡ 2 * k → k ≢ 2 → (k ≡ 7) ⊎ (k ≡ 14)
seven-or-fourteen n m k h e other = grind arith

module _ (rest : List ℕ) (start counter : ℕ) (digits : List ℕ) (starts : IsStart start counter) (enclosed : IsEnclosed rest counter digits) where
  says-bytes : (bytes : List ℕ) → Writes (drop counter digits) bytes → HasLength counter digits → All IsDigit digits → Says rest (said_by bytes)
  says-bytes bytes w has all =
      let carries : Carries rest bytes = record { counter = counter; digits = digits; enclosed = enclosed; all_digits = all; written = w } in
      let count : length digits - counter ≡ 2 * length bytes = sym (length-drop counter digits) ∙ Writes-length (drop counter digits) bytes w in
      says-if rest (length bytes == 2) _ _ (λ e. (bytes, carries, nat-same (length bytes) 2 e))
      (λ e. says-if rest (length bytes == (cond (nat_lt (df_of bytes) 16) 7 14)) _ _
      (λ f. (carries, nat-same (length bytes) (cond (nat_lt (df_of bytes) 16) 7 14) f))
      (λ f. (bytes, carries, seven-or-fourteen (length digits) counter (length bytes) has count (nat-other (length bytes) 2 e), nat-other (length bytes) (cond (nat_lt (df_of bytes) 16) 7 14) f, refl)))

  says-decoded : (r : Result (List ℕ) FromHexError) → IsDecoded 0 digits r → HasLength counter digits → Says rest (from_digits start r)
  says-decoded (Ok bytes) t has =
      says-bytes (drop (counter_len start / 2) bytes)
      (subst (λ (n : ℕ). Writes (drop n digits) (drop (counter_len start / 2) bytes)) (counter-even start counter starts) (Writes-drop (counter_len start / 2) digits bytes t.0))
      has t.1
  says-decoded (Err (InvalidHexCharacter c index)) t has =
      (counter, digits, enclosed, has, subst (λ (n : ℕ). IsFirstBad digits (n + 1)) (sym (t.1 ∙ zero-add t.0)) t.2)
  says-decoded (Err OddLength) t has = absurd t
  says-decoded _ t has = absurd t

  says-digits : Says rest (digits_of start digits)
  says-digits =
      let same = counter-is start counter starts in
      let even : 2 * (counter / 2) ≡ counter = ap (λ n. 2 * (n / 2)) (sym same) ∙ counter-even start counter starts in
      says-if rest (fits_length start (length digits)) _ _
      (λ e. let has : HasLength counter digits = has-length (length digits) counter (subst (λ (m : ℕ). (length digits == m + 4 || length digits == m + 14 || length digits == m + 28) ≡ true) same e) in
      says-decoded (decode_pairs 0 digits) (decode-decoded 0 (length digits / 2) digits (half-length (length digits) counter 0 has even)) has)
      (λ e. (counter, digits, enclosed, no-length (length digits) counter (subst (λ (m : ℕ). (length digits == m + 4 || length digits == m + 14 || length digits == m + 28) ≡ false) same e), refl))

-- a list that ends with this
ends-with : (cs : List ℕ) (d : ℕ) → 0 < length cs → get_or cs (length cs - 1) 0 ≡ d → cs ≡ take (length cs - 1) cs ++ d ∷ []
ends-with cs d some e =
    sym (take_all (length cs - 1 + 1) cs (omega arith)) ∙ take_more cs (length cs - 1) 0 (omega arith) ∙ ap (λ n. take (length cs - 1) cs ++ n ∷ []) e

pub ends-at : (digits : List ℕ) (d : ℕ) → get_or (digits ++ d ∷ []) (length (digits ++ d ∷ []) - 1) 0 ≡ d
ends-at digits d =
    let n : length (digits ++ d ∷ []) - 1 ≡ length digits = omega (arith, length-append digits (d ∷ [])) in
    ap (λ k. get_or (digits ++ d ∷ []) k 0) n ∙ get_or-append_seam digits d [] 0

abbrev pub is_ended : List ℕ → Bool
is_ended cs = nat_lt 0 (length cs) && get_or cs (length cs - 1) 0 == 59

ended-by : (cs : List ℕ) → is_ended cs ≡ true → cs ≡ take (length cs - 1) cs ++ 59 ∷ []
ended-by cs e =
    let some : 0 < length cs = grind arith in
    let last : get_or cs (length cs - 1) 0 ≡ 59 = grind arith in
    ends-with cs 59 some last

pub ended-test : (digits : List ℕ) → is_ended (digits ++ 59 ∷ []) ≡ true
ended-test digits =
    let last = ends-at digits 59 in
    let more = length-append digits (59 ∷ []) in
    grind arith

says-body : (start counter : ℕ) (cs : List ℕ) → IsStart start counter → Says (start ∷ cs) (body_of start cs)
says-body start counter cs starts =
    let digits = take (length cs - 1) cs in
    says-if (start ∷ cs) (is_ended cs) _ _
    (λ e. says-digits (start ∷ cs) start counter digits starts (record { start = start; starts = starts; parts = ap (λ l. start ∷ l) (ended-by cs e) }))
    (λ e. (start, cs, counter, refl, starts, λ digits is. let yes : is_ended cs ≡ true = ap is_ended is ∙ ended-test digits in cc))

start-known : (c : ℕ) → is_start c ≡ true → (counter : ℕ) × IsStart c counter
start-known c e = let both : (c ≡ 42) ⊎ (c ≡ 64) = grind arith in elim both [ inl h ↦ (0, inl (h, refl)) | inr h ↦ (12, inr (h, refl)) ]

start-other : (c counter : ℕ) → is_start c ≡ false → ¬ IsStart c counter
start-other c counter e (inl h) = grind arith
start-other c counter e (inr h) = grind arith

pub says : (rest : List ℕ) → Says rest (line_reading rest)
says [] = refl
says (c ∷ cs) = says-if (c ∷ cs) (is_start c) _ _
    (λ e. let known = start-known c e in says-body c known.0 cs known.1)
    (λ e. (c, cs, refl, λ counter. start-other c counter e))

-- the reading of a line that is not too long is the answer that the rules give
pub reads-short : (line : List ℕ) → length line ≤ 64 → Reads line (line_reading (trimmed_line line))
reads-short line short = inr (short, (trimmed_line line, trimmed_line-is line, says (trimmed_line line)))
