-- Long division goes together with exclusive or, and so byte by byte.
use Rattle.std.proofs.Common.{◌≡◌, ℕ, suc, ◌+◌, ◌-◌, ◌*◌, ◌/◌, ◌%◌, ◌^◌, ◌<◌, ◌≤◌, ◌==◌, Bool, true, false, List, [], ◌∷◌, ◌++◌, fold, length, replicate, refl, ap, sym, ◌∙◌, inl, inr, ◌⊎◌, arith, eqb-true, subst, append-nil, get_or}
use Rattle.std.specs.Int.Bits.{bit_xor, xor_assoc, xor_self, xor_zero_l, xor_zero_r}
use Rattle.std.proofs.lemmas.Nat.{xor_comm, xor_lt}
use Rattle.std.proofs.lemmas.Nat.Bits.{same_from_bits, bit_at_xor, bit_at_cat_low, bit_at_cat_high}
use Rattle.std.proofs.Math.Nat.{two-pow-succ, one-le-pow}
use Rattle.std.proofs.lemmas.Bool.{cases_lt}
use Rattle.std.proofs.lemmas.List.Sums.{fold-append}
use Rattle.std.proofs.lemmas.Grind.{flat_map-append}
use Rattle.modes_frame.proofs.AllByteLemmas.{all_of_width, all_of_width-at}
use Rattle.modes_frame.proofs.NumberLemmas.{number-after, length-byte_bits}
use Rattle.modes_frame.specs.Frames.{byte_bits, bits_of, brought_down, generator, reduced_rest, divide, remainder_of, parity_of}

-- ---- exclusive or of numbers in two parts

xor-parts : (k a b c d : ℕ) → b < 2 ^ k → d < 2 ^ k → bit_xor (a * 2 ^ k + b) (c * 2 ^ k + d) ≡ bit_xor a c * 2 ^ k + bit_xor b d
xor-parts k a b c d lb ld =
    same_from_bits _ _ (λ i. elim (cases_lt i k) [
      | inl low ↦ bit_at_xor (a * 2 ^ k + b) (c * 2 ^ k + d) i
          ∙ (λ j. (bit_at_cat_low a k b i low j + bit_at_cat_low c k d i low j) % 2)
          ∙ sym (bit_at_xor b d i) ∙ sym (bit_at_cat_low (bit_xor a c) k (bit_xor b d) i low)
      | inr high ↦ bit_at_xor (a * 2 ^ k + b) (c * 2 ^ k + d) i
          ∙ (λ j. (bit_at_cat_high a k b i lb high j + bit_at_cat_high c k d i ld high j) % 2)
          ∙ sym (bit_at_xor a c (i - k)) ∙ sym (bit_at_cat_high (bit_xor a c) k (bit_xor b d) i (xor_lt k b d lb ld) high)
    ])

-- ---- one step

-- bringing a bit down goes together with exclusive or
brought_down-xor : (u v : ℕ) (bit : Bool) → brought_down (bit_xor u v) bit ≡ bit_xor (brought_down u false) (brought_down v bit)
brought_down-xor u v true = (omega arith) ∙ sym (xor-parts 1 u 0 v 1 (omega arith) (omega arith)) ∙ (λ i. bit_xor ((let e : u * 2 + 0 ≡ 2 * u + 0 = omega arith in e) i) ((let e : v * 2 + 1 ≡ 2 * v + 1 = omega arith in e) i))
brought_down-xor u v false = (omega arith) ∙ sym (xor-parts 1 u 0 v 0 (omega arith) (omega arith)) ∙ (λ i. bit_xor ((let e : u * 2 + 0 ≡ 2 * u + 0 = omega arith in e) i) ((let e : v * 2 + 0 ≡ 2 * v + 0 = omega arith in e) i))

carried : (n : ℕ) → n < 2 ^ 24 → reduced_rest (1 * 2 ^ 24 + n) ≡ bit_xor n generator
carried n h = grind arith

stays : (n : ℕ) → n < 2 ^ 24 → reduced_rest (0 * 2 ^ 24 + n) ≡ n
stays n h = grind arith

pub reduced_rest-lt : (n : ℕ) → n < 2 ^ 25 → reduced_rest n < 2 ^ 24
reduced_rest-lt n h = elim (cases_lt n 16777216) [
  | inl low ↦ let e : reduced_rest n ≡ n = grind arith in subst (λ (m : ℕ). m < 2 ^ 24) (sym e) low
  | inr high ↦
      let e : reduced_rest n ≡ bit_xor (n - 16777216) generator = grind arith in
      subst (λ (m : ℕ). m < 2 ^ 24) (sym e) (xor_lt 24 (n - 16777216) generator (omega arith) (omega arith))
]

-- the four cases of two rests with x^24 in them or not
module _ (a b : ℕ) (la : a < 2 ^ 24) (lb : b < 2 ^ 24) where
  lab : bit_xor a b < 2 ^ 24
  lab = xor_lt 24 a b la lb

  xor-neither : reduced_rest (bit_xor (0 * 2 ^ 24 + a) (0 * 2 ^ 24 + b)) ≡ bit_xor (reduced_rest (0 * 2 ^ 24 + a)) (reduced_rest (0 * 2 ^ 24 + b))
  xor-neither = ap reduced_rest (xor-parts 24 0 a 0 b la lb) ∙ stays (bit_xor a b) lab ∙ (λ i. bit_xor (sym (stays a la) i) (sym (stays b lb) i))

  xor-first : reduced_rest (bit_xor (1 * 2 ^ 24 + a) (0 * 2 ^ 24 + b)) ≡ bit_xor (reduced_rest (1 * 2 ^ 24 + a)) (reduced_rest (0 * 2 ^ 24 + b))
  xor-first = ap reduced_rest (xor-parts 24 1 a 0 b la lb) ∙ carried (bit_xor a b) lab
      ∙ xor_assoc a b generator ∙ ap (λ n. bit_xor a n) (xor_comm b generator) ∙ sym (xor_assoc a generator b)
      ∙ (λ i. bit_xor (sym (carried a la) i) (sym (stays b lb) i))

  xor-second : reduced_rest (bit_xor (0 * 2 ^ 24 + a) (1 * 2 ^ 24 + b)) ≡ bit_xor (reduced_rest (0 * 2 ^ 24 + a)) (reduced_rest (1 * 2 ^ 24 + b))
  xor-second = ap reduced_rest (xor-parts 24 0 a 1 b la lb) ∙ carried (bit_xor a b) lab ∙ xor_assoc a b generator
      ∙ (λ i. bit_xor (sym (stays a la) i) (sym (carried b lb) i))

  xor-both : reduced_rest (bit_xor (1 * 2 ^ 24 + a) (1 * 2 ^ 24 + b)) ≡ bit_xor (reduced_rest (1 * 2 ^ 24 + a)) (reduced_rest (1 * 2 ^ 24 + b))
  xor-both = ap reduced_rest (xor-parts 24 1 a 1 b la lb) ∙ stays (bit_xor a b) lab
      ∙ sym (xor_assoc a generator (bit_xor b generator)
      ∙ ap (λ n. bit_xor a n) (ap (λ n. bit_xor generator n) (xor_comm b generator) ∙ sym (xor_assoc generator generator b) ∙ ap (λ n. bit_xor n b) (xor_self generator) ∙ xor_zero_l b))
      ∙ (λ i. bit_xor (sym (carried a la) i) (sym (carried b lb) i))

half_of : (n : ℕ) → n < 2 ^ 25 → (n ≡ 0 * 2 ^ 24 + n % 2 ^ 24) ⊎ (n ≡ 1 * 2 ^ 24 + n % 2 ^ 24)
half_of n h = grind arith

reduced_rest-xor : (u v : ℕ) → u < 2 ^ 25 → v < 2 ^ 25 → reduced_rest (bit_xor u v) ≡ bit_xor (reduced_rest u) (reduced_rest v)
reduced_rest-xor u v lu lv =
    let a = u % 2 ^ 24 in
    let b = v % 2 ^ 24 in
    let la : a < 2 ^ 24 = omega arith in
    let lb : b < 2 ^ 24 = omega arith in
    let P : ℕ → ℕ → Type 0 = λ x y. reduced_rest (bit_xor x y) ≡ bit_xor (reduced_rest x) (reduced_rest y) in
    let at : (x y : ℕ) → u ≡ x → v ≡ y → P x y → P u v = λ x y e f p. subst (λ (n : ℕ). P n v) (sym e) (subst (λ (n : ℕ). P x n) (sym f) p) in
    elim (half_of u lu) [
      | inl x ↦ elim (half_of v lv) [ inl y ↦ at _ _ x y (xor-neither a b la lb) | inr y ↦ at _ _ x y (xor-second a b la lb) ]
      | inr x ↦ elim (half_of v lv) [ inl y ↦ at _ _ x y (xor-first a b la lb) | inr y ↦ at _ _ x y (xor-both a b la lb) ]
    ]

pub divide-lt : (rest : ℕ) (bit : Bool) → rest < 2 ^ 24 → divide rest bit < 2 ^ 24
unfolding divide
divide-lt rest true h = reduced_rest-lt (2 * rest + 1) (omega arith)
divide-lt rest false h = reduced_rest-lt (2 * rest + 0) (omega arith)

brought_down-lt : (rest : ℕ) (bit : Bool) → rest < 2 ^ 24 → brought_down rest bit < 2 ^ 25
brought_down-lt rest true h = omega arith
brought_down-lt rest false h = omega arith

divide-xor : (u v : ℕ) (bit : Bool) → u < 2 ^ 24 → v < 2 ^ 24 → divide (bit_xor u v) bit ≡ bit_xor (divide u false) (divide v bit)
unfolding divide
divide-xor u v bit lu lv = ap reduced_rest (brought_down-xor u v bit) ∙ reduced_rest-xor (brought_down u false) (brought_down v bit) (brought_down-lt u false lu) (brought_down-lt v bit lv)

-- ---- many steps

pub divided-lt : (bits : List Bool) (rest : ℕ) → rest < 2 ^ 24 → fold divide rest bits < 2 ^ 24
divided-lt [] rest h = h
divided-lt (bit ∷ bits) rest h = divided-lt bits (divide rest bit) (divide-lt rest bit h)

-- of two rests, the bits may be brought down after either
pub divided-xor : (bits : List Bool) (u v : ℕ) → u < 2 ^ 24 → v < 2 ^ 24
    → fold divide (bit_xor u v) bits ≡ bit_xor (fold divide u (replicate (length bits) false)) (fold divide v bits)
divided-xor [] u v lu lv = refl
divided-xor (bit ∷ bits) u v lu lv =
    ap (λ n. fold divide n bits) (divide-xor u v bit lu lv)
    ∙ divided-xor bits (divide u false) (divide v bit) (divide-lt u false lu) (divide-lt v bit lv)

-- a remainder is less than x^24
pub remainder-lt : (bytes : List ℕ) → remainder_of bytes < 2 ^ 24
remainder-lt bytes = divided-lt (bits_of bytes) 0 (omega arith)

-- ---- without a generator taken away

lt-of-product : (m p : ℕ) → 1 ≤ p → m * p ≤ 2 ^ 24 → m ≤ 2 ^ 24
lt-of-product m p one h = grind arith

twice : (v p : ℕ) → (2 * v + 1 + 1) * p ≡ (v + 1) * (p + p)
twice v p = omega arith

pow-twice : (v n : ℕ) → (2 * v + 1 + 1) * 2 ^ n ≡ (v + 1) * 2 ^ suc n
pow-twice v n = twice v (2 ^ n) ∙ ap (λ p. (v + 1) * p) (sym (two-pow-succ n))

less-room : (v p : ℕ) → (2 * v + 1 + 1) * p ≤ 2 ^ 24 → (2 * v + 0 + 1) * p ≤ 2 ^ 24
less-room v p h = omega arith

room-more : (v n : ℕ) (bit : Bool) → (v + 1) * 2 ^ suc n ≤ 2 ^ 24 → (brought_down v bit + 1) * 2 ^ n ≤ 2 ^ 24
room-more v n true h = subst (λ (m : ℕ). m ≤ 2 ^ 24) (sym (pow-twice v n)) h
room-more v n false h = less-room v (2 ^ n) (subst (λ (m : ℕ). m ≤ 2 ^ 24) (sym (pow-twice v n)) h)

-- up to 24 bits, the rest is the number that the bits write
pub undivided : (bits : List Bool) (v : ℕ) → (v + 1) * 2 ^ length bits ≤ 2 ^ 24 → fold divide v bits ≡ fold brought_down v bits
unfolding divide
undivided [] v h = refl
undivided (bit ∷ bits) v h =
    let room = room-more v (length bits) bit h in
    let few : brought_down v bit + 1 ≤ 2 ^ 24 = lt-of-product (brought_down v bit + 1) (2 ^ length bits) (one-le-pow (length bits) 2 (omega arith)) room in
    let same : reduced_rest (brought_down v bit) ≡ brought_down v bit = grind arith in
    ap (λ n. fold divide n bits) same ∙ undivided bits (brought_down v bit) room

-- ---- a byte more

pub parity-is : (bytes : List ℕ) → parity_of bytes ≡ fold divide (remainder_of bytes) (replicate 24 false)
unfolding parity_of
parity-is bytes = fold-append divide 0 (bits_of bytes) (replicate 24 false)

pub parity-lt : (bytes : List ℕ) → parity_of bytes < 2 ^ 24
unfolding parity_of
parity-lt bytes = divided-lt (bits_of bytes ++ replicate 24 false) 0 (omega arith)

entry_alone : all_of_width 8 (λ k. fold divide k (replicate 24 false) == parity_of (k ∷ [])) ≡ true
unfolding all_of_width parity_of divide byte_bits
entry_alone = refl

entry_high : all_of_width 8 (λ k. fold divide (k * 65536) (replicate 8 false) == parity_of (k ∷ [])) ≡ true
unfolding all_of_width parity_of divide byte_bits
entry_high = refl

entry_byte : all_of_width 8 (λ k. fold divide 0 (byte_bits k) == k) ≡ true
unfolding all_of_width divide byte_bits
entry_byte = refl

-- an entry as a rest with 24 zero bits after it, and as the bits that eight zero bits push out
alone : (k : ℕ) → k < 256 → fold divide k (replicate 24 false) ≡ parity_of (k ∷ [])
alone k h = eqb-true _ _ (all_of_width-at 8 (λ k. fold divide k (replicate 24 false) == parity_of (k ∷ [])) entry_alone k h)

high : (k : ℕ) → k < 256 → fold divide (k * 65536) (replicate 8 false) ≡ parity_of (k ∷ [])
high k h = eqb-true _ _ (all_of_width-at 8 (λ k. fold divide (k * 65536) (replicate 8 false) == parity_of (k ∷ [])) entry_high k h)

pub byte-is : (k : ℕ) → k < 256 → fold divide 0 (byte_bits k) ≡ k
byte-is k h = eqb-true _ _ (all_of_width-at 8 (λ k. fold divide 0 (byte_bits k) == k) entry_byte k h)

-- entries go together with exclusive or
entry-xor : (a b : ℕ) → a < 256 → b < 256 → parity_of (bit_xor a b ∷ []) ≡ bit_xor (parity_of (a ∷ [])) (parity_of (b ∷ []))
entry-xor a b la lb =
    sym (alone (bit_xor a b) (xor_lt 8 a b la lb))
    ∙ divided-xor (replicate 24 false) a b (omega arith) (omega arith)
    ∙ (λ i. bit_xor (alone a la i) (alone b lb i))

-- 16 bits go up by a byte
low : (l : ℕ) → l < 65536 → fold divide l (replicate 8 false) ≡ l * 256
low l h = undivided (replicate 8 false) l (omega arith) ∙ number-after (replicate 8 false) l ∙ (omega arith)

pushed : (h l : ℕ) → h < 256 → l < 65536 → fold divide (h * 65536 + l) (replicate 8 false) ≡ bit_xor (parity_of (h ∷ [])) (l * 256)
pushed h l lh ll =
    let parts : h * 65536 + l ≡ bit_xor (h * 65536) l =
    sym (xor-parts 16 h 0 0 l (omega arith) ll ∙ (λ i. xor_zero_r h i * 65536 + xor_zero_l l i)) ∙ (λ i. bit_xor ((let e : h * 2 ^ 16 + 0 ≡ h * 65536 = omega arith in e) i) ((let e : 0 * 2 ^ 16 + l ≡ l = omega arith in e) i)) in
    ap (λ n. fold divide n (replicate 8 false)) parts
    ∙ divided-xor (replicate 8 false) (h * 65536) l (omega arith) (omega arith)
    ∙ (λ i. bit_xor (high h lh i) (low l ll i))

-- the zero bits of the parity may come before or after those of a byte
pushed_first : (rest b : ℕ) → rest < 2 ^ 24 → b < 256
    → fold divide (fold divide rest (byte_bits b)) (replicate 24 false)
    ≡ bit_xor (fold divide (fold divide rest (replicate 24 false)) (replicate 8 false)) (parity_of (b ∷ []))
pushed_first rest b lr lb =
    let split : fold divide rest (byte_bits b) ≡ bit_xor (fold divide rest (replicate 8 false)) b =
    ap (λ n. fold divide n (byte_bits b)) (sym (xor_zero_r rest)) ∙ divided-xor (byte_bits b) rest 0 lr (omega arith)
    ∙ (λ i. bit_xor (fold divide rest (replicate (length-byte_bits b i) false)) (byte-is b lb i)) in
    ap (λ n. fold divide n (replicate 24 false)) split
    ∙ divided-xor (replicate 24 false) (fold divide rest (replicate 8 false)) b (divided-lt (replicate 8 false) rest lr) (omega arith)
    ∙ (λ i. bit_xor (fold divide (fold divide rest (replicate 8 false)) (replicate 24 false)) (alone b lb i))

pub parity-more : (bytes : List ℕ) (b : ℕ) → b < 256
    → parity_of (bytes ++ b ∷ []) ≡ bit_xor (parity_of (bit_xor (parity_of bytes / 65536) b ∷ [])) (parity_of bytes % 65536 * 256)
parity-more bytes b lb =
    let rest = remainder_of bytes in
    let p = parity_of bytes in
    let lp : p < 2 ^ 24 = parity-lt bytes in
    let h = p / 65536 in
    let l = p % 65536 in
    let lh : h < 256 = omega arith in
    let ll : l < 65536 = omega arith in
    let more : remainder_of (bytes ++ b ∷ []) ≡ fold divide rest (byte_bits b) =
    ap (λ bits. fold divide 0 bits) (flat_map-append byte_bits bytes (b ∷ []) ∙ ap (λ bits. bits_of bytes ++ bits) (append-nil (byte_bits b)))
    ∙ fold-append divide 0 (bits_of bytes) (byte_bits b) in
    parity-is (bytes ++ b ∷ []) ∙ ap (λ n. fold divide n (replicate 24 false)) more
    ∙ pushed_first rest b (remainder-lt bytes) lb
    ∙ ap (λ n. bit_xor (fold divide n (replicate 8 false)) (parity_of (b ∷ []))) (sym (parity-is bytes) ∙ (let e : p ≡ h * 65536 + l = omega arith in e))
    ∙ ap (λ n. bit_xor n (parity_of (b ∷ []))) (pushed h l lh ll)
    ∙ xor_assoc (parity_of (h ∷ [])) (l * 256) (parity_of (b ∷ []))
    ∙ ap (λ n. bit_xor (parity_of (h ∷ [])) n) (xor_comm (l * 256) (parity_of (b ∷ [])))
    ∙ sym (xor_assoc (parity_of (h ∷ [])) (parity_of (b ∷ [])) (l * 256))
    ∙ ap (λ n. bit_xor n (l * 256)) (sym (entry-xor h b lh lb))

-- a table of the parity of each byte
pub table-at : (table : List ℕ) → all_of_width 8 (λ k. get_or table k 0 == parity_of (k ∷ [])) ≡ true → (k : ℕ) → k < 256 → get_or table k 0 ≡ parity_of (k ∷ [])
table-at table all k h = eqb-true _ _ (all_of_width-at 8 (λ k. get_or table k 0 == parity_of (k ∷ [])) all k h)
