-- The ranges of the fields that a frame carries.
use Rattle.std.proofs.Common.{◌≡◌, ℕ, ◌+◌, ◌-◌, ◌*◌, ◌%◌, ◌^◌, ◌<◌, ◌≤◌, ◌==◌, Bool, true, false, if◌then◌else◌, List, [], ◌∷◌, length, take, drop, Option, Some, None, IfSome, pos, ◌-ℤ◌, ◌*ℤ◌, arith, length-take, option_map, option_and_then}
use Rattle.std.proofs.Math.Nat.{pow-le-pow_right}
use Rattle.std.proofs.lemmas.Bool.{eqb-false}
use Rattle.std.proofs.lemmas.Int.{ints}
use Rattle.modes_frame.specs.Frames.{bit_of}
use Rattle.modes_fields.proofs.Common.{number, code_bits, field, altitude, altitude12_of, altitude13_of, altitude_code, gray_number, eleven, gray_bits, hundreds, linear_of, gillham}
use Rattle.modes_fields.proofs.NumberLemmas.{number-lt}
use Rattle.modes_fields.specs.Altitudes.{Code, hundreds_by, gillham_by}
use Rattle.modes_fields.specs.Categories.{category_in, category_set}
use Rattle.modes_fields.specs.Bits.{type_code}
use Rattle.modes_fields.specs.Identity.{squawk_of_code, octal}
use Rattle.table_laws.specs.Ranges.{IsCategory, IsAltitude}

-- ---- options

module _ {V : Type 0} (P : V → Type 0) where
  pub either : (test : Bool) (x y : Option V) → IfSome x P → IfSome y P → IfSome (if test then x else y) P
  either true x y h k = h
  either false x y h k = k

  pub mapped : {W : Type 0} (Q : W → Type 0) (f : V → W) (o : Option V) → ((v : V) → P v → Q (f v)) → IfSome o P → IfSome (option_map f o) Q
  mapped Q f None step h = tt
  mapped Q f (Some v) step h = step v h

  pub and_then : {W : Type 0} (Q : W → Type 0) (f : V → Option W) (o : Option V) → ((v : V) → P v → IfSome (f v) Q) → IfSome o P → IfSome (option_and_then f o) Q
  and_then Q f None step h = tt
  and_then Q f (Some v) step h = step v h

-- ---- numbers

number-take : (n : ℕ) (bits : List Bool) → number (take n bits) < 2 ^ n
number-take n bits =
    let few : length (take n bits) ≤ n = omega (arith, length-take n bits) in
    let most : 2 ^ length (take n bits) ≤ 2 ^ n = pow-le-pow_right (omega arith) few in
    omega (arith, number-lt (take n bits), most)

pub field-lt : (first last : ℕ) (me : List Bool) → field first last me < 2 ^ (last + 1 - first)
unfolding field
field-lt first last me = number-take (last + 1 - first) (drop (first - 1) me)

-- ---- altitudes

linear_range : (n : ℕ) → n < 2048 → IsAltitude (linear_of n)
linear_range n small = record { least = omega (arith, ints); most = omega (arith, ints) }

hundreds_range : (a b c : Bool) → IfSome (hundreds_by a b c) (λ h. (1 ≤ h) × (h ≤ 5))
hundreds_range false false true = (omega arith, omega arith)
hundreds_range false true true = (omega arith, omega arith)
hundreds_range false true false = (omega arith, omega arith)
hundreds_range true true false = (omega arith, omega arith)
hundreds_range true false false = (omega arith, omega arith)
hundreds_range false false false = tt
hundreds_range true false true = tt
hundreds_range true true true = tt

counted : (f k : ℕ) → f < 256 → 1 ≤ k → k ≤ 5 → IsAltitude (pos 100 *ℤ (pos (5 * f + k) -ℤ pos 13))
counted f k small some few = record { least = omega (arith, ints); most = omega (arith, ints) }

gillham_step : (t : Bool) (f h : ℕ) → f < 256 → (1 ≤ h) × (h ≤ 5) → IsAltitude (pos 100 *ℤ (pos (5 * f + (if t then 6 - h else h)) -ℤ pos 13))
gillham_step true f h small range = counted f (6 - h) small (omega (arith, range.1)) (omega (arith, range.0))
gillham_step false f h small range = counted f h small range.0 range.1

gray-lt : (gray : List Bool) → gray_number gray < 256
unfolding gray_number
gray-lt gray = number-lt _

gillham_range : (c : Code) → IfSome (gillham c) IsAltitude
gillham_range c =
    let f = gray_number (gray_bits c) in
    mapped (λ h. (1 ≤ h) × (h ≤ 5)) IsAltitude (gillham_by f) (hundreds c)
    (λ h range. gillham_step (f % 2 == 1) f h (gray-lt (gray_bits c)) range) (hundreds_range c.c1 c.c2 c.c4)

pub altitude_range : (c : Code) → IfSome (altitude c) IsAltitude
unfolding altitude
altitude_range c =
    either IsAltitude _ None _ tt
    (either IsAltitude c.m None _ tt
    (either IsAltitude c.q (Some (linear_of (number (eleven c)))) (gillham c) (linear_range (number (eleven c)) (number-lt (eleven c))) (gillham_range c)))

pub altitude13_range : (code : ℕ) → IfSome (altitude13_of code) IsAltitude
unfolding altitude13_of
altitude13_range code = altitude_range (altitude_code code)

pub altitude12_range : (code : ℕ) → IfSome (altitude12_of code) IsAltitude
unfolding altitude12_of
altitude12_range code = altitude_range _

-- ---- squawks

octal-lt : (a b c : Bool) → octal a b c < 8
octal-lt a b c = number-lt (a ∷ b ∷ c ∷ [])

pub squawk_range : (code : ℕ) → squawk_of_code code < 4096
unfolding squawk_of_code
squawk_range code =
    let bits = code_bits 13 code in
    omega (
      arith,
      octal-lt (bit_of 6 bits) (bit_of 4 bits) (bit_of 2 bits),
      octal-lt (bit_of 12 bits) (bit_of 10 bits) (bit_of 8 bits),
      octal-lt (bit_of 5 bits) (bit_of 3 bits) (bit_of 1 bits),
      octal-lt (bit_of 13 bits) (bit_of 11 bits) (bit_of 9 bits),
    )

-- ---- categories

pub category_range : (me : List Bool) → IfSome (category_in me) IsCategory
unfolding category_in
category_range me = by (field 6 8 me) (field-lt 6 8 me)
  where
    by : (n : ℕ) → n < 8 → IfSome (if n == 0 then None else Some (record { set = category_set (type_code me); number = n })) IsCategory
    by n small = by_test (n == 0) (λ e. eqb-false n 0 e)
      where
        by_test : (t : Bool) → (t ≡ false → n ≡ 0 → ⊥) → IfSome (if t then None else Some (record { set = category_set (type_code me); number = n })) IsCategory
        by_test true other = tt
        by_test false other = record { least = grind (arith, other); most = omega arith }
