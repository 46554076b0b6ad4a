-- Speed and track of a velocity over ground, as whole numbers.
use Rattle.std.specs.Prelude.{ℕ, zero, suc, ◌+◌, ◌-◌, ◌*◌, ◌%◌, ◌≤◌, ◌≡◌, ◌==◌, ◌&&◌, nat_le, nat_lt, min, max, ℤ, unsigned_abs, Bool, true, false, List, [], ◌∷◌, Option, Some, None, if◌then◌else◌, count_by, length, slice_index, EachIndex}
use Rattle.std.specs.Int.{is_negative}

-- ---- speed

-- s is the greatest number whose square is at most n
pub record IsRoot (n s : ℕ) : Type 0 where
  pub within : s * s ≤ n
  pub greatest : (r : ℕ) → r * r ≤ n → r ≤ s

-- the whole part of the square root of n
unfoldable pub root : ℕ → ℕ
root zero = 0
root (suc n) = let s = root n in if nat_le ((s + 1) * (s + 1)) (suc n) then s + 1 else s

abbrev pub square : ℤ → ℕ
square z = unsigned_abs z * unsigned_abs z

-- tenths of a knot, rounded down, of knots to the east and to the north
abbrev pub speed_tenths : ℤ → ℤ → ℕ
speed_tenths east north = root (100 * (square east + square north))

-- ---- track

-- the tangents of 1/2, 3/2, .., 89/2 degrees, in 1/1,000,000,000 and rounded down
unfoldable pub tangents : List ℕ
tangents =
    8726867 ∷ 26185921 ∷ 43660942 ∷ 61162620 ∷ 78701706 ∷ 96289048 ∷ 113935608 ∷ 131652497 ∷ 149451001 ∷
    167342609 ∷ 185339044 ∷ 203452299 ∷ 221694662 ∷ 240078759 ∷ 258617584 ∷ 277324544 ∷ 296213494 ∷ 315298788 ∷
    334595319 ∷ 354118572 ∷ 373884679 ∷ 393910475 ∷ 414213562 ∷ 434812374 ∷ 455726255 ∷ 476975532 ∷ 498581608 ∷
    520567050 ∷ 542955699 ∷ 565772778 ∷ 589045016 ∷ 612800788 ∷ 637070260 ∷ 661885561 ∷ 687280958 ∷ 713293067 ∷
    739961075 ∷ 767326987 ∷ 795435916 ∷ 824336385 ∷ 854080685 ∷ 884725264 ∷ 916331174 ∷ 948964566 ∷ 982697263 ∷ []

-- the nearest whole degree of the angle whose tangent is a/b, with a at most b: the number of tangents below a/b
abbrev pub nearest_degree : ℕ → ℕ → ℕ
nearest_degree a b = count_by (λ t. nat_lt (t * b) (1000000000 * a)) tangents

-- whole degrees between the track and the line from north to south, by the sizes of east and north: 0 to 90
abbrev pub degrees_off : ℕ → ℕ → ℕ
degrees_off east north = let c = nearest_degree (min east north) (max east north) in if nat_le east north then c else 90 - c

-- whole degrees from north by east, where these are so far off: west of north, 0 is in the place of 360
abbrev pub degrees_turned : Bool → Bool → ℕ → ℕ
degrees_turned false false d = d
degrees_turned false true d = 180 - d
degrees_turned true true d = 180 + d
degrees_turned true false d = (360 - d) % 360

-- whole degrees from north by east, the nearest; none where nothing moves
abbrev pub track : ℤ → ℤ → Option ℕ
track east north =
    if unsigned_abs east == 0 && unsigned_abs north == 0
    then None
    else Some (degrees_turned (is_negative east) (is_negative north) (degrees_off (unsigned_abs east) (unsigned_abs north)))

-- ---- what the table of tangents is

-- the number i^quarters (x + y i), with x above 0
pub record Turned : Type 0 where
  pub x : ℕ
  pub y : ℕ
  pub quarters : ℕ

-- the product with b + a i, where a is at most b: a further quarter turn is counted where it passes an axis
abbrev pub times : ℕ → ℕ → Turned → Turned
times a b p =
    if nat_lt (a * p.y) (b * p.x)
    then record { x = b * p.x - a * p.y; y = a * p.x + b * p.y; quarters = p.quarters }
    else record { x = a * p.x + b * p.y; y = a * p.y - b * p.x; quarters = p.quarters + 1 }

-- (b + a i)^n
unfoldable pub power : ℕ → ℕ → ℕ → Turned
power a b zero = record { x = 1; y = 0; quarters = 0 }
power a b (suc n) = times a b (power a b n)

-- whole half degrees in the angle of b + a i: as many as its 180th power makes whole quarter turns
abbrev pub half_degrees : ℕ → ℕ → ℕ
half_degrees a b = (power a b 180).quarters

-- entry k, counted from 0, is 1,000,000,000 times the tangent of k + 1/2 degrees, rounded down
pub record AreTangents (table : List ℕ) : Type 0 where
  pub entries : length table ≡ 45
  pub below : EachIndex table (λ k. half_degrees (slice_index table k) 1000000000 ≡ 2 * k)
  pub above : EachIndex table (λ k. half_degrees (slice_index table k + 1) 1000000000 ≡ 2 * k + 1)
