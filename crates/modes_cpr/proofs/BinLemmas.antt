-- An angle in bins: encoding rounds it to the nearest whole number of bins, and sends the bins from the zone's start.
use Rattle.std.proofs.Common.{◌≡◌, ℕ, ◌+◌, ◌-◌, ◌*◌, ◌<◌, ◌≤◌, ℤ, pos, ◌+ℤ◌, ◌-ℤ◌, ◌*ℤ◌, ap, ◌∙◌, arith, Bool, true, false}
use Rattle.std.proofs.lemmas.Int.{ints}
use borrow.Author.Differences.{up, down, sum_is_lem, product_is}
use Rattle.modes_cpr.proofs.Common.{floor, modulo, Degrees, bins, latitude_zones, longitude_zones, zone_index, zone_of, bin_of, sent_bin}
use Rattle.modes_cpr.proofs.WholeNumberLemmas.{*ℤ--ℤ}
use Rattle.modes_cpr.proofs.FloorLemmas.{floor_is, floor_unique, modulo_shift}

-- the bins from 0 to the nearest bin of a
unfoldable pub steps : ℕ → Degrees → ℤ
steps z a = zone_of z a *ℤ pos bins +ℤ bin_of z a

-- K is a z 2^17/360, rounded to the nearest whole number, as an inequality of naturals
pub record IsNearest (z : ℕ) (a : Degrees) (K : ℤ) : Type 0 where
  pub low : 720 * (a.den * up K) + 262144 * (down a.num * z) ≤ 262144 * (up a.num * z) + 720 * (a.den * down K) + 360 * a.den
  pub high : 262144 * (up a.num * z) + 720 * (a.den * down K) < 720 * (a.den * up K) + 262144 * (down a.num * z) + 360 * a.den

pub steps-nearest : (z : ℕ) (a : Degrees) → 0 < a.den → IsNearest z a (steps z a)
unfolding steps bin_of zone_of
steps-nearest z a some =
    let D = 360 * a.den in
    let k = zone_of z a in
    let b = bin_of z a in
    let f = floor_is (pos (2 * bins) *ℤ modulo (a.num *ℤ pos z) D +ℤ pos D) (2 * D) (omega arith) in
    let s = ap (λ v. a.den * v) (sum_is_lem (k *ℤ pos bins) b) in
    let t = ap (λ v. a.den * v) (product_is k (pos bins)).0 in
    let u = ap (λ v. a.den * v) (product_is k (pos bins)).1 in
    record { low = omega (arith, ints); high = omega (arith, ints) }

-- K is q zones and y bins
pub record IsSent (K q : ℤ) (y : ℕ) : Type 0 where
  pub up_is : bins * up q + y + down K ≡ up K + bins * down q
  pub small : y < bins

pub steps-sent_bin : (z : ℕ) (a : Degrees) → IsSent (steps z a) (zone_of z a +ℤ floor (bin_of z a) bins) (sent_bin (bin_of z a))
unfolding steps
steps-sent_bin z a =
    let f = floor_is (bin_of z a) bins (omega arith) in
    record { up_is = omega (arith, ints); small = omega (arith, ints) }

-- the index of a zone, from roundings that differ by less than half a zone
pub zone_index_is : (z : ℕ) (K0 K1 q0 q1 : ℤ) (y0 y1 : ℕ) → IsSent K0 q0 y0 → IsSent K1 q1 y1
    → 2 * (z * up K0) + 2 * ((z + 1) * down K1) < 2 * ((z + 1) * up K1) + 2 * (z * down K0) + 131072
    → 2 * ((z + 1) * up K1) + 2 * (z * down K0) < 2 * (z * up K0) + 2 * ((z + 1) * down K1) + 131072
    → zone_index (z + 1) y0 y1 ≡ pos (z + 1) *ℤ q1 -ℤ pos z *ℤ q0
unfolding zone_index
zone_index_is z K0 K1 q0 q1 y0 y1 s0 s1 below above =
    let e : z + 1 - 1 ≡ z = omega arith in
    let e0 = ap (λ v. v * z) s0.up_is in
    let e1 = ap (λ v. v * (z + 1)) s1.up_is in
    ap (λ v. floor (pos (y0 * v) -ℤ pos (y1 * (z + 1)) +ℤ pos 65536) bins) e
    ∙ floor_unique (pos (y0 * z) -ℤ pos (y1 * (z + 1)) +ℤ pos 65536) bins (pos (z + 1) *ℤ q1 -ℤ pos z *ℤ q0) (record { low = omega (arith, ints); high = omega (arith, ints) })

-- the index of the even grid is that of its zone, and that of the odd grid is that of its own
pub even_zone : (z : ℕ) (q0 q1 : ℤ) → modulo (pos (z + 1) *ℤ q1 -ℤ pos z *ℤ q0) (z + 1) ≡ modulo q0 (z + 1)
even_zone z q0 q1 =
    let e = *ℤ--ℤ (pos (z + 1)) q1 q0 in
    let i : pos (z + 1) *ℤ q1 -ℤ pos z *ℤ q0 ≡ pos (z + 1) *ℤ (q1 -ℤ q0) +ℤ q0 = omega (arith, ints) in
    ap (λ v. modulo v (z + 1)) i ∙ modulo_shift q0 (q1 -ℤ q0) (z + 1) (omega arith)

pub odd_zone : (z : ℕ) (q0 q1 : ℤ) → 0 < z → modulo (pos (z + 1) *ℤ q1 -ℤ pos z *ℤ q0) z ≡ modulo q1 z
odd_zone z q0 q1 some =
    let e = *ℤ--ℤ (pos z) q1 q0 in
    let i : pos (z + 1) *ℤ q1 -ℤ pos z *ℤ q0 ≡ pos z *ℤ (q1 -ℤ q0) +ℤ q1 = omega (arith, ints) in
    ap (λ v. modulo v z) i ∙ modulo_shift q1 (q1 -ℤ q0) z some

-- each grid has a zone
pub some_band : (odd : Bool) → 0 < latitude_zones odd
some_band true = omega arith
some_band false = omega arith

pub some_zone : (n : ℕ) (odd : Bool) → 0 < longitude_zones n odd
some_zone n true = omega arith
some_zone n false = omega arith
