-- The table of tangents, by computation.
use Rattle.std.proofs.Common.{◌≡◌, ℕ, zero, suc, ◌+◌, ◌*◌, ◌<◌, Bool, true, List, [], ◌∷◌, get_or, length, refl, arith, ◌==◌, ◌&&◌}
use Rattle.std.proofs.lemmas.Bool.{and_parts, eqb-true}
use Rattle.station_report.specs.Motion.{AreTangents, tangents, half_degrees, power}

-- f counts 2k at the entry at place k, and 2k + 1 at the next number, from k on
abbrev agrees : (ℕ → ℕ) → ℕ → List ℕ → Bool
agrees f k [] = true
agrees f k (t ∷ ts) = f t == 2 * k && f (t + 1) == 2 * k + 1 && agrees f (k + 1) ts

record Counts (f : ℕ → ℕ) (k t : ℕ) : Type 0 where
  below : f t ≡ 2 * k
  above : f (t + 1) ≡ 2 * k + 1

counts : (f : ℕ → ℕ) (k : ℕ) (ts : List ℕ) → agrees f k ts ≡ true → (i : ℕ) → i < length ts → Counts f (k + i) (get_or ts i 0)
counts f k [] e i h = absurd (omega arith)
counts f k (t ∷ ts) e zero h =
    let here = and_parts (f t == 2 * k) (f (t + 1) == 2 * k + 1) (and_parts (f t == 2 * k && f (t + 1) == 2 * k + 1) (agrees f (k + 1) ts) e).0 in
    record { below = omega (arith, eqb-true (f t) (2 * k) here.0); above = omega (arith, eqb-true (f (t + 1)) (2 * k + 1) here.1) }
counts f k (t ∷ ts) e (suc i) h =
    let there = and_parts (f t == 2 * k && f (t + 1) == 2 * k + 1) (agrees f (k + 1) ts) e in
    let rest = counts f (k + 1) ts there.1 i (omega arith) in
    record { below = omega (arith, rest.below); above = omega (arith, rest.above) }

computed : agrees (λ t. half_degrees t 1000000000) 0 tangents ≡ true
unfolding tangents power
computed = refl

entries : length tangents ≡ 45
unfolding tangents
entries = refl

pub tangents_are : AreTangents tangents
tangents_are = record {
  entries = entries;
  below = λ i h. let c = counts (λ t. half_degrees t 1000000000) 0 tangents computed i h in omega (arith, c.below);
  above = λ i h. let c = counts (λ t. half_degrees t 1000000000) 0 tangents computed i h in omega (arith, c.above);
}
