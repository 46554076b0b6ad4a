-- Frames fed one after another.
use Rattle.std.specs.Prelude.{◌≡◌, ℕ, Bool, true, false, List, [], ◌∷◌, Result, Err}
use Rattle.station_journal.specs.declared.refusal.Refusal.{Refusal}
use Rattle.station_journal.specs.declared.refusal.Refusal.TheVariants.{NoMemory}

-- the steps of a feed for these frames, in order, with these answers, and no other step
abbrev pub Feeds : {F : Type 0} → (F → List ℕ → Result (Unit {0}) Refusal → F → Type 0) → F → List (List ℕ) → List (Result (Unit {0}) Refusal) → F → Type 0
Feeds gives x [] [] y = y ≡ x
Feeds gives x [] (answer ∷ answers) y = ⊥
Feeds gives x (frame ∷ frames) [] y = ⊥
Feeds {F} gives x (frame ∷ frames) (answer ∷ answers) y = (z : F) × gives x frame answer z × Feeds gives z frames answers y

-- any answer but out of memory
abbrev pub is_reply : Result (Unit {0}) Refusal → Bool
is_reply (Err NoMemory) = false
is_reply _ = true
