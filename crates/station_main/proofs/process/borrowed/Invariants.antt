use Rattle.std.proofs.Common.{◌≡◌, ℕ, List, Bor, map, take, string_bytes}
use Rattle.station_main.proofs.process.borrowed.Given as goal

-- the words so far
abbrev pub invariant-loop-word : goal.invariant-loop-word
invariant-loop-word l = map {A = Bor (List ℕ)} {B = List ℕ} (λ w. w.now) l.words.items ≡ map string_bytes (take l.word-index l.owned.items)
