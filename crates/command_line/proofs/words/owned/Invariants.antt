use Rattle.std.proofs.Common.{◌≡◌, ℕ, List, Bor, map, take, string_bytes}
use Rattle.command_line.proofs.words.owned.Given as goal

abbrev pub invariant-loop-text : goal.invariant-loop-text
invariant-loop-text l = map string_bytes l.paths.items ≡ map {A = Bor (List ℕ)} {B = List ℕ} (λ t. t.now) (take l.text-index l.texts)
