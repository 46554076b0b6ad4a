use Rattle.std.proofs.Common.{◌≡◌, ℕ, suc, ◌-◌, ◌≤◌, List, ◌++◌, length, take, drop, replicate, sym, ap, ◌∙◌, arith}
use Rattle.std.proofs.lemmas.List.{take_all, length-drop}
use Rattle.modes_frame.specs.Kept.{bytes_in}
use Rattle.modes_frame.proofs.frame.Frame.last_fourteen.Goals as goal

-- the last 14 of 16 bytes that begin with zeros
last_ones : (padded bytes : List ℕ) → length padded ≡ 16 → length bytes ≤ 14 → replicate (16 - length bytes) 0 ++ bytes ≡ padded → take 14 (drop 2 padded) ≡ replicate (14 - length bytes) 0 ++ bytes
last_ones padded bytes size few rest =
    let two : 16 - length bytes ≡ suc (suc (14 - length bytes)) = omega (arith, few) in
    take_all 14 (drop 2 padded) (omega (arith, length-drop 2 padded, size)) ∙ ap (drop 2) (sym rest) ∙ ap (λ k. drop 2 (replicate k 0 ++ bytes)) two

pub returns-clause-bytes : goal.returns-clause-bytes
returns-clause-bytes c =
    let kept = c.self.invariant in
    let bytes = bytes_in c.self.inside.count c.self.inside.padded in
    let few : length bytes ≤ 14 = omega (arith, kept.same, kept.few) in
    let last : take 14 (drop 2 c.self.inside.padded) ≡ replicate (14 - length bytes) 0 ++ bytes = last_ones c.self.inside.padded bytes kept.size few kept.rest in
    rw (← c.self.view_is) last
