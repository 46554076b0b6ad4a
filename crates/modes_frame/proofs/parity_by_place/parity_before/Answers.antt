use Rattle.std.proofs.Common.{◌≡◌, ℕ, ◌<◌, List, ◌∷◌, ap, sym, ◌∙◌, arith, get_or, replicate}
use Rattle.modes_frame.proofs.Common.{parity_of, BEFORE_1, BEFORE_2, BEFORE_3, BEFORE_4, BEFORE_5, BEFORE_6, BEFORE_7, BEFORE_8, BEFORE_9, BEFORE_10}
use Rattle.modes_frame.proofs.PlaceLemmas.{IsTable, table-1, table-2, table-3, table-4, table-5, table-6, table-7, table-8, table-9, table-10}
use Rattle.modes_frame.proofs.parity_by_place.parity_before.Goals as goal

looked-up : (n : ℕ) (table : List ℕ) (after byte index : ℕ) → IsTable n table → index ≡ byte → byte < 256 → after ≡ n
    → get_or table index 0 ≡ parity_of (byte ∷ replicate after 0)
looked-up n table after byte index is same small place =
    ap (λ k. get_or table k 0) same ∙ is byte small ∙ ap (λ k. parity_of (byte ∷ replicate k 0)) (sym place)

pub returns-in-1 : goal.returns-in-1
returns-in-1 c = looked-up 1 BEFORE_1 c.args.after c.args.byte c.from-index.result table-1 c.from-index.ensures (omega arith) c.in-1.is

pub returns-in-2 : goal.returns-in-2
returns-in-2 c = looked-up 2 BEFORE_2 c.args.after c.args.byte c.from-index.result table-2 c.from-index.ensures (omega arith) c.in-2.is

pub returns-in-3 : goal.returns-in-3
returns-in-3 c = looked-up 3 BEFORE_3 c.args.after c.args.byte c.from-index.result table-3 c.from-index.ensures (omega arith) c.in-3.is

pub returns-in-4 : goal.returns-in-4
returns-in-4 c = looked-up 4 BEFORE_4 c.args.after c.args.byte c.from-index.result table-4 c.from-index.ensures (omega arith) c.in-4.is

pub returns-in-5 : goal.returns-in-5
returns-in-5 c = looked-up 5 BEFORE_5 c.args.after c.args.byte c.from-index.result table-5 c.from-index.ensures (omega arith) c.in-5.is

pub returns-in-6 : goal.returns-in-6
returns-in-6 c = looked-up 6 BEFORE_6 c.args.after c.args.byte c.from-index.result table-6 c.from-index.ensures (omega arith) c.in-6.is

pub returns-in-7 : goal.returns-in-7
returns-in-7 c = looked-up 7 BEFORE_7 c.args.after c.args.byte c.from-index.result table-7 c.from-index.ensures (omega arith) c.in-7.is

pub returns-in-8 : goal.returns-in-8
returns-in-8 c = looked-up 8 BEFORE_8 c.args.after c.args.byte c.from-index.result table-8 c.from-index.ensures (omega arith) c.in-8.is

pub returns-in-9 : goal.returns-in-9
returns-in-9 c = looked-up 9 BEFORE_9 c.args.after c.args.byte c.from-index.result table-9 c.from-index.ensures (omega arith) c.in-9.is

pub returns-in_default : goal.returns-in_default
returns-in_default c =
    let last : c.args.after ≡ 10 = omega arith in
    looked-up 10 BEFORE_10 c.args.after c.args.byte c.from-index.result table-10 c.from-index.ensures (omega arith) last
