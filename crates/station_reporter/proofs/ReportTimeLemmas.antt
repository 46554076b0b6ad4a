-- What a reporter does at the times that its clock gives, one more at the end.
use Rattle.std.proofs.Common.{rules, ◌≡◌, ◌∙◌, ℕ, ◌≤◌, ◌<◌, Bool, true, false, List, [], ◌∷◌, ◌++◌, refl, sym, ap, cond, nat_le}
use Rattle.std.proofs.lemmas.Bool.{lt-leb, le-leb}
use Rattle.station_reporter.proofs.Common.{Acting, after_table, after_tick, due_after, due_moments, has_come, Due}
use Rattle.command_line.specs.declared.pace.Pace.{Pace}

append-by : (table tick : Bool) (later : Due → List Acting) (t u : Acting) (a b c : Due) (of_a of_b of_c all_a all_b all_c : List Acting)
    → all_a ≡ of_a ++ later a → all_b ≡ of_b ++ later b → all_c ≡ of_c ++ later c
    → cond table (t ∷ all_a) (cond tick (u ∷ all_b) all_c) ≡ cond table (t ∷ of_a) (cond tick (u ∷ of_b) of_c) ++ later (cond table a (cond tick b c))
append-by true tick later t u a b c of_a of_b of_c all_a all_b all_c p q r = ap (λ (ms : List Acting). t ∷ ms) p
append-by false true later t u a b c of_a of_b of_c all_a all_b all_c p q r = ap (λ (ms : List Acting). u ∷ ms) q
append-by false false later t u a b c of_a of_b of_c all_a all_b all_c p q r = r

due_moments-append : (pace : Pace) (due : Due) (moments more : List ℕ) → due_moments pace due (moments ++ more) ≡ due_moments pace due moments ++ due_moments pace (due_after pace due moments) more
due_moments-append pace due [] more = refl
due_moments-append pace due (now ∷ moments) more =
    append-by (nat_le due.table now) (has_come due.tick now) (λ (d : Due). due_moments pace d more) (record { at = now; has_table = true }) (record { at = now; has_table = false })
    (due_after pace (after_table pace now) moments) (due_after pace (after_tick pace due now) moments) (due_after pace due moments)
    (due_moments pace (after_table pace now) moments) (due_moments pace (after_tick pace due now) moments) (due_moments pace due moments)
    (due_moments pace (after_table pace now) (moments ++ more)) (due_moments pace (after_tick pace due now) (moments ++ more)) (due_moments pace due (moments ++ more))
    (due_moments-append pace (after_table pace now) moments more) (due_moments-append pace (after_tick pace due now) moments more) (due_moments-append pace due moments more)

after-by : (table tick : Bool) (later : Due → Due) (a b c all_a all_b all_c : Due) → all_a ≡ later a → all_b ≡ later b → all_c ≡ later c
    → cond table all_a (cond tick all_b all_c) ≡ later (cond table a (cond tick b c))
after-by true tick later a b c all_a all_b all_c p q r = p
after-by false true later a b c all_a all_b all_c p q r = q
after-by false false later a b c all_a all_b all_c p q r = r

due_after-append : (pace : Pace) (due : Due) (moments more : List ℕ) → due_after pace due (moments ++ more) ≡ due_after pace (due_after pace due moments) more
due_after-append pace due [] more = refl
due_after-append pace due (now ∷ moments) more =
    after-by (nat_le due.table now) (has_come due.tick now) (λ (d : Due). due_after pace d more)
    (due_after pace (after_table pace now) moments) (due_after pace (after_tick pace due now) moments) (due_after pace due moments)
    (due_after pace (after_table pace now) (moments ++ more)) (due_after pace (after_tick pace due now) (moments ++ more)) (due_after pace due (moments ++ more))
    (due_after-append pace (after_table pace now) moments more) (due_after-append pace (after_tick pace due now) moments more) (due_after-append pace due moments more)

first-case : {X : Type 0} (table : Bool) (x y : X) → table ≡ true → cond table x y ≡ x
first-case true x y p = refl
first-case false x y p = absurd (search rules)

second-case : {X : Type 0} (table tick : Bool) (x y z : X) → table ≡ false → tick ≡ true → cond table x (cond tick y z) ≡ y
second-case true tick x y z p q = absurd (search rules)
second-case false true x y z p q = refl
second-case false false x y z p q = absurd (search rules)

third-case : {X : Type 0} (table tick : Bool) (x y z : X) → table ≡ false → tick ≡ false → cond table x (cond tick y z) ≡ z
third-case true tick x y z p q = absurd (search rules)
third-case false true x y z p q = absurd (search rules)
third-case false false x y z p q = refl

-- one more time, at which these are the acts and this is due next
pub record OneMore (pace : Pace) (due next : Due) (now : ℕ) (acts : List Acting) : Type 0 where
  pub moments : due_moments pace due (now ∷ []) ≡ acts
  pub after : due_after pace due (now ∷ []) ≡ next

pub nothing-due : (pace : Pace) (due : Due) (now : ℕ) → now < due.table → has_come due.tick now ≡ false → OneMore pace due due now []
nothing-due pace due now early none =
    let before = lt-leb due.table now early in
    record { moments = third-case (nat_le due.table now) (has_come due.tick now) _ _ _ before none; after = third-case (nat_le due.table now) (has_come due.tick now) _ _ _ before none }

pub tick-due : (pace : Pace) (due : Due) (now : ℕ) → now < due.table → has_come due.tick now ≡ true → OneMore pace due (after_tick pace due now) now (record { at = now; has_table = false } ∷ [])
tick-due pace due now early come =
    let before = lt-leb due.table now early in
    record { moments = second-case (nat_le due.table now) (has_come due.tick now) _ _ _ before come; after = second-case (nat_le due.table now) (has_come due.tick now) _ _ _ before come }

pub table-due : (pace : Pace) (due : Due) (now : ℕ) → due.table ≤ now → OneMore pace due (after_table pace now) now (record { at = now; has_table = true } ∷ [])
table-due pace due now late =
    let come = le-leb due.table now late in
    record { moments = first-case (nat_le due.table now) _ _ come; after = first-case (nat_le due.table now) _ _ come }

-- the acts up to one more time
pub acts-then : (pace : Pace) (first : Due) (due next : Due) (now : ℕ) (moments : List ℕ) (acts : List Acting) → due ≡ due_after pace first moments → OneMore pace due next now acts
    → due_moments pace first (moments ++ now ∷ []) ≡ due_moments pace first moments ++ acts
acts-then pace first due next now moments acts is more =
    due_moments-append pace first moments (now ∷ []) ∙ ap (λ (d : Due). due_moments pace first moments ++ due_moments pace d (now ∷ [])) (sym is)
    ∙ ap (λ (acts : List Acting). due_moments pace first moments ++ acts) more.moments

pub due-then : (pace : Pace) (first : Due) (due next : Due) (now : ℕ) (moments : List ℕ) (acts : List Acting) → due ≡ due_after pace first moments → OneMore pace due next now acts
    → next ≡ due_after pace first (moments ++ now ∷ [])
due-then pace first due next now moments acts is more =
    sym (due_after-append pace first moments (now ∷ []) ∙ ap (λ (d : Due). due_after pace d (now ∷ [])) (sym is) ∙ more.after)
