-- Lists whose items are passed one by one from a list.
use Rattle.std.proofs.Common.{◌≡◌, ◌∙◌, ◌∷◌, ◌++◌, List, [], Option, Some, Result, append_assoc, append-nil, arith, ap, get_or, is_some, length, map, suc, true, subst, sym, All}
use Rattle.station_lines.specs.declared.pumping.PumpFault.{PumpFault}
use Rattle.station_lines.specs.declared.tally.Tally.{Tally}
use Rattle.messages.proofs.Common.{AddsAll, AddsAnswer}

-- one more item, of a list whose other items are to come
pub one_more : {A B : Type 0} (f : A → B) (done new target : List B) (x : A) (items rest : List A) → items ≡ x ∷ rest → new ≡ done ++ f x ∷ [] → done ++ map f items ≡ target → new ++ map f rest ≡ target
one_more f done new target x items rest split pushed so_far =
    ap (λ (l : List _). l ++ map f rest) pushed ∙ append_assoc done (f x ∷ []) (map f rest) ∙ ap (λ (l : List _). done ++ map f l) (sym split) ∙ so_far

-- all items, when none is to come
pub all_done : {A B : Type 0} (f : A → B) (done target : List B) (items : List A) → items ≡ [] → done ++ map f items ≡ target → done ≡ target
all_done f done target items none so_far = sym (append-nil done) ∙ ap (λ (l : List _). done ++ map f l) (sym none) ∙ so_far

abbrev Answer : Type 0
Answer = Result Tally PumpFault

-- one more sum
pub one_more_sum : {W : Type 0} (answer : W → Option Answer) (all_before : List Answer) (all : List W) (done new : List Answer) (b : Answer) (before rest_before : List Answer) (w : W) (since : Answer) (sum : Answer) (ws rest : List W)
    → before ≡ b ∷ rest_before → ws ≡ w ∷ rest → answer w ≡ Some since → AddsAnswer b since sum → new ≡ done ++ sum ∷ []
    → ((later : List Answer) → AddsAll before (map answer ws) later → AddsAll all_before (map answer all) (done ++ later))
    → (later : List Answer) → AddsAll rest_before (map answer rest) later → AddsAll all_before (map answer all) (new ++ later)
one_more_sum answer all_before all done new b before rest_before w since sum ws rest split_before split is adds pushed so_far later later_adds =
    let here : AddsAll (b ∷ rest_before) (Some since ∷ map answer rest) (sum ∷ later) = (adds, later_adds) in
    let known : Some since ∷ map answer rest ≡ map answer ws = ap (λ (o : Option Answer). o ∷ map answer rest) (sym is) ∙ ap (map answer) (sym split) in
    let first = subst (λ (os : List (Option Answer)). AddsAll (b ∷ rest_before) os (sum ∷ later)) known here in
    let both = subst (λ (bs : List Answer). AddsAll bs (map answer ws) (sum ∷ later)) (sym split_before) first in
    subst (λ (l : List Answer). AddsAll all_before (map answer all) l) (sym (ap (λ (l : List Answer). l ++ later) pushed ∙ append_assoc done (sum ∷ []) later)) (so_far (sum ∷ later) both)

-- all sums
pub all_sums : {W : Type 0} (answer : W → Option Answer) (all_before : List Answer) (all : List W) (done before : List Answer) (ws : List W) → before ≡ [] → ws ≡ []
    → ((later : List Answer) → AddsAll before (map answer ws) later → AddsAll all_before (map answer all) (done ++ later)) → AddsAll all_before (map answer all) done
all_sums answer all_before all done before ws none_before none so_far =
    let nothing : AddsAll [] [] [] = tt in
    let known = subst (λ (os : List (Option Answer)). AddsAll [] os []) (sym (ap (map answer) none)) nothing in
    subst (λ (l : List Answer). AddsAll all_before (map answer all) l) (append-nil done) (so_far [] (subst (λ (bs : List Answer). AddsAll bs (map answer ws) []) (sym none_before) known))

-- what holds of each item holds of those after the first
pub rest_answered : {W T : Type 0} (answer : W → Option T) (items rest : List W) (w : W) → items ≡ w ∷ rest → All (λ v. is_some (answer v) ≡ true) items → All (λ v. is_some (answer v) ≡ true) rest
rest_answered answer items rest w split all k d inside =
    subst (λ (l : List _). is_some (answer (get_or l (suc k) d)) ≡ true) split (all (suc k) d (omega (arith, inside, ap length split)))
