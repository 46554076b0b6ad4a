-- One more byte at the end, and the lines.
use Rattle.std.proofs.Common.{◌≡◌, ℕ, nat_eq, nat_le, nat_lt, Bool, true, false, cond, List, [], ◌∷◌, ◌++◌, Some, None, refl, sym, ap, ◌∙◌, length, map, length-append, rules, tests, subst, append-nil, inl, inr, ◌≢◌, ◌<◌, suc, append_assoc, get_or, arith, take, ◌≤◌, ◌+◌, option_to_list}
use Rattle.std.proofs.lemmas.Bool.{cases_Bool}
use Rattle.std.proofs.lemmas.Bool.Decides.{eqb_tells}
use Rattle.std.proofs.lemmas.List.{map-append, length-take-le, get_or-take, take_more}
use Rattle.modes_frame.proofs.Common.{Cut, Whole, Pieces, onto, pieces, cut_of, pending, ended_cuts, grown_cut, cut_after, cut_ended_by, lengthened_cut}

-- the pieces with a line feed at the end, and with another byte
abbrev ended_by : Pieces → Pieces
ended_by p = record { ended = p.ended ++ p.rest ∷ []; rest = [] }

abbrev grown_by : Pieces → ℕ → Pieces
grown_by p c = record { ended = p.ended; rest = p.rest ++ c ∷ [] }

onto-ended : (d : ℕ) (lines : List (List ℕ)) (rest : List ℕ) → onto d (lines ++ rest ∷ []) [] ≡ ended_by (onto d lines rest)
onto-ended d [] rest = refl
onto-ended d (l ∷ ls) rest = refl

onto-grown_cut : (d c : ℕ) (lines : List (List ℕ)) (rest : List ℕ) → onto d lines (rest ++ c ∷ []) ≡ grown_by (onto d lines rest) c
onto-grown_cut d c [] rest = refl
onto-grown_cut d c (l ∷ ls) rest = refl

-- a byte before the pieces, where is_line_feed says what it is
abbrev step_of : Bool → ℕ → Pieces → Pieces
step_of is_line_feed d p = cond is_line_feed (record { ended = [] ∷ p.ended; rest = p.rest }) (onto d p.ended p.rest)

step-ended : (b : Bool) (d : ℕ) (p : Pieces) → step_of b d (ended_by p) ≡ ended_by (step_of b d p)
step-ended true d p = refl
step-ended false d p = onto-ended d p.ended p.rest

step-grown_cut : (b : Bool) (d c : ℕ) (p : Pieces) → step_of b d (grown_by p c) ≡ grown_by (step_of b d p) c
step-grown_cut true d c p = refl
step-grown_cut false d c p = onto-grown_cut d c p.ended p.rest

pub pieces-line_feed : (bs : List ℕ) → pieces (bs ++ 10 ∷ []) ≡ ended_by (pieces bs)
pieces-line_feed [] = refl
pieces-line_feed (d ∷ bs) = ap (step_of (nat_eq d 10) d) (pieces-line_feed bs) ∙ step-ended (nat_eq d 10) d (pieces bs)

pub pieces-more : (bs : List ℕ) (c : ℕ) → nat_eq c 10 ≡ false → pieces (bs ++ c ∷ []) ≡ grown_by (pieces bs) c
pieces-more [] c h = ap (λ b. step_of b c (record { ended = []; rest = [] })) h
pieces-more (d ∷ bs) c h = ap (step_of (nat_eq d 10) d) (pieces-more bs c h) ∙ step-grown_cut (nat_eq d 10) d c (pieces bs)

-- the cut of a line and one more byte
cut_of-more : (line : List ℕ) (c : ℕ) → cut_of (line ++ c ∷ []) ≡ grown_cut (cut_of line) c
cut_of-more line c =
    let len = length-append line (c ∷ []) in
    elim (cases_Bool (nat_le (length line) 64)) [
      | inl fits ↦ rw fits (elim (cases_Bool (nat_lt (length line) 64)) [
        | inl room ↦ rw room (let more : nat_le (length (line ++ c ∷ [])) 64 ≡ true = search (rules, tests) in rw more)
        | inr full ↦ rw full (let more : nat_le (length (line ++ c ∷ [])) 64 ≡ false = search (rules, tests) in rw more)
      ])
      | inr long ↦ rw long (let more : nat_le (length (line ++ c ∷ [])) 64 ≡ false = search (rules, tests) in rw more)
    ]

-- what a byte does to the pending line, and which line it ends
pub pending-push : (bs : List ℕ) (c : ℕ) → cut_after (pending bs) c ≡ pending (bs ++ c ∷ [])
pending-push bs c = elim (eqb_tells c 10) [
  | inl h ↦ subst (λ (k : ℕ). cut_after (pending bs) k ≡ pending (bs ++ k ∷ [])) (sym h.1) (ap (λ p. cut_of p.rest) (sym (pieces-line_feed bs)))
  | inr h ↦ ap (λ b. cond b (Whole []) (grown_cut (pending bs) c)) h.0 ∙ sym (cut_of-more (pieces bs).rest c) ∙ ap (λ p. cut_of p.rest) (sym (pieces-more bs c h.0))
]

pub ended-push : (bs : List ℕ) (c : ℕ) → ended_cuts (bs ++ c ∷ []) ≡ ended_cuts bs ++ option_to_list (cut_ended_by (pending bs) c)
ended-push bs c = elim (eqb_tells c 10) [
  | inl h ↦ subst (λ (k : ℕ). ended_cuts (bs ++ k ∷ []) ≡ ended_cuts bs ++ option_to_list (cut_ended_by (pending bs) k)) (sym h.1)
      (ap (λ p. map cut_of p.ended) (pieces-line_feed bs) ∙ map-append cut_of (pieces bs).ended ((pieces bs).rest ∷ []))
  | inr h ↦ ap (λ p. map cut_of p.ended) (pieces-more bs c h.0) ∙ sym (append-nil (ended_cuts bs)) ∙ ap (λ b. ended_cuts bs ++ option_to_list (cond b (Some (pending bs)) None)) (sym h.0)
]

-- ---- more bytes, none of them a line feed

abbrev pub HasNone : List ℕ → Type 0
HasNone cs = (k : ℕ) → k < length cs → get_or cs k 0 ≢ 10

has-none-rest : (c : ℕ) (cs : List ℕ) → HasNone (c ∷ cs) → HasNone cs
has-none-rest c cs none k h = none (suc k) (omega arith)

abbrev lengthened_by : Pieces → List ℕ → Pieces
lengthened_by p cs = record { ended = p.ended; rest = p.rest ++ cs }

no-line_feed : (c : ℕ) → c ≢ 10 → nat_eq c 10 ≡ false
no-line_feed c other = elim (eqb_tells c 10) [ inl h ↦ absurd (other h.1) | inr h ↦ h.0 ]

pieces-grown_cut : (bs cs : List ℕ) → HasNone cs → pieces (bs ++ cs) ≡ lengthened_by (pieces bs) cs
pieces-grown_cut bs [] none = ap pieces (append-nil bs) ∙ ap (λ r. record { ended = (pieces bs).ended; rest = r }) (sym (append-nil (pieces bs).rest))
pieces-grown_cut bs (c ∷ cs) none =
    ap pieces (sym (append_assoc bs (c ∷ []) cs))
    ∙ pieces-grown_cut (bs ++ c ∷ []) cs (has-none-rest c cs none)
    ∙ ap (λ p. lengthened_by p cs) (pieces-more bs c (no-line_feed c (none 0 (omega arith))))
    ∙ ap (λ r. record { ended = (pieces bs).ended; rest = r }) (append_assoc (pieces bs).rest (c ∷ []) cs)

cut_of-lengthened_cut : (line cs : List ℕ) → lengthened_cut (cut_of line) cs ≡ cut_of (line ++ cs)
cut_of-lengthened_cut line cs =
    let len = length-append line cs in
    elim (cases_Bool (nat_le (length line) 64)) [
      | inl fits ↦ rw fits refl
      | inr long ↦ rw long (let more : nat_le (length (line ++ cs)) 64 ≡ false = search (rules, tests) in rw more)
    ]

pub pending-lengthened_cut : (bs cs : List ℕ) → HasNone cs → lengthened_cut (pending bs) cs ≡ pending (bs ++ cs)
pending-lengthened_cut bs cs none = cut_of-lengthened_cut (pieces bs).rest cs ∙ ap (λ p. cut_of p.rest) (sym (pieces-grown_cut bs cs none))

pub ended-lengthened_cut : (bs cs : List ℕ) → HasNone cs → ended_cuts (bs ++ cs) ≡ ended_cuts bs
ended-lengthened_cut bs cs none = ap (λ p. map cut_of p.ended) (pieces-grown_cut bs cs none)

pub none-before : (bytes : List ℕ) (end : ℕ) → end ≤ length bytes → ((k : ℕ) → k < end → get_or bytes k 0 ≢ 10) → HasNone (take end bytes)
none-before bytes end within none k h =
    let n = length-take-le end bytes within in
    let before : k < end = omega arith in
    λ e. none k before (sym (get_or-take end bytes k 0 before) ∙ e)

-- the bytes up to a line feed and that one, after others
pub to-line_feed : (before bytes : List ℕ) (end : ℕ) → end < length bytes → get_or bytes end 0 ≡ 10
    → (before ++ take end bytes) ++ 10 ∷ [] ≡ before ++ take (end + 1) bytes
to-line_feed before bytes end within is =
    append_assoc before (take end bytes) (10 ∷ [])
    ∙ ap (λ l. before ++ l) (ap (λ c. take end bytes ++ c ∷ []) (sym is) ∙ sym (take_more bytes end 0 within))

-- after the bytes before a line feed, the cutter has what is pending, and no line has ended
pub held-before : (self new : Cut) (before bytes : List ℕ) (end : ℕ) → end ≤ length bytes → ((k : ℕ) → k < end → get_or bytes k 0 ≢ 10)
    → new ≡ lengthened_cut self (take end bytes) → self ≡ pending before → new ≡ pending (before ++ take end bytes)
held-before self new before bytes end within none e h =
    e ∙ ap (λ v. lengthened_cut v (take end bytes)) h ∙ pending-lengthened_cut before (take end bytes) (none-before bytes end within none)

pub ended-before : (before bytes : List ℕ) (end : ℕ) → end ≤ length bytes → ((k : ℕ) → k < end → get_or bytes k 0 ≢ 10)
    → ended_cuts (before ++ take end bytes) ≡ ended_cuts before
ended-before before bytes end within none = ended-lengthened_cut before (take end bytes) (none-before bytes end within none)
