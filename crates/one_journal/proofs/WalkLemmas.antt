-- What a seat has seen, deed by deed, in the history of a closed station.
use Rattle.std.proofs.Common.{◌≡◌, ◌∙◌, ℕ, ◌+◌, ◌≤◌, Bool, cond, eqb, zero, suc, List, [], ◌∷◌, ◌++◌, Result, Ok, Err, drop, length, refl, sym, ap, append_assoc, append-nil, length-append, eq-eqb, arith}
use mathlib.Core.List.{IsPrefix}
use Rattle.std.proofs.lemmas.List.Elements.{filter-append}
use Rattle.station_journal.specs.declared.entry.Entry.{Entry}
use Rattle.station_journal.specs.declared.refusal.Refusal.{Refusal}
use Rattle.station_journal.specs.Log.{refusal_of}
use Rattle.station_history.specs.Start.{Start, log_of}
use Rattle.station_shared.specs.Seats.{own_entries, seat_of}
use Rattle.one_journal.specs.Merge.{Deed, Called, Saw, DoesIn, accepted_in, entry_added, entries_of_seat, verdict_on}

-- ---- lists that begin with others

pub begins-same : (a b : List Entry) → a ≡ b → IsPrefix a b
begins-same a b same = ([], append-nil a ∙ same)

pub begins-trans : (a b c : List Entry) → IsPrefix a b → IsPrefix b c → IsPrefix a c
begins-trans a b c p q = (p.0 ++ q.0, sym (append_assoc a p.0 q.0) ∙ ap (λ (es : List Entry). es ++ q.0) p.1 ∙ q.1)

pub longer : (a b : List Entry) → IsPrefix a b → length a ≤ length b
longer a b p = omega (arith, length-append a p.0, ap {B = ℕ} (λ (es : List Entry). length es) p.1)

-- a list that begins with another and is no longer is the other
pub same-length : (a b : List Entry) → IsPrefix a b → length b ≤ length a → b ≡ a
same-length a b p few = sym p.1 ∙ ap (λ (es : List Entry). a ++ es) (none p.0 (omega (arith, length-append a p.0, ap {B = ℕ} (λ (es : List Entry). length es) p.1, few))) ∙ append-nil a
  where
    none : (es : List Entry) → length es ≤ 0 → es ≡ []
    none [] short = refl
    none (e ∷ es) short = absurd (omega (arith, short))

pub dropped-prefix : (k : ℕ) (xs ys : List Entry) → IsPrefix xs ys → IsPrefix (drop k xs) (drop k ys)
dropped-prefix zero xs ys p = p
dropped-prefix (suc k) [] ys p = (drop (suc k) ys, refl)
dropped-prefix (suc k) (x ∷ xs) [] p = absurd (cc (p.1))
dropped-prefix (suc k) (x ∷ xs) (y ∷ ys) p = dropped-prefix k xs ys (p.0, cc (p.1))

pub dropped-append : (k : ℕ) (xs ys : List Entry) → k ≤ length xs → drop k (xs ++ ys) ≡ drop k xs ++ ys
dropped-append zero xs ys few = refl
dropped-append (suc k) [] ys few = absurd (omega (arith, few))
dropped-append (suc k) (x ∷ xs) ys few = dropped-append k xs ys (omega (arith, few))

-- ---- the entries of a seat

pub own-prefix : (start : Start) (seat : ℕ) (xs ys : List Entry) → IsPrefix xs ys → IsPrefix (entries_of_seat seat (own_entries start xs)) (entries_of_seat seat (own_entries start ys))
own-prefix start seat xs ys p =
    let q = dropped-prefix start.resumed xs ys p in
    (entries_of_seat seat q.0, sym (filter-append (λ (e : Entry). eqb (seat_of e) seat) (own_entries start xs) q.0) ∙ ap (entries_of_seat seat) q.1)

its-own : (seat : ℕ) (entry : Entry) (answer : Result (Unit {0}) Refusal) → seat_of entry ≡ seat → entries_of_seat seat (entry_added entry answer) ≡ entry_added entry answer
its-own seat entry (Ok taken) is = ap {B = List Entry} (λ (b : Bool). cond b (entry ∷ []) []) (eq-eqb (seat_of entry) seat is)
its-own seat entry (Err refusal) is = refl

pub own-added : (start : Start) (seat : ℕ) (at : List Entry) (entry : Entry) (answer : Result (Unit {0}) Refusal) → start.resumed ≤ length at → seat_of entry ≡ seat
    → entries_of_seat seat (own_entries start (at ++ entry_added entry answer)) ≡ entries_of_seat seat (own_entries start at) ++ entry_added entry answer
own-added start seat at entry answer few is =
    ap (entries_of_seat seat) (dropped-append start.resumed at (entry_added entry answer) few)
    ∙ filter-append (λ (e : Entry). eqb (seat_of e) seat) (own_entries start at) (entry_added entry answer)
    ∙ ap (λ (es : List Entry). entries_of_seat seat (own_entries start at) ++ es) (its-own seat entry answer is)

-- where no seat has more entries in a list than in its beginning, there is no more
pub seen-whole : (start : Start) (seen history : List Entry) → start.resumed ≤ length seen → IsPrefix seen history
    → ((seat : ℕ) → length (entries_of_seat seat (own_entries start history)) ≤ length (entries_of_seat seat (own_entries start seen))) → seen ≡ history
seen-whole start seen history few begins most = sym (append-nil seen) ∙ ap (λ (es : List Entry). seen ++ es) (sym (none begins.0 all)) ∙ begins.1
  where
    all : (seat : ℕ) → length (entries_of_seat seat begins.0) ≤ 0
    all seat =
        let own : List Entry = own_entries start seen in
        let parts = ap (entries_of_seat seat) (sym (dropped-append start.resumed seen begins.0 few) ∙ ap (own_entries start) begins.1) in
        let whole = sym (filter-append (λ (e : Entry). eqb (seat_of e) seat) own begins.0) ∙ parts in
        omega (arith, most seat, ap {B = ℕ} (λ (es : List Entry). length es) whole, length-append (entries_of_seat seat own) (entries_of_seat seat begins.0))

    none : (rest : List Entry) → ((seat : ℕ) → length (entries_of_seat seat rest) ≤ 0) → rest ≡ []
    none [] all = refl
    none (e ∷ rest) all =
        let here = ap {B = List Entry} (λ (b : Bool). cond b (e ∷ entries_of_seat (seat_of e) rest) (entries_of_seat (seat_of e) rest)) (eq-eqb (seat_of e) (seat_of e) refl) in
        absurd (omega (arith, all (seat_of e), ap {B = ℕ} (λ (es : List Entry). length es) here))

-- ---- what a seat has seen

pub accepted-append : (deeds more : List Deed) → accepted_in (deeds ++ more) ≡ accepted_in deeds ++ accepted_in more
accepted-append [] more = refl
accepted-append (Saw at ∷ deeds) more = accepted-append deeds more
accepted-append (Called entry answer ∷ deeds) more =
    ap (λ (es : List Entry). entry_added entry answer ++ es) (accepted-append deeds more) ∙ sym (append_assoc (entry_added entry answer) (accepted_in deeds) (accepted_in more))

-- a seat did this, and saw longer and longer lists, from the first to the last
abbrev pub Walks : Start → (seat : ℕ) → (first : List Entry) → List Deed → (last : List Entry) → Type 0
Walks start seat first [] last = IsPrefix first last
Walks start seat first (Saw table ∷ deeds) last = IsPrefix first table × Walks start seat table deeds last
Walks start seat first (Called entry answer ∷ deeds) last =
    (at : List Entry) × IsPrefix first at × (seat_of entry ≡ seat) × (refusal_of (log_of start at) entry ≡ verdict_on answer)
    × Walks start seat (at ++ entry_added entry answer) deeds last

added : (at : List Entry) (entry : Entry) (answer : Result (Unit {0}) Refusal) → IsPrefix at (at ++ entry_added entry answer)
added at entry answer = (entry_added entry answer, refl)

pub walks-prefix : (start : Start) (seat : ℕ) (first : List Entry) (deeds : List Deed) (last : List Entry) → Walks start seat first deeds last → IsPrefix first last
walks-prefix start seat first [] last walk = walk
walks-prefix start seat first (Saw table ∷ deeds) last walk = begins-trans first table last walk.0 (walks-prefix start seat table deeds last walk.1)
walks-prefix start seat first (Called entry answer ∷ deeds) last walk =
    begins-trans first walk.0 last walk.1 (begins-trans walk.0 (walk.0 ++ entry_added entry answer) last (added walk.0 entry answer)
    (walks-prefix start seat (walk.0 ++ entry_added entry answer) deeds last walk.4))

pub walks-then : (start : Start) (seat : ℕ) (first mid last : List Entry) (deeds more : List Deed) → Walks start seat first deeds mid → Walks start seat mid more last → Walks start seat first (deeds ++ more) last
walks-then start seat first mid last [] more walk rest = from-earlier more walk rest
  where
    from-earlier : (more : List Deed) → IsPrefix first mid → Walks start seat mid more last → Walks start seat first more last
    from-earlier [] p rest = begins-trans first mid last p rest
    from-earlier (Saw table ∷ deeds) p rest = (begins-trans first mid table p rest.0, rest.1)
    from-earlier (Called entry answer ∷ deeds) p rest = (rest.0, begins-trans first mid rest.0 p rest.1, rest.2, rest.3, rest.4)
walks-then start seat first mid last (Saw table ∷ deeds) more walk rest = (walk.0, walks-then start seat table mid last deeds more walk.1 rest)
walks-then start seat first mid last (Called entry answer ∷ deeds) more walk rest =
    (walk.0, walk.1, walk.2, walk.3, walks-then start seat (walk.0 ++ entry_added entry answer) mid last deeds more walk.4 rest)

-- ---- in the history

module _ (start : Start) (history : List Entry) (seat : ℕ) where
  abbrev own : List Entry → List Entry
  own seen = entries_of_seat seat (own_entries start seen)

  -- each accepted call is a further entry of the seat
  pub grows : (first : List Entry) (deeds : List Deed) (last : List Entry) → start.resumed ≤ length first → Walks start seat first deeds last → length (own first) + length (accepted_in deeds) ≤ length (own last)
  grows first [] last few walk = omega (arith, longer (own first) (own last) (own-prefix start seat first last walk))
  grows first (Saw table ∷ deeds) last few walk =
      omega (arith, longer (own first) (own table) (own-prefix start seat first table walk.0), grows table deeds last (omega (arith, few, longer first table walk.0)) walk.1)
  grows first (Called entry answer ∷ deeds) last few walk =
      let at = walk.0 in
      let wide : start.resumed ≤ length at = omega (arith, few, longer first at walk.1) in
      omega (
        arith,
        longer (own first) (own at) (own-prefix start seat first at walk.1),
        ap {B = ℕ} (λ (es : List Entry). length es) (own-added start seat at entry answer wide walk.2),
        length-append (own at) (entry_added entry answer),
        length-append (entry_added entry answer) (accepted_in deeds),
        grows (at ++ entry_added entry answer) deeds last (omega (arith, wide, length-append at (entry_added entry answer))) walk.4,
      )

  -- what is seen on the way has no further entry of the seat, where the history has room for the accepted calls alone
  settled : (before first at last : List Entry) (accepted : ℕ) → IsPrefix first at → own first ≡ before → length (own at) + accepted ≤ length (own last) → IsPrefix last history
      → length (own history) ≤ length before + accepted → own at ≡ before
  settled before first at last accepted p mine up begins most =
      let end = longer (own last) (own history) (own-prefix start seat last history begins) in
      same-length (own first) (own at) (own-prefix start seat first at p) (omega (arith, up, end, most, ap {B = ℕ} (λ (es : List Entry). length es) mine)) ∙ mine

  -- where the history has no more entries of the seat than were accepted, each deed saw just those accepted before it, and
  -- the entries of the seat are its accepted calls in their order
  pub does : (before first : List Entry) (deeds : List Deed) (last : List Entry) → start.resumed ≤ length first → own first ≡ before → IsPrefix last history
      → length (own history) ≤ length before + length (accepted_in deeds) → Walks start seat first deeds last
      → DoesIn start history seat before first deeds × (own history ≡ before ++ accepted_in deeds)
  does before first [] last few mine begins most walk =
      let to = begins-trans first last history walk begins in
      (to, same-length (own first) (own history) (own-prefix start seat first history to) (omega (arith, most, ap {B = ℕ} (λ (es : List Entry). length es) mine)) ∙ mine ∙ sym (append-nil before))
  does before first (Saw table ∷ deeds) last few mine begins most walk =
      let wide : start.resumed ≤ length table = omega (arith, few, longer first table walk.0) in
      let to = begins-trans table last history (walks-prefix start seat table deeds last walk.1) begins in
      let here = settled before first table last (length (accepted_in deeds)) walk.0 mine (grows table deeds last wide walk.1) begins most in
      let rest = does before table deeds last wide here begins most walk.1 in
      ((record { begins = to; later = walk.0; its_own = here }, rest.0), rest.1)
  does before first (Called entry answer ∷ deeds) last few mine begins most walk =
      let at = walk.0 in
      let more = entry_added entry answer in
      let next = at ++ more in
      let wide : start.resumed ≤ length at = omega (arith, few, longer first at walk.1) in
      let wider : start.resumed ≤ length next = omega (arith, wide, length-append at more) in
      let to = begins-trans next last history (walks-prefix start seat next deeds last walk.4) begins in
      let one = own-added start seat at entry answer wide walk.2 in
      let many = length-append more (accepted_in deeds) in
      let up : length (own at) + length (more ++ accepted_in deeds) ≤ length (own last) =
      omega (arith, grows next deeds last wider walk.4, many, ap {B = ℕ} (λ (es : List Entry). length es) one, length-append (own at) more) in
      let here = settled before first at last (length (more ++ accepted_in deeds)) walk.1 mine up begins most in
      let rest = does (before ++ more) next deeds last wider (one ∙ ap (λ (es : List Entry). es ++ more) here) begins (omega (arith, most, many, length-append before more)) walk.4 in
      ((at, record { begins = begins-trans at next history (added at entry answer) to; later = walk.1; its_own = here }, walk.3, rest.0), rest.1 ∙ append_assoc before more (accepted_in deeds))
