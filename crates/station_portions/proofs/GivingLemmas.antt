-- The bytes of batches, given one part after another.
use Rattle.std.proofs.Common.{rules, ◌≡◌, ℕ, ◌+◌, ◌-◌, ◌<◌, ◌≤◌, ◌⊎◌, false, is_some, Option, Some, None, inl, inr, List, [], ◌∷◌, ◌++◌, length, take, drop, nat_lt, not, true, refl, sym, ap, ◌∙◌, subst, append_assoc, take-append-drop, length-append, arith}
use Rattle.std.proofs.lemmas.List.{length-take-le, take_at, drop-drop, drop-take, take-take, append-nil, nil_from_length, take_more}
use Rattle.std.proofs.lemmas.Bool.Decides.{nat_tests}
use Rattle.station_portions.specs.Messages.{end_of, last_end}
use Rattle.station_portions.proofs.Common.{IsBorder, bytes_of_messages, bytes_of_batch, bytes_before, Batch, Message, PathEnd, Lines, Over}

-- the next bytes of a batch, copied before others
pub give_split : (room : List ℕ) (count at n : ℕ) (copied rest : List ℕ) → length copied ≡ n → at + n ≤ count → copied ≡ take n (drop at room)
    → drop at (take count room) ≡ take n (copied ++ rest) ++ drop (at + n) (take count room)
give_split room count at n copied rest many within is =
    let bytes = take count room in
    let same : count ≡ at + (count - at) = omega arith in
    let whole : drop at bytes ≡ take (count - at) (drop at room) = ap (λ k. drop at (take k room)) same ∙ drop-take at (count - at) room in
    let front : take n (drop at bytes) ≡ take n (drop at room) = ap (take n) whole ∙ take-take n (count - at) (drop at room) (omega arith) in
    sym (take-append-drop n (drop at bytes))
    ∙ ap (λ l. l ++ drop n (drop at bytes)) (front ∙ sym is ∙ sym (take_at copied rest n many))
    ∙ ap (λ l. take n (copied ++ rest) ++ l) (drop-drop n at bytes)

-- the bytes before the last ones
pub before_rest : (all held before : List ℕ) → before ++ held ≡ all → take (length all - length held) all ≡ before
before_rest all held before is =
    let many : length (before ++ held) - length held ≡ length before = omega (arith, length-append before held) in
    ap (λ l. take (length l - length held) l) (sym is) ∙ ap (λ k. take k (before ++ held)) many ∙ take_at before held (length before) refl

-- one more message
pub bytes_of_messages-more : (all : List Message) (x : Message) → bytes_of_messages (all ++ x ∷ []) ≡ bytes_of_messages all ++ bytes_of_messages (x ∷ [])
bytes_of_messages-more [] x = refl
bytes_of_messages-more (Lines batch ∷ all) x =
    ap (λ l. bytes_of_batch batch ++ l) (bytes_of_messages-more all x) ∙ sym (append_assoc (bytes_of_batch batch) (bytes_of_messages all) (bytes_of_messages (x ∷ [])))
bytes_of_messages-more (Over end ∷ all) x = bytes_of_messages-more all x

-- no bytes are left, so all were given
pub given_all : (all : List Message) → bytes_before all [] ≡ bytes_of_messages all
given_all all = before_rest (bytes_of_messages all) [] (bytes_of_messages all) (append-nil (bytes_of_messages all))

-- a batch that was received
pub refilled : (all : List Message) (batch : Batch) → bytes_before (all ++ Lines batch ∷ []) (bytes_of_batch batch) ≡ bytes_of_messages all
refilled all batch =
    before_rest (bytes_of_messages (all ++ Lines batch ∷ [])) (bytes_of_batch batch) (bytes_of_messages all)
    (ap (λ l. bytes_of_messages all ++ l) (sym (append-nil (bytes_of_batch batch))) ∙ sym (bytes_of_messages-more all (Lines batch)))

-- some of the bytes left are given
pub given_more : (all : List Message) (held part rest : List ℕ) → bytes_before all held ++ held ≡ bytes_of_messages all → held ≡ part ++ rest
    → bytes_before all rest ≡ bytes_before all held ++ part
given_more all held part rest kept is =
    before_rest (bytes_of_messages all) rest (bytes_before all held ++ part)
    (append_assoc (bytes_before all held) part rest ∙ ap (λ l. bytes_before all held ++ l) (sym is) ∙ kept)

-- the bytes given and the bytes left are all bytes, also after some were given
pub kept_more : (all : List Message) (held part rest : List ℕ) → bytes_before all held ++ held ≡ bytes_of_messages all → held ≡ part ++ rest
    → bytes_before all rest ++ rest ≡ bytes_of_messages all
kept_more all held part rest kept is =
    ap (λ l. l ++ rest) (given_more all held part rest kept is)
    ∙ append_assoc (bytes_before all held) part rest
    ∙ ap (λ l. bytes_before all held ++ l) (sym is)
    ∙ kept

-- the bytes of a batch end a line
pub load_ends : (batch : Batch) → (front : List ℕ) × (bytes_of_batch batch ≡ front ++ 10 ∷ [])
load_ends batch =
    let last = batch.count - 1 in
    let same : batch.count ≡ last + 1 = omega (arith, batch.whole) in
    let more = take_more batch.buffer.bytes.items last 0 (omega (arith, batch.within, batch.whole, batch.buffer.size)) in (
      take last batch.buffer.bytes.items,
      ap (λ k. take k batch.buffer.bytes.items) same ∙ more ∙ ap (λ b. take last batch.buffer.bytes.items ++ b ∷ []) batch.whole.1,
    )

after_load : (batch : Batch) (rest : List ℕ) → IsBorder rest → IsBorder (bytes_of_batch batch ++ rest)
after_load batch rest (inl none) =
    inr ((load_ends batch).0, ap (λ l. bytes_of_batch batch ++ l) none ∙ append-nil (bytes_of_batch batch) ∙ (load_ends batch).1)
after_load batch rest (inr (front, is)) =
    inr (bytes_of_batch batch ++ front, ap (λ l. bytes_of_batch batch ++ l) is ∙ sym (append_assoc (bytes_of_batch batch) front (10 ∷ [])))

-- and so do those of all batches
pub ends_border : (all : List Message) → IsBorder (bytes_of_messages all)
ends_border [] = inl refl
ends_border (Lines batch ∷ all) = after_load batch (bytes_of_messages all) (ends_border all)
ends_border (Over end ∷ all) = ends_border all

-- the same for a batch that was received after others
pub kept_refilled : (old new : List Message) (batch : Batch) → new ≡ old ++ Lines batch ∷ [] → bytes_before new (bytes_of_batch batch) ++ bytes_of_batch batch ≡ bytes_of_messages new
kept_refilled old new batch is =
    rw is
    (ap (λ l. l ++ bytes_of_batch batch) (refilled old batch)
    ∙ ap (λ l. bytes_of_messages old ++ l) (sym (append-nil (bytes_of_batch batch)))
    ∙ sym (bytes_of_messages-more old (Lines batch)))

pub given_refilled : (old new : List Message) (held : List ℕ) (batch : Batch) → held ≡ [] → new ≡ old ++ Lines batch ∷ []
    → bytes_before new (bytes_of_batch batch) ≡ bytes_before old held
given_refilled old new held batch none is = rw (is, none) (refilled old batch ∙ sym (given_all old))

-- and of the end that was received
pub given_over : (old new : List Message) (held now : List ℕ) (end : PathEnd) → held ≡ [] → now ≡ [] → new ≡ old ++ Over end ∷ []
    → bytes_before new now ≡ bytes_before old held
given_over old new held now end none still is =
    rw (is, none, still)
    (given_all (old ++ Over end ∷ []) ∙ bytes_of_messages-more old (Over end) ∙ append-nil (bytes_of_messages old) ∙ sym (given_all old))

-- no bytes were given of none, so none are left
pub nothing_left : (held buffer now : List ℕ) (n : ℕ) → n ≡ 0 → held ≡ [] → held ≡ take n buffer ++ now → now ≡ []
nothing_left held buffer now n zero none is =
    let e : held ≡ take 0 buffer ++ now = subst (λ k. held ≡ take k buffer ++ now) zero is in sym e ∙ none

pub border_given : (all : List Message) (now : List ℕ) → now ≡ [] → IsBorder (bytes_before all now)
border_given all now none = rw none (subst IsBorder (sym (given_all all)) (ends_border all))

pub nothing_held : (held : List ℕ) → not (nat_lt 0 (length held)) ≡ true → held ≡ []
nothing_held held none = nil_from_length held (grind (arith, nat_tests))

pub some_held : (held : List ℕ) → not (nat_lt 0 (length held)) ≡ false → 0 < length held
some_held held some = grind (arith, nat_tests)

-- nothing is given where nothing is left
pub nothing_given : (held buffer now : List ℕ) (n : ℕ) → n ≤ length buffer → held ≡ [] → held ≡ take n buffer ++ now → n ≡ 0
nothing_given held buffer now n within none is =
    omega (arith, ap length none, ap length is, length-append (take n buffer) now, length-take-le n buffer within)

-- the last message
pub last_end-more : (all : List Message) (x : Message) → last_end (all ++ x ∷ []) ≡ end_of x
last_end-more [] x = refl
last_end-more (y ∷ []) x = refl
last_end-more (y ∷ z ∷ all) x = last_end-more (z ∷ all) x

-- the end after a batch, and after the message with it
pub end_refilled : (old new : List Message) (batch : Batch) (end : Option PathEnd) → is_some end ≡ false → new ≡ old ++ Lines batch ∷ [] → end ≡ last_end new
end_refilled old new batch None none is = sym (ap last_end is ∙ last_end-more old (Lines batch))
end_refilled old new batch (Some end) none is = absurd (search rules)

-- a path that goes on has no end
pub no_end : (end : Option PathEnd) (last : PathEnd) → is_some end ≡ false → end ≡ Some last → ⊥
no_end None last none is = absurd (search rules)
no_end (Some end) last none is = absurd (search rules)

pub end_over : (old new : List Message) (end : PathEnd) → new ≡ old ++ Over end ∷ [] → Some end ≡ last_end new
end_over old new end is = sym (ap last_end is ∙ last_end-more old (Over end))

pub kept_over : (old new : List Message) (held : List ℕ) (end : PathEnd) → held ≡ [] → new ≡ old ++ Over end ∷ [] → bytes_before new held ++ held ≡ bytes_of_messages new
kept_over old new held end none is = rw none (append-nil (bytes_before new []) ∙ given_all new)

-- a batch has bytes
pub some_refilled : (batch : Batch) → 0 < length (drop 0 (bytes_of_batch batch))
some_refilled batch = omega (arith, batch.whole, batch.within, batch.buffer.size, length-take-le batch.count batch.buffer.bytes.items (omega (arith, batch.within, batch.buffer.size)))

-- all was taken and given
pub gave_whole : (taken known all : List Message) (held : List ℕ) → taken ++ known ≡ all → length known ≡ 0 → held ≡ [] → (taken ≡ all) × (bytes_before taken held ≡ bytes_of_messages all)
gave_whole taken known all held fifo none given =
    let same : taken ≡ all = sym (append-nil taken) ∙ ap (λ l. taken ++ l) (sym (nil_from_length known none)) ∙ fifo in
    (same, ap (λ h. bytes_before taken h) given ∙ given_all taken ∙ ap bytes_of_messages same)

-- why nothing is given: the path is at its end, or a hand-over was requested
pub why_none : {Q : Type 0} (held : List ℕ) (end now : Option PathEnd) (asked asked_now : Option Q) (last : PathEnd) → held ≡ [] → now ≡ end → asked_now ≡ asked
    → (is_some end ≡ true → end ≡ Some last) → ((0 < length held) ⊎ ((is_some end ≡ true) ⊎ (is_some asked ≡ true))) → (now ≡ Some last) ⊎ (is_some asked_now ≡ true)
why_none held end now asked asked_now last none same same_asked ended (inl some) = absurd (omega (arith, some, ap length none))
why_none held end now asked asked_now last none same same_asked ended (inr (inl over)) = inl (same ∙ ended over)
why_none held end now asked asked_now last none same same_asked ended (inr (inr requested)) = inr (ap is_some same_asked ∙ requested)
