-- The lines of the bytes read and of the bytes sent.
use Rattle.std.proofs.Common.{◌≡◌, ℕ, ◌<◌, ◌≤◌, nat_le, false, cond, List, [], ◌∷◌, ◌++◌, length, map, take, drop, inl, inr, refl, sym, ap, ◌∙◌, subst, append_assoc, take-append-drop, length-take-le, arith, Option, append-nil, take_all, option_to_list}
use Rattle.std.proofs.lemmas.Bool.{cases_Bool}
use Rattle.std.proofs.lemmas.Bool.Decides.{nat_tests}
use Rattle.std.specs.Io.KnownBytes.{IsAtEnd}
use Rattle.modes_frame.specs.declared.cutter.Cut.{Cut}
use Rattle.modes_frame.specs.declared.cutter.Cut.TheVariants.{Whole, TooLong}
use Rattle.modes_frame.specs.Lines.{pieces, cut_of, cuts, ended_cuts, last_line, pending, cut_after, cut_ended_by}
use Rattle.modes_frame.proofs.LineLemmas.{none-before, pieces-line_feed, pending-push, ended-push, pending-lengthened_cut, ended-lengthened_cut}
use Rattle.station_lines.proofs.DrawingLemmas.{cuts-ended}
use Rattle.station_portions.proofs.Common.{AreLines, HasNoLineFeed, IsBorder, longest_kept, bytes_of_messages, bytes_of_batch, ReadsOn, ended_line, KeepsLines, SendsOn, SendsPath, SentSoFar, Batch, Message, Lines, Over}
use Rattle.std.proofs.KnownBytes.{Consumes-nil, Consumes-trans}
use Rattle.station_portions.specs.declared.message.PathEnd.TheVariants.{AtEnd, ReadFailed}
use Rattle.station_portions.proofs.GivingLemmas.{ends_border}

-- the same bytes after others that begin the same line
pub record SameWalk (r h b : List ℕ) : Type 0 where
  pub more : List Cut
  pub first : ended_cuts (r ++ b) ≡ ended_cuts r ++ more
  pub second : ended_cuts (h ++ b) ≡ ended_cuts h ++ more
  pub begun : pending (h ++ b) ≡ pending (r ++ b)

pub same_walk : (r h b : List ℕ) → pending h ≡ pending r → SameWalk r h b
same_walk r h [] p = record {
  more = [];
  first = ap ended_cuts (append-nil r) ∙ sym (append-nil (ended_cuts r));
  second = ap ended_cuts (append-nil h) ∙ sym (append-nil (ended_cuts h));
  begun = ap pending (append-nil h) ∙ p ∙ sym (ap pending (append-nil r));
}
same_walk r h (c ∷ cs) p =
    let q : pending (h ++ c ∷ []) ≡ pending (r ++ c ∷ []) = sym (pending-push h c) ∙ ap (λ k. cut_after k c) p ∙ pending-push r c in
    let w = same_walk (r ++ c ∷ []) (h ++ c ∷ []) cs q in
    record {
      more = option_to_list (cut_ended_by (pending r) c) ++ w.more;
      first = ap ended_cuts (sym (append_assoc r (c ∷ []) cs)) ∙ w.first ∙ ap (λ l. l ++ w.more) (ended-push r c)
          ∙ append_assoc (ended_cuts r) (option_to_list (cut_ended_by (pending r) c)) w.more;
      second = ap ended_cuts (sym (append_assoc h (c ∷ []) cs)) ∙ w.second ∙ ap (λ l. l ++ w.more) (ended-push h c)
          ∙ append_assoc (ended_cuts h) (option_to_list (cut_ended_by (pending h) c)) w.more
          ∙ ap (λ k. ended_cuts h ++ (option_to_list (cut_ended_by k c) ++ w.more)) p;
      begun = ap pending (sym (append_assoc h (c ∷ []) cs)) ∙ w.begun ∙ ap pending (append_assoc r (c ∷ []) cs);
    }

-- at a border no line is begun
pub border_pending : (xs : List ℕ) → IsBorder xs → pending [] ≡ pending xs
border_pending xs (inl none) = ap pending (sym none)
border_pending xs (inr (front, is)) = sym (ap pending is ∙ ap (λ p. cut_of p.rest) (pieces-line_feed front))

pub ended_border : (xs ys : List ℕ) → IsBorder xs → ended_cuts (xs ++ ys) ≡ ended_cuts xs ++ ended_cuts ys
ended_border xs ys border =
    let w = same_walk xs [] ys (border_pending xs border) in w.first ∙ ap (λ l. ended_cuts xs ++ l) (sym w.second)

pub pending_border : (xs ys : List ℕ) → IsBorder xs → pending ys ≡ pending (xs ++ ys)
pending_border xs ys border = (same_walk xs [] ys (border_pending xs border)).begun

-- ---- what a reader sends

-- more bytes were read
pub keeps_read : (read sent held bytes : List ℕ) → KeepsLines read sent held → KeepsLines (read ++ bytes) sent (held ++ bytes)
keeps_read read sent held bytes f =
    let w = same_walk read held bytes f.begun in
    record {
      lines = w.first ∙ ap (λ l. l ++ w.more) f.lines ∙ append_assoc (ended_cuts sent) (ended_cuts held) w.more
          ∙ ap (λ l. ended_cuts sent ++ l) (sym w.second);
      begun = w.begun;
    }

-- what a line feed ends is sent
pub keeps_front : (read sent held front rest : List ℕ) → IsBorder sent → IsBorder front → held ≡ front ++ rest → KeepsLines read sent held
    → KeepsLines read (sent ++ front) rest
keeps_front read sent held front rest border line is f = record {
  lines = f.lines ∙ ap (λ l. ended_cuts sent ++ ended_cuts l) is ∙ ap (λ l. ended_cuts sent ++ l) (ended_border front rest line)
      ∙ sym (append_assoc (ended_cuts sent) (ended_cuts front) (ended_cuts rest))
      ∙ ap (λ l. l ++ ended_cuts rest) (sym (ended_border sent front border));
  begun = pending_border front rest line ∙ ap pending (sym is) ∙ f.begun;
}

-- a line that is begun, without a line feed
pub none_ended : (held : List ℕ) → HasNoLineFeed held → ended_cuts held ≡ []
none_ended held none = ended-lengthened_cut [] held none

pub none_pending : (held : List ℕ) → HasNoLineFeed held → pending held ≡ cut_of held
none_pending held none = sym (pending-lengthened_cut [] held none)

too_long : (xs : List ℕ) → 64 < length xs → cut_of xs ≡ TooLong
too_long xs long = let h : nat_le (length xs) 64 ≡ false = grind (arith, nat_tests) in ap (λ b. cond b (Whole xs) TooLong) h

none_taken : (held : List ℕ) (n : ℕ) → n ≤ length held → HasNoLineFeed held → HasNoLineFeed (take n held)
none_taken held n within none = none-before held n within (λ k less. none k (omega arith))

-- the end of a line that is too long is dropped
pub keeps_short : (read sent held : List ℕ) → HasNoLineFeed held → KeepsLines read sent held → KeepsLines read sent (take longest_kept held)
keeps_short read sent held none f = elim (cases_Bool (nat_le (length held) longest_kept)) [
  | inl short ↦ subst (KeepsLines read sent) (sym (take_all longest_kept held (grind (arith, nat_tests, short)))) f
  | inr long ↦
      let many : longest_kept ≤ length held = grind (arith, nat_tests, long) in
      let more : longest_kept < length held = grind (arith, nat_tests, long) in
      let none' = none_taken held longest_kept many none in
      let few = length-take-le longest_kept held many in
      record {
        lines = f.lines ∙ ap (λ l. ended_cuts sent ++ l) (none_ended held none ∙ sym (none_ended (take longest_kept held) none'));
        begun = none_pending (take longest_kept held) none' ∙ too_long (take longest_kept held) (omega arith)
            ∙ sym (too_long held (omega arith)) ∙ sym (none_pending held none) ∙ f.begun;
      }
]

-- at a border all lines are ended
pub cuts_border : (xs : List ℕ) → IsBorder xs → cuts xs ≡ ended_cuts xs
cuts_border xs (inl none) = rw none refl
cuts_border xs (inr (front, is)) =
    let e : (pieces xs).rest ≡ [] = ap (λ l. (pieces l).rest) is ∙ ap (λ p. p.rest) (pieces-line_feed front) in
    ap (λ l. map cut_of ((pieces xs).ended ++ last_line l)) e ∙ ap (map cut_of) (append-nil (pieces xs).ended)

-- a line with a byte is not the empty one
some_cut : (c : ℕ) (cs : List ℕ) → cut_of [] ≡ cut_of (c ∷ cs) → ⊥
some_cut c cs is = elim (cases_Bool (nat_le (length (c ∷ cs)) 64)) [
  | inl fits ↦ let e : Whole [] ≡ Whole (c ∷ cs) = is ∙ ap (λ b. cond b (Whole (c ∷ cs)) TooLong) fits in cc
  | inr long ↦ let e : Whole [] ≡ TooLong = is ∙ ap (λ b. cond b (Whole (c ∷ cs)) TooLong) long in cc
]

no_last : (rest : List ℕ) → cut_of [] ≡ cut_of rest → map cut_of (last_line rest) ≡ []
no_last [] is = refl
no_last (c ∷ cs) is = absurd (some_cut c cs is)

one_last : (c : ℕ) (cs rest : List ℕ) → cut_of (c ∷ cs) ≡ cut_of rest → map cut_of (last_line rest) ≡ cut_of (c ∷ cs) ∷ []
one_last c cs [] is = absurd (some_cut c cs (sym is))
one_last c cs (d ∷ ds) is = ap (λ k. k ∷ []) (sym is)

-- the last line is ended
pub line_ended : (read sent held : List ℕ) → IsBorder sent → HasNoLineFeed held → KeepsLines read sent held → cuts (sent ++ ended_line held) ≡ cuts read
line_ended read sent [] border none f =
    ap cuts (append-nil sent) ∙ cuts_border sent border ∙ sym (append-nil (ended_cuts sent)) ∙ sym f.lines
    ∙ sym (append-nil (ended_cuts read)) ∙ ap (λ l. ended_cuts read ++ l) (sym (no_last (pieces read).rest f.begun))
    ∙ sym (cuts-ended read)
line_ended read sent (c ∷ cs) border none f =
    let held = c ∷ cs in
    let last = held ++ 10 ∷ [] in
    let ends : IsBorder (sent ++ last) = inr (sent ++ held, sym (append_assoc sent held (10 ∷ []))) in
    let begun : cut_of held ≡ pending read = sym (none_pending held none) ∙ f.begun in
    cuts_border (sent ++ last) ends ∙ ended_border sent last border
    ∙ ap (λ l. ended_cuts sent ++ l) (ended-push held 10)
    ∙ sym (append_assoc (ended_cuts sent) (ended_cuts held) (pending held ∷ []))
    ∙ ap (λ l. l ++ pending held ∷ []) (sym f.lines)
    ∙ ap (λ k. ended_cuts read ++ k ∷ []) (none_pending held none)
    ∙ ap (λ l. ended_cuts read ++ l) (sym (one_last c cs (pieces read).rest begun))
    ∙ sym (cuts-ended read)

-- ---- what was sent

pub bytes_of_messages-append : (xs ys : List Message) → bytes_of_messages (xs ++ ys) ≡ bytes_of_messages xs ++ bytes_of_messages ys
bytes_of_messages-append [] ys = refl
bytes_of_messages-append (Lines batch ∷ xs) ys =
    ap (λ l. bytes_of_batch batch ++ l) (bytes_of_messages-append xs ys) ∙ sym (append_assoc (bytes_of_batch batch) (bytes_of_messages xs) (bytes_of_messages ys))
bytes_of_messages-append (Over end ∷ xs) ys = bytes_of_messages-append xs ys

pub AreLines-append : (xs ys : List Message) → AreLines xs → AreLines ys → AreLines (xs ++ ys)
AreLines-append [] ys a b = b
AreLines-append (Lines batch ∷ xs) ys a b = AreLines-append xs ys a b
AreLines-append (Over end ∷ xs) ys a b = absurd a

-- a batch was sent
pub sends_batch : (before after : List Message) (batch : Batch) (held rest : List ℕ) (border : ℕ) → after ≡ before ++ Lines batch ∷ []
    → bytes_of_batch batch ≡ take border held → rest ≡ drop border held → SendsOn before after held rest
sends_batch before after batch held rest border is front back = record {
  more = Lines batch ∷ [];
  after_is = is;
  only = tt;
  keeps = λ read sent at f.
      keeps_front read sent held (bytes_of_batch batch ++ []) rest at (ends_border (Lines batch ∷ []))
      (sym (take-append-drop border held) ∙ ap (λ l. l ++ drop border held) (sym front ∙ sym (append-nil (bytes_of_batch batch)))
      ∙ ap (λ l. (bytes_of_batch batch ++ []) ++ l) (sym back)) f;
}

-- and the end of a line that is too long was dropped
pub sends_shorter : (before after : List Message) (held mid rest : List ℕ) → HasNoLineFeed mid → rest ≡ take longest_kept mid → SendsOn before after held mid
    → SendsOn before after held rest
sends_shorter before after held mid rest none is on = record {
  more = on.more;
  after_is = on.after_is;
  only = on.only;
  keeps = λ read sent at f.
      subst (λ l. KeepsLines read (sent ++ bytes_of_messages on.more) l) (sym is) (keeps_short read (sent ++ bytes_of_messages on.more) mid none (on.keeps read sent at f));
}

pub none_shorter : (mid rest : List ℕ) → HasNoLineFeed mid → rest ≡ take longest_kept mid → HasNoLineFeed rest
none_shorter mid rest none is = elim (cases_Bool (nat_le (length mid) longest_kept)) [
  | inl short ↦ subst HasNoLineFeed (sym (is ∙ take_all longest_kept mid (grind (arith, nat_tests, short)))) none
  | inr long ↦ subst HasNoLineFeed (sym is) (none_taken mid longest_kept (grind (arith, nat_tests, long)) none)
]

-- ---- up to the end

-- nothing was read so far
pub so_far_nothing : (left : Option (List ℕ)) (before : List Message) (held : List ℕ) → held ≡ [] → SentSoFar left left before before held
so_far_nothing left before held none = record {
  read = [];
  more = [];
  given = Consumes-nil left;
  after_is = sym (append-nil before);
  only = tt;
  keeps = subst (KeepsLines [] []) (sym none) (record { lines = refl; begun = refl });
}

-- more was read
pub so_far_read : (left mid new : Option (List ℕ)) (before after : List Message) (held now : List ℕ) (n : ℕ) → SentSoFar left mid before after held
    → ReadsOn mid new held now n → SentSoFar left new before after now
so_far_read left mid new before after held now n so_far on = record {
  read = so_far.read ++ on.bytes;
  more = so_far.more;
  given = Consumes-trans left mid new so_far.read on.bytes so_far.given on.given;
  after_is = so_far.after_is;
  only = so_far.only;
  keeps = subst (KeepsLines (so_far.read ++ on.bytes) (bytes_of_messages so_far.more)) (sym on.held)
      (keeps_read so_far.read (bytes_of_messages so_far.more) held on.bytes so_far.keeps);
}

-- and sent
pub so_far_sent : (left new : Option (List ℕ)) (before mid after : List Message) (held now : List ℕ) → SentSoFar left new before mid held
    → SendsOn mid after held now → SentSoFar left new before after now
so_far_sent left new before mid after held now so_far on = record {
  read = so_far.read;
  more = so_far.more ++ on.more;
  given = so_far.given;
  after_is = on.after_is ∙ ap (λ l. l ++ on.more) so_far.after_is ∙ append_assoc before so_far.more on.more;
  only = AreLines-append so_far.more on.more so_far.only on.only;
  keeps = subst (λ l. KeepsLines so_far.read l now) (sym (bytes_of_messages-append so_far.more on.more))
      (on.keeps so_far.read (bytes_of_messages so_far.more) (ends_border so_far.more) so_far.keeps);
}

-- the path has ended: its last line was ended and sent
pub path_sent : (left new : Option (List ℕ)) (before mid after : List Message) (held rest : List ℕ) → SentSoFar left new before mid held → HasNoLineFeed held
    → SendsOn mid after (ended_line held) rest → HasNoLineFeed rest → IsAtEnd new → SendsPath left new before after AtEnd
path_sent left new before mid after held rest so_far none on none' over =
    let sent = bytes_of_messages so_far.more in
    let last = ended_line held in
    let border = ends_border so_far.more in
    let own : KeepsLines (sent ++ last) sent last = record { lines = ended_border sent last border; begun = pending_border sent last border } in
    let done = on.keeps (sent ++ last) sent border own in
    let ends = border_last sent held border in
    record {
      read = so_far.read;
      more = so_far.more ++ on.more;
      given = so_far.given;
      after_is = on.after_is ∙ ap (λ l. l ++ on.more) so_far.after_is ∙ append_assoc before so_far.more on.more;
      only = AreLines-append so_far.more on.more so_far.only on.only;
      lines = cuts_border (bytes_of_messages (so_far.more ++ on.more)) (ends_border (so_far.more ++ on.more))
          ∙ ap ended_cuts (bytes_of_messages-append so_far.more on.more)
          ∙ sym (append-nil (ended_cuts (sent ++ bytes_of_messages on.more)))
          ∙ ap (λ l. ended_cuts (sent ++ bytes_of_messages on.more) ++ l) (sym (none_ended rest none'))
          ∙ sym done.lines
          ∙ sym (cuts_border (sent ++ last) ends)
          ∙ line_ended so_far.read sent held border none so_far.keeps;
      over = λ _. over;
    }
  where
    border_last : (sent held : List ℕ) → IsBorder sent → IsBorder (sent ++ ended_line held)
    border_last sent [] border = subst IsBorder (sym (append-nil sent)) border
    border_last sent (c ∷ cs) border = inr (sent ++ c ∷ cs, sym (append_assoc sent (c ∷ cs) (10 ∷ [])))

failed_there : ReadFailed ≡ AtEnd → ⊥
failed_there e = cc

-- a read failed
pub sent_up_to_failure : (left new : Option (List ℕ)) (before after : List Message) (held : List ℕ) → SentSoFar left new before after held
    → HasNoLineFeed held → SendsPath left new before after ReadFailed
sent_up_to_failure left new before after held so_far none = record {
  read = so_far.read;
  more = so_far.more;
  given = so_far.given;
  after_is = so_far.after_is;
  only = so_far.only;
  lines = cuts_border (bytes_of_messages so_far.more) (ends_border so_far.more)
      ∙ sym (append-nil (ended_cuts (bytes_of_messages so_far.more)))
      ∙ ap (λ l. ended_cuts (bytes_of_messages so_far.more) ++ l) (sym (none_ended held none))
      ∙ sym so_far.keeps.lines;
  over = λ e. absurd (failed_there e);
}

same_last : (one other : List ℕ) → cut_of one ≡ cut_of other → map cut_of (last_line one) ≡ map cut_of (last_line other)
same_last [] other is = sym (no_last other is)
same_last (c ∷ cs) other is = sym (one_last c cs other is)

-- portions that end at a border have the lines of the whole
pub cuts_portions : (front rest : List ℕ) → IsBorder front → cuts (front ++ rest) ≡ cuts front ++ cuts rest
cuts_portions front rest border =
    cuts-ended (front ++ rest)
    ∙ ap (λ l. l ++ map cut_of (last_line (pieces (front ++ rest)).rest)) (ended_border front rest border)
    ∙ append_assoc (ended_cuts front) (ended_cuts rest) (map cut_of (last_line (pieces (front ++ rest)).rest))
    ∙ ap (λ l. ended_cuts front ++ (ended_cuts rest ++ l)) (sym (same_last (pieces rest).rest (pieces (front ++ rest)).rest (pending_border front rest border)))
    ∙ ap (λ l. ended_cuts front ++ l) (sym (cuts-ended rest))
    ∙ ap (λ l. l ++ cuts rest) (sym (cuts_border front border))

pub none_in_nothing : (held : List ℕ) → held ≡ [] → HasNoLineFeed held
none_in_nothing held none k less is = absurd (omega (arith, ap length none))
