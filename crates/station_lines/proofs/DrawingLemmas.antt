-- Bytes of a source, one read after another.
use Rattle.std.proofs.Common.{◌≡◌, ℕ, zero, suc, ◌+◌, ◌*◌, ◌-◌, ◌<◌, ◌≤◌, Bool, true, false, not, List, [], ◌∷◌, ◌++◌, length, take, drop, length-drop, Result, Ok, Err, OnOk, take-append-drop, refl, sym, ap, ◌∙◌, subst, append_assoc, append-nil, length-append, map, arith, option_to_list, take-add}
use Rattle.std.proofs.KnownBytes.{Consumes-nil, Consumes-trans, Consumes-kept, Appends-nil, Appends-trans, Appends-kept}
use Rattle.std.proofs.lemmas.List.{map-append, take_all}
use Rattle.modes_frame.specs.declared.cutter.Cut.{Cut}
use Rattle.modes_frame.specs.Lines.{pieces, cut_of, cuts, last_line, pending, ended_cuts, cut_ended_by}
use Rattle.modes_frame.proofs.LineLemmas.{ended-push}
use Rattle.streams.specs.Sink.{count_after}
use Rattle.streams.proofs.Common.{SourceState, one_more, counted_up}
use Rattle.station_lines.proofs.Common.{longest_read, Gives, GivesNone, IsOver, Gathers, FailsOnce, Ending, AtEnd, ReadFailed, TurnsOver, LineStopped, EndsAs, is_read_failed, TakesEach, StopsWithin, TakesBytes, TakesLast, Taken, ending_as, stopped_as, ended_by}

-- ---- bytes of a source

pub Gives-nil : (a : SourceState) → Gives a a []
Gives-nil a = (Consumes-nil a.left, Appends-nil a.given, refl)

pub Gives-trans : (a b c : SourceState) (bs cs : List ℕ) → Gives a b bs → Gives b c cs → Gives a c (bs ++ cs)
Gives-trans a b c bs cs p q = (Consumes-trans a.left b.left c.left bs cs p.0 q.0, Appends-trans a.given b.given c.given bs cs p.1 q.1, q.2 ∙ p.2)

pub Gives-kept : (a b c : SourceState) (bs : List ℕ) → Gives a b bs → GivesNone b c → Gives a c bs
Gives-kept a b c bs p q = (Consumes-kept a.left b.left c.left bs p.0 q.0, Appends-kept a.given b.given c.given bs p.1 q.1, q.2 ∙ p.2)

-- ---- lines of some bytes

-- further bytes end further lines
pub ended-more : (a b : List ℕ) → (more : List Cut) × (ended_cuts (a ++ b) ≡ ended_cuts a ++ more)
ended-more a [] = ([], ap ended_cuts (append-nil a) ∙ sym (append-nil (ended_cuts a)))
ended-more a (c ∷ cs) =
    let rest = ended-more (a ++ c ∷ []) cs in
    let line = option_to_list (cut_ended_by (pending a) c) in
    (line ++ rest.0, ap ended_cuts (sym (append_assoc a (c ∷ []) cs)) ∙ rest.1 ∙ ap (λ x. x ++ rest.0) (ended-push a c) ∙ append_assoc (ended_cuts a) line rest.0)

-- all lines begin with those that a line feed ended
pub cuts-ended : (bytes : List ℕ) → cuts bytes ≡ ended_cuts bytes ++ map cut_of (last_line (pieces bytes).rest)
cuts-ended bytes = map-append cut_of (pieces bytes).ended (last_line (pieces bytes).rest)

-- further reads
suc-add : (n m : ℕ) → suc (n + m) ≡ suc n + m
suc-add n m = omega arith

counted_up-add : (n m old : ℕ) → counted_up n (counted_up m old) ≡ counted_up (n + m) old
counted_up-add zero m old = ap (λ k. counted_up k old) (omega arith)
counted_up-add (suc n) m old = ap (λ k. one_more k) (counted_up-add n m old) ∙ ap (λ k. counted_up k old) (suc-add n m)

pub counted_up-more : (n m old mid new : ℕ) → mid ≡ counted_up m old → new ≡ counted_up n mid → new ≡ counted_up (n + m) old
counted_up-more n m old mid new p q = q ∙ ap (λ k. counted_up n k) p ∙ counted_up-add n m old

-- ---- bytes of one piece

-- the first bytes of the rest follow the bytes before it
pub next_piece : (bytes : List ℕ) (i n : ℕ) → take (i + n) bytes ≡ take i bytes ++ take n (take (length bytes - i) (drop i bytes))
next_piece bytes i n =
    let whole : take (length bytes - i) (drop i bytes) ≡ drop i bytes = take_all (length bytes - i) (drop i bytes) (omega (arith, length-drop i bytes)) in
    take-add i n bytes ∙ ap (λ rest. take i bytes ++ take n rest) (sym whole)

-- the lines of some bytes and of those after them
both_ended : (before bytes piece : List ℕ) (lines more : List Cut) → ended_cuts (before ++ bytes) ≡ ended_cuts before ++ lines → ended_cuts ((before ++ bytes) ++ piece) ≡ ended_cuts (before ++ bytes) ++ more → ended_cuts (before ++ (bytes ++ piece)) ≡ ended_cuts before ++ (lines ++ more)
both_ended before bytes piece lines more d e = ap ended_cuts (sym (append_assoc before bytes piece)) ∙ e ∙ ap (λ ls. ls ++ more) d ∙ append_assoc (ended_cuts before) lines more

module _ {X E : Type 0} (Took : X → List Cut → Result (Unit {0}) E → X → Type 0) (before : List ℕ) where
  -- no byte yet
  pub TakesEach-none : (held : Cut) (x : X) → Took x [] (Ok tt) x → held ≡ pending before → TakesEach Took before [] held x x (Ok tt)
  TakesEach-none held x none h = record {
    lines = [];
    ended = ap ended_cuts (append-nil before) ∙ sym (append-nil (ended_cuts before));
    begun = h ∙ ap pending (sym (append-nil before));
    took = none;
  }

  -- a line stopped the taking: further bytes change nothing
  pub StopsWithin-longer : (bytes rest whole : List ℕ) (x z : X) (stop : E) → whole ≡ bytes ++ rest → StopsWithin Took before bytes x z stop → StopsWithin Took before whole x z stop
  StopsWithin-longer bytes rest whole x z stop is stopped =
      let others = ended-more (before ++ bytes) rest in
      record {
        lines = stopped.lines;
        left_out = stopped.left_out ++ others.0;
        ended = ap (λ bs. ended_cuts (before ++ bs)) is ∙ ap ended_cuts (sym (append_assoc before bytes rest)) ∙ others.1 ∙ ap (λ ls. ls ++ others.0) stopped.ended
            ∙ append_assoc (ended_cuts before) (stopped.lines ++ stopped.left_out) others.0 ∙ ap (λ ls. ended_cuts before ++ ls) (append_assoc stopped.lines stopped.left_out others.0);
        took = stopped.took;
      }

  -- the last line of some bytes stopped the taking
  pub StopsWithin-each : (bytes : List ℕ) (n : ℕ) (held : Cut) (x z : X) (stop : E) → TakesEach Took before (take n bytes) held x z (Err stop) → StopsWithin Took before bytes x z stop
  StopsWithin-each bytes n held x z stop each =
      StopsWithin-longer (take n bytes) (drop n bytes) bytes x z stop (sym (take-append-drop n bytes))
      (record { lines = each.lines; left_out = []; ended = each.ended ∙ ap (λ ls. ended_cuts before ++ ls) (sym (append-nil each.lines)); took = each.took })

  -- nothing more, but the lines that were kept
  module _ (joined : (x y z : X) (cs ds : List Cut) (r : Result (Unit {0}) E) → Took x cs (Ok tt) y → Took y ds r z → Took x (cs ++ ds) r z) where
    pub took-settled : (x y z : X) (cs : List Cut) (r : Result (Unit {0}) E) → Took x cs (Ok tt) y → Took y [] r z → Took x cs r z
    took-settled x y z cs r p q = subst (λ (ls : List Cut). Took x ls r z) (append-nil cs) (joined x y z cs [] r p q)

    pub TakesBytes-settled : (bytes : List ℕ) (held : Cut) (x y z : X) (r : Result (Unit {0}) E) → TakesEach Took before bytes held x y (Ok tt) → Took y [] r z → TakesBytes Took before bytes held x z r
    TakesBytes-settled bytes held x y z (Ok done) each kept = record { lines = each.lines; ended = each.ended; begun = each.begun; took = took-settled x y z each.lines (Ok tt) each.took kept }
    TakesBytes-settled bytes held x y z (Err stop) each kept = record {
      lines = each.lines;
      left_out = [];
      ended = each.ended ∙ ap (λ ls. ended_cuts before ++ ls) (sym (append-nil each.lines));
      took = took-settled x y z each.lines (Err stop) each.took kept;
    }

  -- bytes after which more bytes were taken
  module _ (joined : (x y z : X) (cs ds : List Cut) (r : Result (Unit {0}) E) → Took x cs (Ok tt) y → Took y ds r z → Took x (cs ++ ds) r z)
      {bytes piece : List ℕ} {held : Cut} {x y z : X} (so_far : TakesEach Took before bytes held x y (Ok tt)) where
    pub TakesEach-more : {held_now : Cut} (r : Result (Unit {0}) E) → TakesEach Took (before ++ bytes) piece held_now y z r → TakesEach Took before (bytes ++ piece) held_now x z r
    TakesEach-more r more = record {
      lines = so_far.lines ++ more.lines;
      ended = both_ended before bytes piece so_far.lines more.lines so_far.ended more.ended;
      begun = more.begun ∙ ap pending (append_assoc before bytes piece);
      took = joined x y z so_far.lines more.lines r so_far.took more.took;
    }

    pub StopsWithin-more : (stop : E) → StopsWithin Took (before ++ bytes) piece y z stop → StopsWithin Took before (bytes ++ piece) x z stop
    StopsWithin-more stop more = record {
      lines = so_far.lines ++ more.lines;
      left_out = more.left_out;
      ended = both_ended before bytes piece so_far.lines (more.lines ++ more.left_out) so_far.ended more.ended ∙ ap (λ ls. ended_cuts before ++ ls) (sym (append_assoc so_far.lines more.lines more.left_out));
      took = joined x y z so_far.lines more.lines (Err stop) so_far.took more.took;
    }

  -- the next of these bytes
  module _ (joined : (x y z : X) (cs ds : List Cut) (r : Result (Unit {0}) E) → Took x cs (Ok tt) y → Took y ds r z → Took x (cs ++ ds) r z)
      (bytes : List ℕ) (i n : ℕ) {held : Cut} {x y z : X} (so_far : TakesEach Took before (take i bytes) held x y (Ok tt)) where
    pub TakesEach-next : {held_now : Cut} (r : Result (Unit {0}) E) → TakesEach Took (before ++ take i bytes) (take n (take (length bytes - i) (drop i bytes))) held_now y z r → TakesEach Took before (take (i + n) bytes) held_now x z r
    TakesEach-next {held_now} r more =
        subst (λ (bs : List ℕ). TakesEach Took before bs held_now x z r) (sym (next_piece bytes i n)) (TakesEach-more joined so_far r more)

-- ---- reads

-- what the reads so far gave, the lines taken of it, and whether the last of them found the end
pub record GivenSoFar {X E : Type 0} (Took : X → List Cut → Result (Unit {0}) E → X → Type 0) (old now : SourceState) (made : ℕ) (is_over : Bool) (held : Cut) (x y : X) : Type 0 where
  pub given : List ℕ
  pub bytes : Gives old now given
  pub asked : length given ≤ longest_read * made
  pub reads : now.reads ≡ counted_up made old.reads
  pub ends : now.ends ≡ count_after (not is_over) old.ends
  pub over : is_over ≡ true → IsOver now
  pub failures : now.failures ≡ old.failures
  pub taken : TakesEach Took [] given held x y (Ok tt)

pub GivenSoFar-none : {X E : Type 0} (Took : X → List Cut → Result (Unit {0}) E → X → Type 0) (old : SourceState) (made : ℕ) (held : Cut) (x : X) → 0 ≡ made → Took x [] (Ok tt) x → held ≡ pending [] → GivenSoFar Took old old made false held x x
GivenSoFar-none Took old made held x first none h = record {
  given = [];
  bytes = Gives-nil old;
  asked = omega arith;
  reads = ap (λ i. counted_up i old.reads) first;
  ends = refl;
  over = λ e. cc;
  failures = refl;
  taken = TakesEach-none Took [] held x none h;
}

module _ {X E : Type 0} (Took : X → List Cut → Result (Unit {0}) E → X → Type 0)
    (joined : (x y z : X) (cs ds : List Cut) (r : Result (Unit {0}) E) → Took x cs (Ok tt) y → Took y ds r z → Took x (cs ++ ds) r z)
    {old mid : SourceState} {before : ℕ} {is_over : Bool} {held : Cut} {x y : X} (so_far : GivenSoFar Took old mid before is_over held x y) where
  taken_so_far : ended_cuts so_far.given ≡ so_far.taken.lines
  taken_so_far = so_far.taken.ended

  all_lines : cuts so_far.given ≡ so_far.taken.lines ++ map cut_of (last_line (pieces so_far.given).rest)
  all_lines = cuts-ended so_far.given ∙ ap (λ ls. ls ++ map cut_of (last_line (pieces so_far.given).rest)) taken_so_far

  -- no end was found yet: the lines taken of the next piece, and of all
  module _ {new : SourceState} {left n made : ℕ} {piece : List ℕ} {ends_now : Bool} (not_yet : is_over ≡ false) (read : Gathers mid new left piece n ends_now) (all_made : made ≡ before + n) where
    all_asked : length (so_far.given ++ piece) ≤ longest_read * made
    all_asked = omega (arith, length-append so_far.given piece, so_far.asked, read.asked)

    all_reads : new.reads ≡ counted_up made old.reads
    all_reads = counted_up-more n before old.reads mid.reads new.reads so_far.reads read.reads ∙ ap (λ i. counted_up i old.reads) (omega arith)

    pub GivenSoFar-piece : {held_now : Cut} {z : X} → TakesEach Took so_far.given piece held_now y z (Ok tt) → GivenSoFar Took old new made ends_now held_now x z
    GivenSoFar-piece {held_now} {z} more = record {
      given = so_far.given ++ piece;
      bytes = Gives-trans old mid new so_far.given piece so_far.bytes read.given;
      asked = all_asked;
      reads = all_reads;
      ends = read.ends ∙ ap (λ i. count_after (not ends_now) i) (so_far.ends ∙ ap (λ b. count_after (not b) old.ends) not_yet);
      over = read.over;
      failures = read.failures ∙ so_far.failures;
      taken = TakesEach-more Took [] joined so_far.taken (Ok tt) more;
    }

    -- a line of the piece stopped the call
    pub Taken-stop : {z : X} (turns : ℕ) (stop : E) → made ≤ turns → StopsWithin Took so_far.given piece y z stop → Taken Took old new turns LineStopped x z (Err stop)
    Taken-stop {z} turns stop within more =
        let given : List ℕ = so_far.given ++ piece in
        let all = StopsWithin-more Took [] joined so_far.taken stop more in
        let others : List Cut = map cut_of (last_line (pieces given).rest) in
        record {
          lines = all.lines;
          draws = record {
            given = given;
            left_out = all.left_out ++ others;
            bytes = Gives-trans old mid new so_far.given piece so_far.bytes read.given;
            front = cuts-ended given ∙ ap (λ ls. ls ++ others) all.ended ∙ append_assoc all.lines all.left_out others;
            ends = tt;
            failures = read.failures ∙ so_far.failures;
            reads = (made, within, all_reads, all_asked);
          };
          took = all.took;
        }

  -- a read failed
  pub Taken-read : {new : SourceState} (turns : ℕ) → is_over ≡ false → FailsOnce mid new → before < turns → Taken Took old new turns ReadFailed x y (Ok tt)
  Taken-read {new} turns not_yet failed within = record {
    lines = so_far.taken.lines;
    draws = record {
      given = so_far.given;
      left_out = map cut_of (last_line (pieces so_far.given).rest);
      bytes = Gives-kept old mid new so_far.given so_far.bytes failed.given;
      front = all_lines;
      ends = (sym taken_so_far, failed.ends ∙ so_far.ends ∙ ap (λ b. count_after (not b) old.ends) not_yet);
      failures = failed.failures ∙ ap (λ n. one_more n) so_far.failures;
      reads = (suc before, omega arith, failed.reads ∙ ap (λ n. one_more n) so_far.reads, omega (arith, so_far.asked));
    };
    took = so_far.taken.took;
  }

  -- all turns were used
  pub Taken-turns : (turns : ℕ) → is_over ≡ false → before ≡ turns → Taken Took old mid turns TurnsOver x y (Ok tt)
  Taken-turns turns not_yet over = record {
    lines = so_far.taken.lines;
    draws = record {
      given = so_far.given;
      left_out = map cut_of (last_line (pieces so_far.given).rest);
      bytes = so_far.bytes;
      front = all_lines;
      ends = (sym taken_so_far, so_far.ends ∙ ap (λ b. count_after (not b) old.ends) not_yet, so_far.reads ∙ ap (λ n. counted_up n old.reads) over);
      failures = so_far.failures;
      reads = (before, omega arith, so_far.reads, so_far.asked);
    };
    took = so_far.taken.took;
  }

  -- the end was found, and a last line may stop the call
  Taken-over : (ending : Ending) (r : Result (Unit {0}) E) (turns : ℕ) (z : X) → is_read_failed ending ≡ false → before ≤ turns
      → (last : TakesLast Took so_far.given y z r) → EndsAs so_far.given (so_far.taken.lines ++ last.lines) [] turns old mid ending → Taken Took old mid turns ending x z r
  Taken-over ending r turns z read_well within last ends = record {
    lines = so_far.taken.lines ++ last.lines;
    draws = record {
      given = so_far.given;
      left_out = [];
      bytes = so_far.bytes;
      front = last.all_given ∙ ap (λ ls. ls ++ last.lines) taken_so_far ∙ sym (append-nil _);
      ends = ends;
      failures = rw read_well so_far.failures;
      reads = (before, within, so_far.reads, so_far.asked);
    };
    took = joined x y z so_far.taken.lines last.lines r so_far.taken.took last.took;
  }

  pub Taken-end : (stopped : Result (Unit {0}) E) (turns : ℕ) (z : X) → is_over ≡ true → before ≤ turns → TakesLast Took so_far.given y z stopped → Taken Took old mid turns (ending_as (ended_by stopped)) x z (stopped_as (ended_by stopped))
  Taken-end (Ok done) turns z found within last = Taken-over AtEnd (Ok tt) turns z refl within last (refl, so_far.ends ∙ ap (λ b. count_after (not b) old.ends) found, so_far.over found)
  Taken-end (Err stop) turns z found within last = Taken-over LineStopped (Err stop) turns z refl within last tt

-- what holds unless a line stopped the call
pub ended-settled : {E : Type 0} (P : Type 0) (r : Result (Unit {0}) E) → OnOk r P → OnOk (stopped_as (ended_by r)) P
ended-settled P (Ok done) holds = holds
ended-settled P (Err stop) holds = tt
