-- All messages of a path.
use Rattle.std.proofs.Common.{rules, refl, ◌≡◌, ◌<◌, ◌⊎◌, ℕ, List, [], ◌∷◌, ◌++◌, arith, inl, inr, is_some, length, sym, ap, ◌∙◌, subst, true, Option, Some, None, append-nil, append_assoc}
use Rattle.std.specs.Io.KnownBytes.{Consumes, IsAtEnd}
use Rattle.modes_frame.specs.Lines.{cuts}
use Rattle.rtrb.specs.Ends.{SameRing}
use Rattle.rtrb.specs.Ring.{SameProducer, sent}
use Rattle.rtrb.specs.declared.producer.Producer.{Producer}
use Rattle.station_portions.proofs.Common.{AreLines, Batch, bytes_of_messages, SendsPath, Message, Lines, Over, PathEnd}
use Rattle.station_portions.specs.Whole.{GivesPath, SendsAll, SendsWhole}
use Rattle.station_portions.specs.declared.message.PathEnd.TheVariants.{AtEnd}
use Rattle.station_portions.proofs.GivingLemmas.{bytes_of_messages-more, last_end-more}
use Rattle.station_portions.specs.Messages.{end_of, last_end}

-- the end was sent after a path
pub over_sent : (left new : Option (List ℕ)) (before mid after : List Message) (end : PathEnd) → SendsPath left new before mid end → after ≡ mid ++ Over end ∷ []
    → SendsAll left new before after end
over_sent left new before mid after end path is = record {
  read = path.read;
  more = path.more;
  given = path.given;
  after_is = is ∙ ap (λ l. l ++ Over end ∷ []) path.after_is ∙ append_assoc before path.more (Over end ∷ []);
  only = path.only;
  lines = path.lines;
  over = path.over;
}

-- all bytes that were sent of a path, and the end that was sent last
pub bytes_sent : (left new : Option (List ℕ)) (before after : List Message) (end : PathEnd) → (all : SendsAll left new before after end) → before ≡ [] → bytes_of_messages after ≡ bytes_of_messages all.more
bytes_sent left new before after end all none =
    ap bytes_of_messages all.after_is ∙ ap (λ l. bytes_of_messages (l ++ (all.more ++ Over end ∷ []))) none ∙ bytes_of_messages-more all.more (Over end) ∙ append-nil (bytes_of_messages all.more)

pub end_sent : (left new : Option (List ℕ)) (before after : List Message) (end : PathEnd) → SendsAll left new before after end → last_end after ≡ Some end
end_sent left new before after end all =
    ap last_end (all.after_is ∙ sym (append_assoc before all.more (Over end ∷ []))) ∙ last_end-more (before ++ all.more) (Over end)

-- a source that took all that was sent of a path, and gave all bytes of it
pub gave_path : {A P : Type 0} (left new : Option (List ℕ)) (first last : Producer Message A P) (end : PathEnd) (own : Option PathEnd) (taken : List Message) (given : List ℕ)
    → SendsWhole left new first end last → sent first ≡ [] → own ≡ last_end taken
    → (taken ≡ sent last) × (given ≡ bytes_of_messages (sent last))
    → (e : PathEnd) × (own ≡ Some e) × GivesPath left e given
gave_path left new first last end own taken given whole none told (all, bytes) =
    let sends : SendsAll left new (sent first) (sent last) end = whole.1 in (
      end,
      told ∙ ap last_end all ∙ end_sent left new (sent first) (sent last) end sends,
      record {
        left_new = new;
        read = sends.read;
        taken = sends.given;
        over = sends.over;
        lines = ap cuts (bytes ∙ bytes_sent left new (sent first) (sent last) end sends none) ∙ sends.lines;
      },
    )

-- the message that reports the end is the last: what was taken up to one is all
batch_is_no_end : (message : Message) (batch : Batch) → message ≡ Lines batch → is_some (end_of message) ≡ true → ⊥
batch_is_no_end message batch is some =
    let none : is_some (end_of (Lines batch)) ≡ true = subst (λ m. is_some (end_of m) ≡ true) is some in
    absurd (search rules)

all_taken : (taken rest more : List Message) (end : PathEnd) → taken ++ rest ≡ more ++ Over end ∷ [] → AreLines more → is_some (last_end taken) ≡ true → rest ≡ []
all_taken [] rest more end is only some = absurd (search rules)
all_taken (message ∷ []) rest [] end is only some = cc (is)
all_taken (message ∷ []) rest (Lines batch ∷ more) end is only some = absurd (batch_is_no_end message batch (cc (is)) some)
all_taken (message ∷ []) rest (Over e ∷ more) end is only some = absurd only
all_taken (message ∷ next ∷ taken) rest [] end is only some = absurd (omega (arith, ap length is))
all_taken (message ∷ next ∷ taken) rest (Lines batch ∷ more) end is only some = all_taken (next ∷ taken) rest more end (cc (is)) only some
all_taken (message ∷ next ∷ taken) rest (Over e ∷ more) end is only some = absurd only

-- a source whose path is over took all that was sent, and gave it
pub over_gave : {A P : Type 0} (left new : Option (List ℕ)) (first last : Producer Message A P) (end : PathEnd) (own : Option PathEnd) (taken : List Message) (ungiven : List ℕ)
    → SendsWhole left new first end last → sent first ≡ [] → own ≡ last_end taken → is_some own ≡ true → (is_some own ≡ true → ungiven ≡ [])
    → (rest : List Message) × (taken ++ rest ≡ sent last) × ((0 < length rest) ⊎ (0 < length ungiven)) → ⊥
over_gave left new first last end own taken ungiven whole none told over given (rest, is, inr more) = absurd (omega (arith, more, ap length (given over)))
over_gave left new first last end own taken ungiven whole none told over given (rest, is, inl more) =
    let sends : SendsAll left new (sent first) (sent last) end = whole.1 in
    let all : taken ++ rest ≡ sends.more ++ Over end ∷ [] = is ∙ sends.after_is ∙ ap (λ l. l ++ (sends.more ++ Over end ∷ [])) none in
    let nothing : rest ≡ [] = all_taken taken rest sends.more end all sends.only (ap is_some (sym told) ∙ over) in
    absurd (omega (arith, more, ap length nothing))

-- what sent the end of a path, after what sent its lines
pub whole_sent : {A P : Type 0} (left new : Option (List ℕ)) (first last : Producer Message A P) (end : PathEnd)
    → SameRing first.end last.end → SendsAll left new (sent first) (sent last) end → SendsWhole left new first end last
whole_sent left new first last end ring all = (ring, all)

-- one end of a ring, after one call and after the next
pub same_ring : {A P : Type 0} (a b c : Producer Message A P) → SameProducer a b → SameProducer b c → SameProducer a c
same_ring a b c p q = ((q.0.0 ∙ p.0.0, q.0.1 ∙ p.0.1, q.0.2 ∙ p.0.2, q.0.3 ∙ p.0.3), q.1 ∙ p.1)

-- what reading known bytes to their end gave, is all of them
all_read : (bytes read : List ℕ) (new : Option (List ℕ)) → Consumes (Some bytes) new read → IsAtEnd new → read ≡ bytes
all_read bytes read None taken over = absurd taken
all_read bytes read (Some rest) taken over = sym (taken ∙ ap (λ l. read ++ l) over ∙ append-nil read)

pub given_lines : (bytes given : List ℕ) → GivesPath (Some bytes) AtEnd given → cuts given ≡ cuts bytes
given_lines bytes given path = path.lines ∙ ap cuts (all_read bytes path.read path.left_new path.taken (path.over refl))
