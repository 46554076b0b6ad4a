-- What an output has written of the tables that came.
use Rattle.std.proofs.Common.{◌≡◌, ◌∙◌, ℕ, ◌||◌, nat_lt, Bool, true, false, List, [], ◌∷◌, ◌++◌, Option, Some, None, Result, Ok, Err, length, refl, sym, ap, subst, append_assoc, append-nil, rules}
use Rattle.std.specs.Result.{is_err}
use Rattle.std.specs.Io.KnownBytes.{Appends, Keeps, append_known}
use Rattle.std.proofs.KnownBytes.{Appends-nil, Appends-trans}
use Rattle.std.specs.declared.alloc.Global.{Global}
use Rattle.rtrb.specs.Ring.{SameConsumer, received}
use Rattle.rtrb.specs.declared.AnyItems.{AnyItems}
use Rattle.rtrb.specs.declared.consumer.Consumer.{Consumer}
use Rattle.streams.specs.Sink.{SinkState, TakesAll}
use Rattle.streams.specs.declared.sinks.WriteFault.{WriteFault}
use Rattle.station_output.specs.Queued.{GivesBack, HasWritten, WritesOn, all_texts}
use Rattle.station_output.specs.declared.table.Table.{Table}

pub texts-both : (tables more : List Table) → all_texts (tables ++ more) ≡ all_texts tables ++ all_texts more
texts-both [] more = refl
texts-both (t ∷ ts) more = ap (λ (l : List ℕ). t.text.items ++ l) (texts-both ts more) ∙ sym (append_assoc t.text.items (all_texts ts) (all_texts more))

pub texts-more : (tables : List Table) (table : Table) → all_texts (tables ++ table ∷ []) ≡ all_texts tables ++ table.text.items
texts-more tables table = texts-both tables (table ∷ []) ∙ ap (λ (l : List ℕ). all_texts tables ++ l) (append-nil table.text.items)

-- nothing came, and nothing was written
pub nothing-written : (before : Option (List ℕ)) → HasWritten before before [] false
nothing-written before = record { takes = record { front = []; rest = []; parts = refl; grown = Appends-nil before }; all = λ well. refl }

-- after a failed write a text is left out
pub left-out : (first after : Option (List ℕ)) (texts text : List ℕ) → HasWritten first after texts true → HasWritten first after (texts ++ text) true
left-out first after texts text was = record {
  takes = record {
    front = was.takes.front;
    rest = was.takes.rest ++ text;
    parts = ap (λ (l : List ℕ). l ++ text) was.takes.parts ∙ append_assoc was.takes.front was.takes.rest text;
    grown = was.takes.grown;
  };
  all = λ (well : true ≡ false). absurd (search rules);
}

-- all texts so far
all-so-far : (first after : Option (List ℕ)) (texts : List ℕ) → HasWritten first after texts false → Appends first after texts
all-so-far first after texts was =
    subst (Appends first after) (sym (was.takes.parts ∙ ap (λ (l : List ℕ). was.takes.front ++ l) (was.all refl) ∙ append-nil was.takes.front)) was.takes.grown

-- one more text is written, or a write fails within it
pub written-more : (first : Option (List ℕ)) (old new : SinkState) (texts text : List ℕ) (result : Result (Unit {0}) WriteFault) → TakesAll old new text result → HasWritten first old.taken texts false
    → HasWritten first new.taken (texts ++ text) (is_err result)
written-more first old new texts text (Ok done) takes was = record {
  takes = record { front = texts ++ text; rest = []; parts = sym (append-nil (texts ++ text)); grown = Appends-trans first old.taken new.taken texts text (all-so-far first old.taken texts was) takes.bytes };
  all = λ well. refl;
}
written-more first old new texts text (Err fault) takes was = record {
  takes = record {
    front = texts ++ takes.bytes.front;
    rest = takes.bytes.rest;
    parts = ap (λ (l : List ℕ). texts ++ l) takes.bytes.parts ∙ sym (append_assoc texts takes.bytes.front takes.bytes.rest);
    grown = Appends-trans first old.taken new.taken texts takes.bytes.front (all-so-far first old.taken texts was) takes.bytes.grown;
  };
  all = λ (well : true ≡ false). absurd (search rules);
}

-- what a front leaves out
keeps-by : (first after : Option (List ℕ)) (front rest : List ℕ) → Appends first after front → Keeps (append_known first (front ++ rest)) (append_known after rest)
keeps-by None after front rest grown = tt
keeps-by (Some xs) None front rest grown = absurd grown
keeps-by (Some xs) (Some ys) front rest grown = ap (λ (l : List ℕ). l ++ rest) grown ∙ append_assoc xs front rest

neither : (a b : Bool) → (a || b) ≡ false → (a ≡ false) × (b ≡ false)
neither true b e = absurd (search rules)
neither false b e = (refl, e)

none-left : (waits : List Table) (left : ℕ) → left ≡ length waits → nat_lt 0 left ≡ false → waits ≡ []
none-left [] left many none = refl
none-left (t ∷ ts) left many none = absurd (let bad : nat_lt 0 (length (t ∷ ts)) ≡ false = ap (λ (n : ℕ). nat_lt 0 n) (sym many) ∙ none in search rules)

-- an output after its last write, by the tables that came and those that still wait
pub gives-back : (first after : Option (List ℕ)) (came waits sent : List Table) (left : ℕ) (has_failed : Bool) → HasWritten first after (all_texts came) has_failed → came ++ waits ≡ sent → left ≡ length waits
    → GivesBack (append_known first (all_texts sent)) after (has_failed || nat_lt 0 left)
gives-back first after came waits sent left has_failed was fifo many = record {
  unwritten = was.takes.rest ++ all_texts waits;
  bytes = subst (λ (l : List ℕ). Keeps (append_known first l) (append_known after (was.takes.rest ++ all_texts waits)))
      (sym (append_assoc was.takes.front was.takes.rest (all_texts waits)) ∙ ap (λ (l : List ℕ). l ++ all_texts waits) (sym was.takes.parts) ∙ sym (texts-both came waits) ∙ ap all_texts fifo)
      (keeps-by first after was.takes.front (was.takes.rest ++ all_texts waits) was.takes.grown);
  well = λ e. let both = neither has_failed (nat_lt 0 left) e in
      ap (λ (l : List ℕ). l ++ all_texts waits) (was.all both.0) ∙ ap all_texts (none-left waits left many both.1);
}

-- ---- tables that came

module _ where
  abbrev Tables : Type 0
  Tables = Consumer Table Global AnyItems

  same-both : (a b c : Tables) → SameConsumer a b → SameConsumer b c → SameConsumer a c
  same-both a b c p q = ((q.0.0 ∙ p.0.0, q.0.1 ∙ p.0.1, q.0.2 ∙ p.0.2, q.0.3 ∙ p.0.3), q.1 ∙ p.1)

  -- nothing came
  pub writes-nothing : (before : Option (List ℕ)) (old new : Tables) (was : Bool) → SameConsumer old new → received new ≡ received old → WritesOn before before old new was was
  writes-nothing before old new was ring same = record {
    ring = ring;
    written = λ first written. subst (λ (l : List Table). HasWritten first before (all_texts l) was) (sym same) written;
  }

  pub writes-then : (a b c : Option (List ℕ)) (old mid new : Tables) (f g h : Bool) → WritesOn a b old mid f g → WritesOn b c mid new g h → WritesOn a c old new f h
  writes-then a b c old mid new f g h p q = record { ring = same-both old mid new p.ring q.ring; written = λ first written. q.written first (p.written first written) }

  -- one more table came, and its text was written
  pub writes-next : (before after : Option (List ℕ)) (old mid new : Tables) (was is : Bool) (table : Table) (text : List ℕ) → SameConsumer old mid → received mid ≡ received old ++ table ∷ [] → new ≡ mid
      → text ≡ table.text.items → ((first : Option (List ℕ)) (texts : List ℕ) → HasWritten first before texts was → HasWritten first after (texts ++ text) is) → WritesOn before after old new was is
  writes-next before after old mid new was is table text ring came same is_text written = record {
    ring = subst (λ (t : Tables). SameConsumer old t) (sym same) ring;
    written = λ first so_far.
        subst (λ (l : List ℕ). HasWritten first after l is)
        (ap (λ (l : List ℕ). all_texts (received old) ++ l) is_text ∙ sym (texts-more (received old) table) ∙ ap all_texts (sym came) ∙ ap (λ (t : Tables). all_texts (received t)) (sym same))
        (written first (all_texts (received old)) so_far);
  }
