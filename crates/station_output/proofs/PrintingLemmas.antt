-- An output takes the texts of looks, one after another.
use Rattle.std.proofs.Common.{rules, ◌≡◌, ◌∙◌, inl, inr, ℕ, Bool, true, false, List, [], ◌∷◌, ◌++◌, Option, Some, None, refl, sym, ap, subst, append_assoc, append-nil}
use Rattle.std.specs.Io.KnownBytes.{Appends, append_known}
use Rattle.std.proofs.KnownBytes.{Appends-nil, Appends-trans}
use Rattle.streams.specs.Sink.{AppendsFront}
use Rattle.station_report.specs.declared.formats.Format.{Format}
use Rattle.station_history.proofs.Common.{Start}
use Rattle.station_shared.specs.Seats.{Seated}
use Rattle.messages.proofs.Common.{Told}
use Rattle.station_output.proofs.Common.{FailsWithin, MayFail, Printing, TakesEach, TakesTexts, TakesTextsBy, TellsOutput, based, is_broken, look_text, put_after, text_of, texts}

pub texts-append : (format : Format) (start : Start) (looks more : List (Option Seated)) → texts format start (looks ++ more) ≡ texts format start looks ++ texts format start more
texts-append format start [] more = refl
texts-append format start (l ∷ ls) more =
    ap (λ (t : List ℕ). look_text format start l ++ t) (texts-append format start ls more) ∙ sym (append_assoc (look_text format start l) (texts format start ls) (texts format start more))

-- ---- a text after others

module _ (format : Format) (start : Start) where
  fails-later : (xs ys : List (Option Seated)) (a b c : Printing) → TakesEach format start xs a b → b.goes_on ≡ a.goes_on → FailsWithin format start ys b c → FailsWithin format start (xs ++ ys) a c
  fails-later xs ys a b c p goes_on q = record {
    first = xs ++ q.first;
    later = q.later;
    parts = ap (λ (ls : List (Option Seated)). xs ++ ls) q.parts ∙ sym (append_assoc xs q.first q.later);
    takes = record {
      front = texts format start xs ++ q.takes.front;
      rest = q.takes.rest;
      parts = texts-append format start xs q.first ∙ ap (λ (t : List ℕ). texts format start xs ++ t) q.takes.parts ∙ sym (append_assoc (texts format start xs) q.takes.front q.takes.rest);
      grown = Appends-trans a.taken b.taken c.taken (texts format start xs) q.takes.front p.grown q.takes.grown;
    };
    told = subst (λ (b : Bool). TellsOutput b a.alarm c.alarm) goes_on (subst (λ (t : Told). TellsOutput b.goes_on t c.alarm) p.untold q.told);
    stops = λ stays. q.stops (goes_on ∙ stays);
  }

  no-looks : (xs ys : List (Option Seated)) → xs ≡ [] → ys ≡ [] → xs ++ ys ≡ []
  no-looks xs ys p q = ap (λ (ls : List (Option Seated)). ls ++ ys) p ∙ q

  takes-by : (f g h : Bool) (xs ys : List (Option Seated)) (a b c : Printing) → b.goes_on ≡ a.goes_on → TakesTextsBy f g format start xs a b → TakesTextsBy g h format start ys b c → TakesTextsBy f h format start (xs ++ ys) a c
  takes-by false false false xs ys a b c goes_on p q = record {
    grown = subst (Appends a.taken c.taken) (sym (texts-append format start xs ys)) (Appends-trans a.taken b.taken c.taken (texts format start xs) (texts format start ys) p.grown q.grown);
    untold = q.untold ∙ p.untold;
  }
  takes-by false false true xs ys a b c goes_on p q = fails-later xs ys a b c p goes_on q
  takes-by false true false xs ys a b c goes_on p q = absurd q
  takes-by false true true xs ys a b c goes_on p q = record {
    first = p.first;
    later = p.later ++ ys;
    parts = ap (λ (ls : List (Option Seated)). ls ++ ys) p.parts ∙ append_assoc p.first p.later ys;
    takes = subst (λ (o : Printing). AppendsFront a.taken o.taken (texts format start p.first)) (sym q.same) p.takes;
    told = subst (λ (o : Printing). TellsOutput a.goes_on a.alarm o.alarm) (sym q.same) p.told;
    stops = λ stays. no-looks p.later ys (p.stops stays) (q.stops (goes_on ∙ stays));
  }
  takes-by true false h xs ys a b c goes_on p q = absurd p
  takes-by true true false xs ys a b c goes_on p q = absurd q
  takes-by true true true xs ys a b c goes_on p q = record { same = q.same ∙ p.same; stops = λ stays. no-looks xs ys (p.stops stays) (q.stops (goes_on ∙ stays)) }

  pub takes-then : (xs ys : List (Option Seated)) (a b c : Printing) → TakesTexts format start xs a b → TakesTexts format start ys b c → TakesTexts format start (xs ++ ys) a c
  takes-then xs ys a b c p q = record { bytes = takes-by a.has_failed b.has_failed c.has_failed xs ys a b c p.goes_on p.bytes q.bytes; goes_on = q.goes_on ∙ p.goes_on; ring = q.ring ∙ p.ring }

  -- ---- no text

  nothing-by : (f : Bool) (a : Printing) → TakesTextsBy f f format start [] a a
  nothing-by false a = record { grown = Appends-nil a.taken; untold = refl }
  nothing-by true a = record { same = refl; stops = λ stays. refl }

  pub takes-nothing : (a : Printing) → TakesTexts format start [] a a
  takes-nothing a = record { bytes = nothing-by a.has_failed a; goes_on = refl; ring = refl }

  refused-by : (f : Bool) (a : Printing) → a.has_failed ≡ f → is_broken a ≡ false → TakesTextsBy f f format start (None ∷ []) a a
  refused-by false a failed well = record { grown = Appends-nil a.taken; untold = refl }
  refused-by true a failed well = record { same = refl; stops = λ stays. absurd (let bad : true ≡ false = sym (rw (failed, stays) refl) ∙ well in search rules) }

  -- a refused look, where the output isn't broken
  pub takes-refused : (a b : Printing) → b ≡ a → is_broken a ≡ false → TakesTexts format start (None ∷ []) a b
  takes-refused a b same well = subst (λ (o : Printing). TakesTexts format start (None ∷ []) a o) (sym same) (record { bytes = refused-by a.has_failed a refl well; goes_on = refl; ring = refl })

  -- ---- a failed write

  -- a write fails after these texts, or before any
  fails-by : (looks : List (Option Seated)) (a b : Printing) → a.has_failed ≡ false → b.has_failed ≡ true → AppendsFront a.taken b.taken (texts format start looks) → TellsOutput a.goes_on a.alarm b.alarm → b.goes_on ≡ a.goes_on → b.ring ≡ a.ring
      → TakesTexts format start looks a b
  fails-by looks a b was is takes told goes_on ring = record {
    bytes = rw (was, is) (record { first = looks; later = []; parts = sym (append-nil looks); takes = takes; told = told; stops = λ stays. refl });
    goes_on = goes_on;
    ring = ring;
  }

  -- nothing is taken of these texts
  none-taken : (a b : Printing) (text : List ℕ) → b.taken ≡ a.taken → AppendsFront a.taken b.taken text
  none-taken a b text same = record { front = []; rest = text; parts = refl; grown = subst (λ (t : Option (List ℕ)). Appends a.taken t []) (sym same) (Appends-nil a.taken) }

  -- it is learned that a write failed, if one did
  pub takes-failure : (looks : List (Option Seated)) (a b c : Printing) → TakesTexts format start looks a b → MayFail b c → TakesTexts format start looks a c
  takes-failure looks a b c takes (inl same) = subst (λ (o : Printing). TakesTexts format start looks a o) (sym same) takes
  takes-failure looks a b c takes (inr fails) =
      subst (λ (ls : List (Option Seated)). TakesTexts format start ls a c) (append-nil looks)
      (takes-then looks [] a b c takes (fails-by [] b c fails.was fails.is (none-taken b c [] fails.taken) fails.told fails.goes_on fails.ring))

  -- ---- one text

  -- there is no memory for a table
  pub no-text : (look : Seated) (a b : Printing) → a.has_failed ≡ false → b.has_failed ≡ true → b.taken ≡ a.taken → TellsOutput a.goes_on a.alarm b.alarm → b.goes_on ≡ a.goes_on → b.ring ≡ a.ring
      → TakesTexts format start (Some look ∷ []) a b
  no-text look a b was is taken told goes_on ring = fails-by (Some look ∷ []) a b was is (none-taken a b _ taken) told goes_on ring

  appends : (known : Option (List ℕ)) (text : List ℕ) → Appends known (append_known known text) text
  appends None text = tt
  appends (Some xs) text = refl

  -- a table is sent
  pub sent-text : (look : Seated) (a b : Printing) (text : List ℕ) → a.has_failed ≡ false → b.has_failed ≡ a.has_failed → b.goes_on ≡ a.goes_on → b.ring ≡ a.ring → b.alarm ≡ a.alarm → text ≡ text_of format start look.seen
      → b.taken ≡ append_known a.taken text → TakesTexts format start (Some look ∷ []) a b
  sent-text look a b text was is goes_on ring alarm text_is taken = record {
    bytes = rw (is, was) (record {
      grown = subst (λ (t : Option (List ℕ)). Appends a.taken t (text_of format start look.seen ++ [])) (sym taken)
          (subst (Appends a.taken (append_known a.taken text)) (text_is ∙ sym (append-nil (text_of format start look.seen))) (appends a.taken text));
      untold = alarm;
    });
    goes_on = goes_on;
    ring = ring;
  }

-- tables go by the same ring, whether it is learned that a write failed or not
pub same-ring : (a b : Printing) → MayFail a b → b.ring ≡ a.ring
same-ring a b (inl same) = ap (λ (o : Printing). o.ring) same
same-ring a b (inr fails) = fails.ring

-- an output of which no write failed had no failed write before
unfailed-by : (f g : Bool) (format : Format) (start : Start) (looks : List (Option Seated)) (a b : Printing) → TakesTextsBy f g format start looks a b → g ≡ false → f ≡ false
unfailed-by false g format start looks a b p e = refl
unfailed-by true false format start looks a b p e = absurd p
unfailed-by true true format start looks a b p e = absurd (search rules)

pub unfailed-before : (format : Format) (start : Start) (looks : List (Option Seated)) (a b : Printing) → TakesTexts format start looks a b → b.has_failed ≡ false → a.has_failed ≡ false
unfailed-before format start looks a b p e = unfailed-by a.has_failed b.has_failed format start looks a b p.bytes e

-- ---- bytes before those that are known

after-both : (before old new : Option (List ℕ)) (text : List ℕ) → Appends old new text → Appends (put_after before old) (put_after before new) text
after-both None old new text grown = tt
after-both (Some bytes) None new text grown = tt
after-both (Some bytes) (Some xs) None text grown = absurd grown
after-both (Some bytes) (Some xs) (Some ys) text grown = ap (λ (l : List ℕ). bytes ++ l) grown ∙ sym (append_assoc bytes xs text)

front-after : (before old new : Option (List ℕ)) (text : List ℕ) → AppendsFront old new text → AppendsFront (put_after before old) (put_after before new) text
front-after before old new text takes = record { front = takes.front; rest = takes.rest; parts = takes.parts; grown = after-both before old new takes.front takes.grown }

based-by : (f g : Bool) (before : Option (List ℕ)) (format : Format) (start : Start) (looks : List (Option Seated)) (a b : Printing) → TakesTextsBy f g format start looks a b → TakesTextsBy f g format start looks (based before a) (based before b)
based-by false false before format start looks a b takes = record { grown = after-both before a.taken b.taken (texts format start looks) takes.grown; untold = takes.untold }
based-by false true before format start looks a b takes = record {
  first = takes.first;
  later = takes.later;
  parts = takes.parts;
  takes = front-after before a.taken b.taken (texts format start takes.first) takes.takes;
  told = takes.told;
  stops = takes.stops;
}
based-by true true before format start looks a b takes = record { same = ap (based before) takes.same; stops = takes.stops }
based-by true false before format start looks a b takes = absurd takes

pub based-takes : (before : Option (List ℕ)) (format : Format) (start : Start) (looks : List (Option Seated)) (a b : Printing) → TakesTexts format start looks a b → TakesTexts format start looks (based before a) (based before b)
based-takes before format start looks a b takes = record { bytes = based-by a.has_failed b.has_failed before format start looks a b takes.bytes; goes_on = takes.goes_on; ring = takes.ring }

pub based-fails : (before : Option (List ℕ)) (a b : Printing) → MayFail a b → MayFail (based before a) (based before b)
based-fails before a b (inl same) = inl (ap (based before) same)
based-fails before a b (inr fails) = inr (record { was = fails.was; is = fails.is; taken = ap (put_after before) fails.taken; goes_on = fails.goes_on; ring = fails.ring; told = fails.told })
