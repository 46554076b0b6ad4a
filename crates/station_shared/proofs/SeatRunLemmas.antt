-- Frames fed through a seat one after another.
use Rattle.std.proofs.Common.{◌≡◌, ℕ, ◌+◌, List, [], ◌∷◌, ◌++◌, Result, Ok, Err, length, get_or, slice_index_or, slice_set, refl, sym, ap, ◌∙◌, subst, append_assoc, append-nil, arith, inl, inr}
use Rattle.station_journal.specs.declared.entry.Entry.{Entry}
use Rattle.station_journal.specs.declared.entry.Entry.TheVariants.{Heard}
use Rattle.station_journal.specs.declared.refusal.Refusal.{Refusal}
use Rattle.station_lines.proofs.Common.{frames_of, Feeds, PumpsAll}
use Rattle.streams.proofs.Common.{SourceState}
use Rattle.station_history.specs.Start.{Start}
use Rattle.station_shared.proofs.Common.{Seated, SeatSteps, Within, accepted_frames, heard_by, Fed, Works}
use Rattle.station_lines.specs.declared.pumping.PumpFault.{PumpFault}
use Rattle.station_lines.specs.declared.tally.Tally.{Tally}
use Rattle.station_lines.proofs.FeedLemmas.{count_first}

within_here : (zs : List Entry) (x : Entry) (xs ys : List Entry) → Within xs ys → Within (x ∷ xs) ((zs ++ x ∷ []) ++ ys)
within_here [] x xs ys w = inl (refl, w)
within_here (z ∷ zs) x xs ys w = inr (within_here zs x xs ys w)

within_later : (zs xs ys : List Entry) → Within xs ys → Within xs (zs ++ ys)
within_later [] xs ys w = w
within_later (z ∷ zs) [] ys w = tt
within_later (z ∷ zs) (x ∷ xs) ys w = inr (within_later zs (x ∷ xs) ys w)

pub Fed-none : (x y : Seated) → y ≡ x → Fed x y [] []
Fed-none x y same = record {
  more = [];
  later = append-nil x.seen ∙ ap (λ (s : Seated). s.seen) (sym same);
  stand = tt;
  many = refl;
  accepted = omega (arith, ap (λ (s : Seated). s.accepted) same);
  number = ap (λ (s : Seated). s.number) same;
  place = ap (λ (s : Seated). s.can_look) same;
}

-- a step, and what was fed after it
pub Fed-step : (start : Start) (x z y : Seated) (f : List ℕ) (fs : List (List ℕ)) (u : Result (Unit {0}) Refusal) (us : List (Result (Unit {0}) Refusal)) → SeatSteps start x f u z → Fed z y fs us → Fed x y (f ∷ fs) (u ∷ us)
Fed-step start x z y f fs (Ok taken) us step fed =
    let a = step.1 in
    let e : Entry = Heard x.number f in
    let here : x.seen ++ (a.later.0 ++ e ∷ []) ≡ z.seen = sym (append_assoc x.seen a.later.0 (e ∷ [])) ∙ (ap (λ l. l ++ e ∷ []) a.later.1 ∙ sym a.seen) in
    record {
      more = (a.later.0 ++ e ∷ []) ++ fed.more;
      later = sym (append_assoc x.seen (a.later.0 ++ e ∷ []) fed.more) ∙ (ap (λ l. l ++ fed.more) here ∙ fed.later);
      stand = within_here a.later.0 e (heard_by x.number (accepted_frames fs us)) fed.more (subst (λ (n : ℕ). Within (heard_by n (accepted_frames fs us)) fed.more) a.number fed.stand);
      many = omega (arith, fed.many, count_first (Ok taken) us);
      accepted = omega (arith, fed.accepted, a.accepted, count_first (Ok taken) us);
      number = fed.number ∙ a.number;
      place = fed.place ∙ a.place;
    }
Fed-step start x z y f fs (Err refusal) us step fed = record {
  more = step.later.0 ++ fed.more;
  later = sym (append_assoc x.seen step.later.0 fed.more) ∙ (ap (λ l. l ++ fed.more) step.later.1 ∙ fed.later);
  stand = within_later step.later.0 (heard_by x.number (accepted_frames fs us)) fed.more (subst (λ (n : ℕ). Within (heard_by n (accepted_frames fs us)) fed.more) step.number fed.stand);
  many = omega (arith, fed.many, count_first (Err refusal) us);
  accepted = omega (arith, fed.accepted, step.accepted, count_first (Err refusal) us);
  number = fed.number ∙ step.number;
  place = fed.place ∙ step.place;
}

pub Fed-steps : (start : Start) (x y : Seated) (fs : List (List ℕ)) (us : List (Result (Unit {0}) Refusal)) → Feeds (SeatSteps start) x fs us y → Fed x y fs us
Fed-steps start x y [] [] s = Fed-none x y s
Fed-steps start x y [] (u ∷ us) s = absurd s
Fed-steps start x y (f ∷ fs) [] s = absurd s
Fed-steps start x y (f ∷ fs) (u ∷ us) s = Fed-step start x s.0 y f fs u us s.1 (Fed-steps start s.0 y fs us s.2)

-- a feed that contracts see as a seat
module _ {F : Type 0} (gives : F → List ℕ → Result (Unit {0}) Refusal → F → Type 0) (seat : F → Seated) (start : Start)
    (tells : (x y : F) (frame : List ℕ) (answer : Result (Unit {0}) Refusal) → gives x frame answer y → SeatSteps start (seat x) frame answer (seat y)) where
  seat_steps : (x y : F) (fs : List (List ℕ)) (us : List (Result (Unit {0}) Refusal)) → Feeds gives x fs us y → Feeds (SeatSteps start) (seat x) fs us (seat y)
  seat_steps x y [] [] s = ap seat s
  seat_steps x y [] (u ∷ us) s = absurd s
  seat_steps x y (f ∷ fs) [] s = absurd s
  seat_steps x y (f ∷ fs) (u ∷ us) s = (seat s.0, tells x s.0 f u s.1, seat_steps s.0 y fs us s.2)

  works : (x y : F) (old new : SourceState) (turns : ℕ) (result : Result Tally PumpFault) → PumpsAll gives x y old new turns result → Works start (seat x) (seat y) old new turns result
  works x y old new turns result all =
      let steps = seat_steps x y (frames_of all.lines) all.answers all.feeds in
      let fed = Fed-steps start (seat x) (seat y) (frames_of all.lines) all.answers steps in
      record {
        pumps = record {
          lines = all.lines;
          answers = all.answers;
          draws = all.draws;
          feeds = steps;
          wants = all.wants;
          counts = all.counts;
          no_ticks = all.no_ticks;
          no_shows = all.no_shows;
          accepted = all.accepted;
        };
        fed = fed;
        accepted = fed.accepted ∙ ap (λ n. (seat x).accepted + n) (sym all.accepted);
      }

pub Works-all : {F : Type 0} {gives : F → List ℕ → Result (Unit {0}) Refusal → F → Type 0} {x y : F} {old new : SourceState} {turns : ℕ} {result : Result Tally PumpFault} → PumpsAll gives x y old new turns result
    → (seat : F → Seated) (start : Start) → ((x y : F) (frame : List ℕ) (answer : Result (Unit {0}) Refusal) → gives x frame answer y → SeatSteps start (seat x) frame answer (seat y)) → Works start (seat x) (seat y) old new turns result
Works-all {gives} {x} {y} {old} {new} {turns} {result} all seat start tells = works gives seat start tells x y old new turns result all

-- ---- a chunk of one worker

pub only_item : {A : Type 0} (xs : List A) (x d : A) → length xs ≡ 1 → slice_index_or xs 0 d ≡ get_or xs 0 x
only_item [] x d one = cc
only_item (y ∷ ys) x d one = refl

pub only_item_set : {A : Type 0} (xs : List A) (x d : A) → length xs ≡ 1 → slice_index_or (slice_set xs 0 x) 0 d ≡ x
only_item_set [] x d one = cc
only_item_set (y ∷ ys) x d one = refl
