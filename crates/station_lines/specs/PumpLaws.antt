-- The laws of a pump: lines that it takes after others are taken with them.
use Rattle.std.proofs.Common.{◌≡◌, ℕ, true, List, [], ◌∷◌, ◌++◌, Result, Ok, Err, is_ok, refl, sym, ap, ◌∙◌, subst, append_assoc, arith}
use Rattle.std.specs.declared.alloc.AllocError.{AllocError}
use Rattle.std.specs.List.{list_all}
use Rattle.std.proofs.lemmas.Bool.{and_from}
use Rattle.std.proofs.lemmas.List.Folds.{list_all-append}
use Rattle.modes_frame.specs.declared.cutter.Cut.{Cut}
use Rattle.station_journal.specs.declared.refusal.Refusal.{Refusal}
use Rattle.station_lines.specs.Calls.{pump_command, frame_in, frames_of}
use Rattle.station_lines.specs.CountingLaws.{count_by-append, CountsLines-then, CountsLines-none}
use Rattle.station_lines.specs.Feeds.{Feeds, is_reply}
use Rattle.station_lines.specs.Pump.{Wants, Pumping, Pumps}

-- ---- steps of a feed

pub Feeds-then : {F : Type 0} (gives : F → List ℕ → Result (Unit {0}) Refusal → F → Type 0) (x y z : F) (fs gs : List (List ℕ)) (us vs : List (Result (Unit {0}) Refusal)) → Feeds gives x fs us y → Feeds gives y gs vs z → Feeds gives x (fs ++ gs) (us ++ vs) z
Feeds-then gives x y z [] gs [] vs p q = subst (λ w. Feeds gives w gs vs z) p q
Feeds-then gives x y z [] gs (u ∷ us) vs p q = absurd p
Feeds-then gives x y z (f ∷ fs) gs [] vs p q = absurd p
Feeds-then gives x y z (f ∷ fs) gs (u ∷ us) vs p q = (p.0, p.1, Feeds-then gives p.0 y z fs gs us vs p.2 q)

pub frames_of-append : (cs ds : List Cut) → frames_of (cs ++ ds) ≡ frames_of cs ++ frames_of ds
frames_of-append [] ds = refl
frames_of-append (c ∷ cs) ds = ap (λ fs. frame_in (pump_command c) ++ fs) (frames_of-append cs ds) ∙ sym (append_assoc (frame_in (pump_command c)) (frames_of cs) (frames_of ds))

-- ---- lines taken

Wants-then : (cs ds : List Cut) (us vs : List (Result (Unit {0}) Refusal)) (r : Result (Unit {0}) AllocError) → list_all is_reply us ≡ true → Wants ds vs r → Wants (cs ++ ds) (us ++ vs) r
Wants-then cs ds us vs (Ok done) e w = list_all-append is_reply us vs ∙ and_from _ _ e w
Wants-then cs ds us vs (Err want) e w = record {
  front = cs ++ w.front;
  last = w.last;
  frame = w.frame;
  replies = us ++ w.replies;
  parts = ap (λ es. cs ++ es) w.parts ∙ sym (append_assoc cs w.front _);
  asks = w.asks;
  told = ap (λ es. us ++ es) w.told ∙ sym (append_assoc us w.replies _);
  others = list_all-append is_reply us w.replies ∙ and_from _ _ e w.others;
}

module _ {F : Type 0} (gives : F → List ℕ → Result (Unit {0}) Refusal → F → Type 0) where
  pub Pumps-then : (x y z : Pumping F) (cs ds : List Cut) (r : Result (Unit {0}) AllocError) → Pumps gives x cs (Ok tt) y → Pumps gives y ds r z → Pumps gives x (cs ++ ds) r z
  Pumps-then x y z cs ds r p q = record {
    answers = p.answers ++ q.answers;
    feeds = subst (λ fs. Feeds gives x.feed fs (p.answers ++ q.answers) z.feed) (sym (frames_of-append cs ds)) (Feeds-then gives x.feed y.feed z.feed (frames_of cs) (frames_of ds) p.answers q.answers p.feeds q.feeds);
    wants = Wants-then cs ds p.answers q.answers r p.wants q.wants;
    counts = CountsLines-then pump_command x.tally y.tally z.tally cs ds p.counts q.counts;
    accepted = omega (arith, p.accepted, q.accepted, count_by-append is_ok p.answers q.answers);
  }

  pub Pumps-none : (x : Pumping F) → Pumps gives x [] (Ok tt) x
  Pumps-none x = record { answers = []; feeds = refl; wants = refl; counts = CountsLines-none pump_command x.tally; accepted = omega arith }
