-- The seats of a station as it begins, and when it can't go on from what was kept.
use Rattle.std.proofs.Common.{◌≡◌, ◌∙◌, ℕ, ◌+◌, ◌-◌, ◌<◌, ◌≤◌, List, [], ◌∷◌, ◌++◌, get_or, length, length-append, map, refl, subst, sym, ap, take, reverse, arith}
use Rattle.std.proofs.lemmas.List.{length-reverse, length-take-le, map_more, take_all}
use Rattle.station_journal.specs.declared.entry.Entry.{Entry}
use Rattle.station_journal.specs.declared.limits.Limits.{Limits}
use Rattle.station_journal.specs.declared.recent.ResumeFault.{ResumeFault}
use Rattle.station_journal.specs.declared.recent.ResumeFault.TheVariants.{TooManyEntries, Unsound, NoMemory}
use Rattle.station_journal.proofs.Common.{IsSound, Refuses}
use Rattle.station_journal.proofs.SoundLemmas.{sound_by_fits}
use Rattle.station_journal.proofs.StandsLemmas.{length_sound}
use Rattle.station_desk.proofs.StartLemmas.{sound_at, sound_front}
use Rattle.station_shared.specs.Seats.{HasLearned, Seated, new_seats, newcomer, newcomers}
use Rattle.station_shared.proofs.NewcomerLemmas.{one_place}
use Rattle.station_run.proofs.Common.{LearnsFrom}

-- ---- a sound list is refused only if out of memory

pub wants_memory : (limits : Limits) (base : ℕ) (entries : List Entry) (fault : ResumeFault) → IsSound limits base (reverse entries) → Refuses limits base entries fault → (fault ≡ NoMemory → ⊥) → ⊥
wants_memory limits base entries (TooManyEntries n) sound refuses other = omega (arith, refuses.1, length_sound limits base (reverse entries) sound, length-reverse entries)
wants_memory limits base entries (Unsound k) sound refuses other =
    let front = take (k + 1) entries in
    let few : length front ≤ limits.entries = omega (arith, refuses.0, length-take-le (k + 1) entries (omega (arith, refuses.1.within)), refuses.1.within) in
    refuses.1.with_it (sound_at limits limits.aircraft base front refl few (sound_front limits.aircraft base (k + 1) entries (sound_by_fits limits base (reverse entries) sound)))
wants_memory limits base entries NoMemory sound refuses other = other refl

-- ---- the last of the seats

pub snoc_end : {A : Type 0} (xs ys : List A) (x y : A) → xs ++ x ∷ [] ≡ ys ++ y ∷ [] → x ≡ y
snoc_end [] [] x y e = cc
snoc_end [] (b ∷ ys) x y e = absurd (omega (arith, ap length e, length-append ys (y ∷ [])))
snoc_end (a ∷ xs) [] x y e = absurd (omega (arith, ap length e, length-append xs (x ∷ [])))
snoc_end (a ∷ xs) (b ∷ ys) x y e = snoc_end xs ys x y (cc (e))

-- ---- the seats before it

pub snoc_front : {A : Type 0} (xs ys : List A) (x y : A) → xs ++ x ∷ [] ≡ ys ++ y ∷ [] → xs ≡ ys
snoc_front [] [] x y e = refl
snoc_front [] (b ∷ ys) x y e = absurd (omega (arith, ap length e, length-append ys (y ∷ [])))
snoc_front (a ∷ xs) [] x y e = absurd (omega (arith, ap length e, length-append xs (x ∷ [])))
snoc_front (a ∷ xs) (b ∷ ys) x y e = let rest = snoc_front xs ys x y (cc (e)) in cc (e, rest)

-- ---- the seats of a station: the last is the reporter's, those before it are the receivers'

pub seats_made : (entries : List Entry) (count places : ℕ) (seats : List Seated) → places ≡ 1 → seats ≡ new_seats entries (count + 1 - places) (count + 1) → seats ≡ newcomers entries count ++ newcomer entries count ∷ []
seats_made entries count places seats one made =
    let blind : count + 1 - places ≡ count = omega arith in
    made ∙ ap (λ (b : ℕ). new_seats entries b (count + 1)) blind ∙ one_place entries count

pub reporter_seat : (entries : List Entry) (count inputs : ℕ) (seats others : List Seated) (last : Seated) → seats ≡ others ++ last ∷ [] → seats ≡ newcomers entries count ++ newcomer entries count ∷ [] → count ≡ inputs → last ≡ newcomer entries inputs
reporter_seat entries count inputs seats others last split made many =
    snoc_end others (newcomers entries count) last (newcomer entries count) (sym split ∙ made) ∙ ap (λ n. newcomer entries n) many

pub receiver_seats : (entries : List Entry) (count inputs : ℕ) (seats others : List Seated) (last : Seated) → seats ≡ others ++ last ∷ [] → seats ≡ newcomers entries count ++ newcomer entries count ∷ [] → count ≡ inputs → others ≡ newcomers entries inputs
receiver_seats entries count inputs seats others last split made many =
    snoc_front others (newcomers entries count) last (newcomer entries count) (sym split ∙ made) ∙ ap (λ n. newcomers entries n) many

-- ---- what a seat learned

-- a seat that learned from some, and then from one more
learns-more : (old mid new : Seated) (seats : List Seated) (seat : Seated) → LearnsFrom old seats mid → HasLearned mid new seat.seen → LearnsFrom old (seats ++ seat ∷ []) new
learns-more old mid new [] seat same learned = (new, subst (λ (s : Seated). HasLearned s new seat.seen) same learned, refl)
learns-more old mid new (first ∷ seats) seat (next, one, rest) learned = (next, one, learns-more next mid new seats seat rest learned)

pub learns-next : {W : Type 0} (seat : W → Seated) (ws : List W) (i : ℕ) (w : W) (old mid new : Seated) → i < length ws → w ≡ get_or ws i w → LearnsFrom old (map seat (take i ws)) mid → HasLearned mid new (seat w).seen
    → LearnsFrom old (map seat (take (i + 1) ws)) new
learns-next {W} seat ws i w old mid new inside at learned one =
    subst (λ (ss : List Seated). LearnsFrom old ss new) (sym (map_more seat ws i w inside ∙ ap (λ (r : W). map seat (take i ws) ++ seat r ∷ []) (sym at)))
    (learns-more old mid new (map seat (take i ws)) (seat w) learned one)

pub learns-all : {W : Type 0} (seat : W → Seated) (ws : List W) (i : ℕ) (old new : Seated) → length ws ≤ i → LearnsFrom old (map seat (take i ws)) new → LearnsFrom old (map seat ws) new
learns-all {W} seat ws i old new over learned = subst (λ (rs : List W). LearnsFrom old (map seat rs) new) (take_all i ws over) learned
