-- The numbers of a round's seats: the reporter's seat keeps its own, and the numbers of all are their places.
use Rattle.std.proofs.Common.{zero, suc, ◌≡◌, ◌∙◌, ℕ, ◌+◌, ◌<◌, ◌≤◌, ◌≢◌, Bool, true, false, cond, eqb, ◌⊎◌, inl, inr, ⊎_elim, List, [], ◌∷◌, Option, Some, None, length, get_or, refl, ap, arith, IfSome, count_by, unwrap_or}
use Rattle.std.specs.List.{AllByRecursion}
use Rattle.std.proofs.lemmas.Bool.Decides.{eqb_tells}
use Rattle.std.proofs.lemmas.List.Sums.{sum_by-cons}
use native.Mathlib.Decide.{dec_lt}
use Rattle.station_history.specs.Start.{Start}
use Rattle.station_shared.proofs.Common.{EachOnce, Seated, Looks}
use Rattle.station_report.specs.declared.formats.Format.{Format}
use Rattle.station_reporter.proofs.Common.{PrintsAndRecords, Printing, Recording, IsLater, MayHandOver, ReportsByAClock, Showing, Showings, Ticks, is_broken, seat_after}
use Rattle.station_reporter.specs.declared.duties.Duties.{Duties}
use Rattle.station_reporter.specs.declared.schedule.Due.{Due}
use Rattle.station_reporter.specs.declared.reporter.ReporterResult.{ReporterResult}
use Rattle.station_run.proofs.Common.{AreNumbered, LearnsFrom, PrintsLast}

-- ---- the reporter's seat keeps its number

ticks_number : (start : Start) (old new : Seated) (at : ℕ) → Ticks start old at new → new.number ≡ old.number
ticks_number start old new at (inl accepted) = accepted.1.number
ticks_number start old new at (inr refused) = refused.1.number

look_number : (start : Start) (ticked : Seated) (look : Option Seated) → IfSome look (λ l. Looks start ticked l) → (unwrap_or look ticked).number ≡ ticked.number
look_number start ticked None looks = refl
look_number start ticked (Some l) looks = looks.number

showings_number : (start : Start) (old new : Seated) (showings : List Showing) → Showings start old showings new → new.number ≡ old.number
showings_number start old new [] walk = ap (λ (s : Seated). s.number) walk
showings_number start old new (showing ∷ showings) walk =
    showings_number start (seat_after showing) new showings walk.1
    ∙ look_number start showing.ticked showing.look walk.0.looks
    ∙ ticks_number start old showing.ticked showing.acting.at walk.0.ticks

later_number : (start : Start) (old new : Seated) → IsLater start old new → new.number ≡ old.number
later_number start old new (inl same) = ap (λ (s : Seated). s.number) same
later_number start old new (inr looks) = looks.number

hand_over_number : (start : Start) (duties : Duties) (asked_at : Option ℕ) (due next : Due) (old new : Seated) (broken : Bool) → MayHandOver start duties asked_at due next old new broken → new.number ≡ old.number
hand_over_number start duties None due next old new broken is = ap (λ (s : Seated). s.number) is.0
hand_over_number start duties (Some at) due next old new broken is = ticks_number start old new at is.ticks

pub reporter_numbered : (start : Start) (duties : Duties) (next : Due) (asked_at : Option ℕ) (old new : Seated) (before after : Printing) (was is : Option Recording)
    → ReportsByAClock start duties next asked_at old new before after was is → new.number ≡ old.number
reporter_numbered start duties next asked_at old new before after was is by_clock =
    hand_over_number start duties asked_at by_clock.due next by_clock.mid new (is_broken after) by_clock.hands_over
    ∙ later_number start by_clock.reports.shown by_clock.mid by_clock.reports.later
    ∙ showings_number start old by_clock.reports.shown by_clock.reports.showings by_clock.reports.keeps.walk

pub learned_number : (old : Seated) (seats : List Seated) (new : Seated) → LearnsFrom old seats new → new.number ≡ old.number
learned_number old [] new same = ap (λ (s : Seated). s.number) same
learned_number old (seat ∷ seats) new (mid, learned, rest) = learned_number mid seats new rest ∙ learned.number

pub last_numbered : {K : Type 0} (record_of : K → Option Recording) (format : Format) (start : Start) (none : Bool) (old new : ReporterResult Seated Printing K) → PrintsLast record_of format start none old new → new.seat.number ≡ old.seat.number
last_numbered record_of format start true old new same = ap (λ (r : ReporterResult Seated Printing _). r.seat.number) same
last_numbered record_of format start false old new (printed, prints, fails, due, asked) = printed_number format start old.seat new.seat old.out printed (record_of old.beside) (record_of new.beside) prints
  where
    printed_number : (format : Format) (start : Start) (old new : Seated) (before after : Printing) (was is : Option Recording) → PrintsAndRecords format start old new before after was is → new.number ≡ old.number
    printed_number format start old new before after was is (inl prints) = prints.0.looks.number
    printed_number format start old new before after was is (inr passes) = ap (λ (s : Seated). s.number) passes.0.same_seat

-- ---- seats whose numbers are their places

abbrev times : ℕ → List Seated → ℕ
times k seats = count_by (λ s. eqb k s.number) seats

abbrev Numbered : ℕ → List Seated → Type 0
Numbered from seats = (i : ℕ) (d : Seated) → i < length seats → (get_or seats i d).number ≡ from + i

numbered_rest : (from : ℕ) (s : Seated) (seats : List Seated) → Numbered from (s ∷ seats) → Numbered (from + 1) seats
numbered_rest from s seats numbered = λ i d inside. omega (arith, numbered (suc i) d (omega (arith, inside)))

here : (k : ℕ) (s : Seated) (seats : List Seated) → k ≡ s.number → times k (s ∷ seats) ≡ times k seats + 1
here k s seats same =
    ⊎_elim
    (λ (t : (eqb k s.number ≡ true) × (k ≡ s.number)). omega (arith, sum_by-cons (λ (u : Seated). cond (eqb k u.number) 1 0) s seats, ap {B = ℕ} (λ (b : Bool). cond b 1 0) t.0))
    (λ (t : (eqb k s.number ≡ false) × (k ≢ s.number)). absurd (t.1 same))
    (eqb_tells k s.number)

elsewhere : (k : ℕ) (s : Seated) (seats : List Seated) → (k ≡ s.number → ⊥) → times k (s ∷ seats) ≡ times k seats
elsewhere k s seats other =
    ⊎_elim
    (λ (t : (eqb k s.number ≡ true) × (k ≡ s.number)). absurd (other t.1))
    (λ (t : (eqb k s.number ≡ false) × (k ≢ s.number)). omega (arith, sum_by-cons (λ (u : Seated). cond (eqb k u.number) 1 0) s seats, ap {B = ℕ} (λ (b : Bool). cond b 1 0) t.0))
    (eqb_tells k s.number)

none_outside : (from k : ℕ) (seats : List Seated) → Numbered from seats → (k < from) ⊎ (from + length seats ≤ k) → times k seats ≡ 0
none_outside from k [] numbered outside = refl
none_outside from k (s ∷ seats) numbered outside =
    let first = numbered zero s (omega arith) in
    elsewhere k s seats (λ same. out same first outside)
    ∙ none_outside (from + 1) k seats (numbered_rest from s seats numbered) (beyond outside)
  where
    out : k ≡ s.number → s.number ≡ from + 0 → (k < from) ⊎ (from + length (s ∷ seats) ≤ k) → ⊥
    out same first (inl below) = absurd (omega (arith, same, first, below))
    out same first (inr above) = absurd (omega (arith, same, first, above))

    beyond : (k < from) ⊎ (from + length (s ∷ seats) ≤ k) → (k < from + 1) ⊎ (from + 1 + length seats ≤ k)
    beyond (inl below) = inl (omega (arith, below))
    beyond (inr above) = inr (omega (arith, above))

once_by : (from k : ℕ) (s : Seated) (seats : List Seated) → Numbered from (s ∷ seats) → from ≤ k → Dec (from < k) → (from < k → times k seats ≡ 1) → times k (s ∷ seats) ≡ 1
once_by from k s seats numbered least (yes later) rest =
    let first = numbered zero s (omega arith) in
    elsewhere k s seats (λ same. absurd (omega (arith, same, first, later))) ∙ rest later
once_by from k s seats numbered least (no now) rest =
    let first = numbered zero s (omega arith) in
    let same : k ≡ s.number = omega (arith, now, least, first) in
    let others = none_outside (from + 1) k seats (numbered_rest from s seats numbered) (inl (omega (arith, same, first))) in
    omega (arith, here k s seats same, others)

once_inside : (from k : ℕ) (seats : List Seated) → Numbered from seats → from ≤ k → k < from + length seats → times k seats ≡ 1
once_inside from k [] numbered least most = absurd (omega (arith, least, most))
once_inside from k (s ∷ seats) numbered least most =
    once_by from k s seats numbered least (dec_lt from k) (λ later. once_inside (from + 1) k seats (numbered_rest from s seats numbered) (omega (arith, later)) (omega (arith, most)))

all_below : (from n : ℕ) (seats : List Seated) → Numbered from seats → from + length seats ≤ n → AllByRecursion (λ (s : Seated). s.number < n) seats
all_below from n [] numbered most = tt
all_below from n (s ∷ seats) numbered most = (omega (arith, numbered zero s (omega arith), most), all_below (from + 1) n seats (numbered_rest from s seats numbered) (omega (arith, most)))

-- the reporter's seat comes after those of the receivers
pub each_once : (n : ℕ) (reporter : Seated) (seats : List Seated) → length seats + 1 ≡ n → reporter.number ≡ length seats → ((i : ℕ) (d : Seated) → i < length seats → (get_or seats i d).number ≡ i) → EachOnce n (reporter ∷ seats)
each_once n reporter seats many last numbered = record {
  as_many = omega (arith, many);
  below = (omega (arith, many, last), all_below 0 n seats from_zero (omega (arith, many)));
  once = λ k below. once k below (dec_lt k (length seats));
}
  where
    from_zero : Numbered 0 seats
    from_zero = λ i d inside. omega (arith, numbered i d inside)

    once : (k : ℕ) → k < n → Dec (k < length seats) → times k (reporter ∷ seats) ≡ 1
    once k below (yes among) =
        elsewhere k reporter seats (λ same. absurd (omega (arith, same, last, among)))
        ∙ once_inside 0 k seats from_zero (omega arith) (omega (arith, among))
    once k below (no after) =
        let same : k ≡ reporter.number = omega (arith, below, many, last, after) in
        let rest = none_outside 0 k seats from_zero (inr (omega (arith, same, last))) in
        omega (arith, here k reporter seats same, rest)

pub all_once : (n : ℕ) (reporter : Seated) (receivers : List Seated) → AreNumbered n reporter receivers → EachOnce n (reporter ∷ receivers)
all_once n reporter receivers is = each_once n reporter receivers is.many is.last is.each
