-- The receivers of a round: their answers, the numbers of their seats, and what a closed station has served.
use Rattle.std.proofs.Common.{zero, suc, ◌≡◌, ◌∙◌, ℕ, ◌+◌, ◌<◌, Bool, true, false, not, nat_lt, List, [], ◌∷◌, ◌++◌, Option, Some, None, Result, is_some, length, map, get_or, refl, sym, ap, subst, arith, rules, All}
use Rattle.std.proofs.lemmas.Bool.Decides.{nat_tests}
use lib.ListN.{get_or-append}
use Rattle.std.proofs.lemmas.List.{get_or_at, get_or-map, length-map}
use Rattle.station_portions.specs.Giving.{state_of}
use Rattle.streams.specs.Source.{SourceState}
use native.Mathlib.Decide.{dec_lt}
use Rattle.station_journal.specs.declared.entry.Entry.{Entry}
use Rattle.station_history.specs.Start.{Start}
use Rattle.station_shared.proofs.Common.{Closes, EachOnce, Seated, new_seat, new_seats, newcomer, newcomers, Works}
use Rattle.station_portions.specs.declared.portions.Portions.{Portions}
use Rattle.station_lines.specs.declared.pumping.PumpFault.{PumpFault}
use Rattle.station_lines.specs.declared.tally.Tally.{Tally}
use Rattle.station_portions.specs.declared.finished_path.WholePath.{WholePath}
use Rattle.messages.proofs.Common.{AddsAll, AddsEach}
use Rattle.station_paths.proofs.Common.{AllTakeFrom}
use Rattle.station_run.proofs.Common.{most_reads, AreNumbered, HavePumped, HaveWorked, IsClosed}
use Rattle.station_run.proofs.RunJobLemmas.{length_new_seats}
use Rattle.std.proofs.lemmas.Option.{same_Some}
use Rattle.station_run.proofs.SeatNumberLemmas.{all_once}

-- ---- elements of lists

-- a default for the elements of a list that has some
default_for : {X : Type 0} (xs : List X) (i : ℕ) → i < length xs → X
default_for [] i inside = absurd (omega (arith, inside))
default_for (x ∷ xs) i inside = x

new_seat_by : (entries : List Entry) (blind n i : ℕ) (d : Seated) → i < n + 1 → Dec (i < n) → (i < n → get_or (new_seats entries blind n) i d ≡ new_seat entries (not (nat_lt i blind)) i)
    → get_or (new_seats entries blind n ++ new_seat entries (not (nat_lt n blind)) n ∷ []) i d ≡ new_seat entries (not (nat_lt i blind)) i
new_seat_by entries blind n i d inside (yes before) earlier = get_or-append (new_seats entries blind n) _ d i (omega (arith, before, length_new_seats entries blind n)) ∙ earlier before
new_seat_by entries blind n i d inside (no past) earlier =
    let last : n ≡ i = omega (arith, inside, past) in
    get_or_at (new_seats entries blind n) (new_seat entries (not (nat_lt n blind)) n) [] d i (length_new_seats entries blind n ∙ last)
    ∙ ap (λ (k : ℕ). new_seat entries (not (nat_lt k blind)) k) last

new_seat_at : (entries : List Entry) (blind n i : ℕ) (d : Seated) → i < n → get_or (new_seats entries blind n) i d ≡ new_seat entries (not (nat_lt i blind)) i
new_seat_at entries blind zero i d inside = absurd (omega (arith, inside))
new_seat_at entries blind (suc n) i d inside = new_seat_by entries blind n i d (omega (arith, inside)) (dec_lt i n) (new_seat_at entries blind n i d)

newcomer_at : (entries : List Entry) (n i : ℕ) (d : Seated) → i < n → get_or (newcomers entries n) i d ≡ new_seat entries false i
newcomer_at entries n i d inside =
    let blind : not (nat_lt i n) ≡ false = grind (arith, nat_tests) in
    new_seat_at entries n n i d inside ∙ ap (λ (can_look : Bool). new_seat entries can_look i) blind

-- ---- the answers of receivers

answer_there : {T : Type 0} (o : Option T) → is_some o ≡ true → (x : T) × (o ≡ Some x)
answer_there None e = absurd (search rules)
answer_there (Some x) e = (x, refl)

pub answers_of : {W T : Type 0} (answer : W → Option T) (ws : List W) → All (λ w. is_some (answer w) ≡ true) ws → (answers : List T) × (map answer ws ≡ map Some answers)
answers_of answer [] all = ([], refl)
answers_of answer (w ∷ ws) all =
    let one = answer_there (answer w) (all zero w (omega arith)) in
    let rest = answers_of answer ws (λ k d inside. all (suc k) d (omega (arith, inside))) in
    (one.0 ∷ rest.0, cc (one.1, rest.1))

module _ {W R : Type 0} (start : Start) (entries : List Entry) (seat : W → Seated) (source : W → Portions R) (answer : W → Option (Result Tally PumpFault)) where
  one_receives : (inputs : List (Portions R)) (old new : List W) (answers : List (Result Tally PumpFault)) → map seat old ≡ newcomers entries (length inputs) → map source old ≡ inputs
      → HaveWorked start seat source answer old new → map answer new ≡ map Some answers
      → (i : ℕ) (b : SourceState) (s : Seated) (a : Result Tally PumpFault) → i < length inputs
      → Works start (new_seat entries false i) (get_or (map seat new) i s) (get_or (map state_of inputs) i b) (get_or (map state_of (map source new)) i b) most_reads (get_or answers i a)
  one_receives inputs old new answers seats sources worked answered i b s a inside =
      let many : length old ≡ length inputs = sym (length-map old source) ∙ ap length sources in
      let in_old : i < length old = omega (arith, inside, many) in
      let in_new : i < length new = omega (arith, in_old, worked.many) in
      let size : length answers ≡ length new = sym (length-map answers Some) ∙ ap length (sym answered) ∙ length-map new answer in
      let in_answers : i < length answers = omega (arith, in_new, size) in
      let d = default_for old i in_old in
      let was = get_or old i d in
      let is = get_or new i d in
      let work = worked.each i d in_old in
      let in_sources : i < length (map source new) = omega (arith, in_new, length-map new source) in
      let before_is : state_of (source was) ≡ get_or (map state_of inputs) i b =
      ap state_of (sym (get_or-map source old i d (source d) in_old) ∙ ap (λ l. get_or l i (source d)) sources) ∙ sym (get_or-map state_of inputs i (source d) b inside) in
      let after_is : state_of (source is) ≡ get_or (map state_of (map source new)) i b =
      ap state_of (sym (get_or-map source new i d (source d) in_new)) ∙ sym (get_or-map state_of (map source new) i (source d) b in_sources) in
      let old_is : seat was ≡ new_seat entries false i = sym (get_or-map seat old i d (seat d) in_old) ∙ ap (λ l. get_or l i (seat d)) seats ∙ newcomer_at entries (length inputs) i (seat d) inside in
      let new_is : get_or (map seat new) i s ≡ seat is = get_or-map seat new i d s in_new in
      let answer_is : work.result ≡ get_or answers i a =
      same_Some _ _ (sym work.answered ∙ sym (get_or-map answer new i d (Some a) in_new) ∙ ap (λ l. get_or l i (Some a)) answered ∙ get_or-map Some answers i a (Some a) in_answers) in
      subst (λ x. Works start (new_seat entries false i) (get_or (map seat new) i s) x (get_or (map state_of (map source new)) i b) most_reads (get_or answers i a)) before_is
      (subst (λ x. Works start (new_seat entries false i) (get_or (map seat new) i s) (state_of (source was)) x most_reads (get_or answers i a)) after_is
      (subst (λ x. Works start x (get_or (map seat new) i s) (state_of (source was)) (state_of (source is)) most_reads (get_or answers i a)) old_is
      (subst (λ x. Works start (seat was) x (state_of (source was)) (state_of (source is)) most_reads (get_or answers i a)) (sym new_is)
      (subst (λ x. Works start (seat was) (seat is) (state_of (source was)) (state_of (source is)) most_reads x) answer_is work.works))))

  pub have_pumped : (inputs : List (Portions R)) (old new : List W) (answers : List (Result Tally PumpFault)) → map seat old ≡ newcomers entries (length inputs) → map source old ≡ inputs
      → HaveWorked start seat source answer old new → map answer new ≡ map Some answers
      → HavePumped start entries (map state_of inputs) (map state_of (map source new)) (map seat new) answers
  have_pumped inputs old new answers seats sources worked answered =
      let many : length old ≡ length inputs = sym (length-map old source) ∙ ap length sources in
      let size : length answers ≡ length new = sym (length-map answers Some) ∙ ap length (sym answered) ∙ length-map new answer in
      let inputs_size = length-map inputs state_of in
      record {
        many_sources = length-map (map source new) state_of ∙ length-map new source ∙ worked.many ∙ many ∙ sym inputs_size;
        many_seats = length-map new seat ∙ worked.many ∙ many ∙ sym inputs_size;
        many_answers = size ∙ worked.many ∙ many ∙ sym inputs_size;
        each = λ i b s a inside. one_receives inputs old new answers seats sources worked answered i b s a (omega (arith, inside, inputs_size));
      }

  pub all_answered : (old new : List W) → HaveWorked start seat source answer old new → All (λ w. is_some (answer w) ≡ true) new
  all_answered old new worked = λ i d inside. ap is_some (worked.each i d (omega (arith, inside, worked.many))).answered

  -- each receiver's seat keeps its number
  pub seats_numbered : (inputs : List (Portions R)) (old new : List W) → map seat old ≡ newcomers entries (length inputs) → map source old ≡ inputs
      → HaveWorked start seat source answer old new → (i : ℕ) (d : Seated) → i < length inputs → (get_or (map seat new) i d).number ≡ i
  seats_numbered inputs old new seats sources worked i d inside =
      let many : length old ≡ length inputs = sym (length-map old source) ∙ ap length sources in
      let in_old : i < length old = omega (arith, inside, many) in
      let in_new : i < length new = omega (arith, in_old, worked.many) in
      let e = default_for old i in_old in
      let work = worked.each i e in_old in
      let old_is : seat (get_or old i e) ≡ new_seat entries false i = sym (get_or-map seat old i e (seat e) in_old) ∙ ap (λ l. get_or l i (seat e)) seats ∙ newcomer_at entries (length inputs) i (seat e) inside in
      ap (λ (s : Seated). s.number) (get_or-map seat new i e d in_new) ∙ work.works.fed.number ∙ ap (λ (s : Seated). s.number) old_is

  -- and so does the reporter's
  pub are_numbered : (inputs : List (Portions R)) (old new : List W) (n : ℕ) (first last : Seated) → map seat old ≡ newcomers entries (length inputs) → map source old ≡ inputs → HaveWorked start seat source answer old new
      → n ≡ length inputs + 1 → first ≡ newcomer entries (length inputs) → last.number ≡ first.number → AreNumbered n last (map seat new)
  are_numbered inputs old new n first last seats sources worked count is same =
      let many : length (map seat new) ≡ length inputs = length-map new seat ∙ worked.many ∙ sym (length-map old source) ∙ ap length sources in
      record {
        many = omega (arith, many, count);
        last = same ∙ ap (λ (s : Seated). s.number) is ∙ sym many;
        each = λ i d inside. seats_numbered inputs old new seats sources worked i d (omega (arith, inside, many));
      }

-- ---- what was counted before is added

pub adds_each : (before since sums : List (Result Tally PumpFault)) → AddsAll before (map Some since) sums → AddsEach before since sums
adds_each [] [] [] adds = tt
adds_each [] [] (s ∷ sums) adds = absurd adds
adds_each [] (x ∷ since) sums adds = absurd adds
adds_each (b ∷ before) [] sums adds = absurd adds
adds_each (b ∷ before) (x ∷ since) [] adds = absurd adds
adds_each (b ∷ before) (x ∷ since) (s ∷ sums) adds = (adds.0, adds_each before since sums adds.1)

-- ---- the end of a station

-- a station that is closed with such seats
pub closed_by : (start : Start) (n : ℕ) (entries : List Entry) (seats : List Seated) (reporter : Seated) (receivers : List Seated) → AreNumbered n reporter receivers → seats ≡ reporter ∷ receivers → Closes start n entries seats
    → IsClosed start (record { reporter = reporter; receivers = receivers; journal = entries })
closed_by start n entries seats reporter receivers numbered same closes = record {
  once = subst (λ (k : ℕ). EachOnce k (reporter ∷ receivers)) (sym numbered.many) (all_once n reporter receivers numbered);
  closes = subst (λ (k : ℕ). Closes start k entries (reporter ∷ receivers)) (sym numbered.many) (subst (Closes start n entries) same closes);
}

-- ---- the threads that sources take from

rings-take : {I : Type 0} (promises : List (WholePath I)) (old new : List SourceState) → length new ≡ length old → ((i : ℕ) (d : SourceState) → i < length old → (get_or new i d).ring ≡ (get_or old i d).ring)
    → AllTakeFrom promises old → AllTakeFrom promises new
rings-take [] [] [] many same take = tt
rings-take (promise ∷ promises) (o ∷ old) (n ∷ new) many same take = (
  record { ring = same zero o (omega arith) ∙ take.0.ring; new = take.0.new },
  rings-take promises old new (omega (arith, many)) (λ i d inside. same (suc i) d (omega (arith, inside))) take.1,
)
rings-take [] [] (n ∷ new) many same take = absurd (omega (arith, many))
rings-take [] (o ∷ old) new many same take = absurd take
rings-take (promise ∷ promises) [] new many same take = absurd take
rings-take (promise ∷ promises) (o ∷ old) [] many same take = absurd (omega (arith, many))

-- sources that were pumped take from the threads that they took from
pub pumped-take : {I : Type 0} (promises : List (WholePath I)) (start : Start) (entries : List Entry) (old new : List SourceState) (seats : List Seated) (answers : List (Result Tally PumpFault)) → HavePumped start entries old new seats answers
    → AllTakeFrom promises old → AllTakeFrom promises new
pumped-take promises start entries old new seats answers pumped take =
    rings-take promises old new pumped.many_sources
    (λ i d inside.
    let work = pumped.each i d (default_for seats i (omega (arith, inside, pumped.many_seats))) (default_for answers i (omega (arith, inside, pumped.many_answers))) inside in
    work.pumps.draws.bytes.2)
    take
