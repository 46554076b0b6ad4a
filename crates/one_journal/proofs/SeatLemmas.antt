-- The journal of a closed station as a merge of what its seats did, and the calls of a receiver.
use Rattle.std.proofs.Common.{All, ◌≡◌, ◌∙◌, ℕ, ◌+◌, ◌<◌, ◌≤◌, Bool, List, [], ◌++◌, Result, drop, length, length-append, refl, sym, ap, subst, arith, sum}
use Rattle.std.specs.List.{Contains}
use Rattle.std.proofs.lemmas.List.Elements.{All-contains, All-from_recursion}
use mathlib.Core.List.{IsPrefix}
use native.Mathlib.Decide.{dec_lt}
use Rattle.streams.specs.Source.{SourceState}
use Rattle.station_journal.specs.declared.entry.Entry.{Entry}
use Rattle.station_history.specs.Start.{Start}
use Rattle.station_lines.specs.Calls.{frames_of}
use Rattle.station_lines.specs.declared.pumping.PumpFault.{PumpFault}
use Rattle.station_lines.specs.declared.tally.Tally.{Tally}
use Rattle.station_shared.specs.Closing.{Closes, counts_below}
use Rattle.station_shared.specs.Seats.{Seated, count_of_seat, new_seat, own_entries}
use Rattle.station_shared.specs.Workers.{Works}
use Rattle.one_journal.specs.Merge.{Deed, Did, DoesIn, IsMerge, accepted_in, entries_of_seat}
use Rattle.one_journal.specs.Receiver.{IsReceiver, feeds}
use Rattle.one_journal.proofs.ClosedLemmas.{dropped-front, in-journal, no-other}
use Rattle.one_journal.proofs.StepLemmas.{Stepped, fed, fed-did}
use Rattle.one_journal.proofs.WalkLemmas.{begins-trans, grows, longer, own-prefix, seen-whole, walks-prefix}

module _ (start : Start) (entries journal : List Entry) (n : ℕ) (seats : List Seated) (did : ℕ → List Deed) (resumed : start.resumed ≡ length entries) (some : 0 < n) (closes : Closes start n journal seats)
    (each_did : (k : ℕ) → k < n → (end : Seated) × Contains seats end × ((can_look : Bool) × Stepped start (new_seat entries can_look k) (did k) end)) (nobody_else : (k : ℕ) → n ≤ k → did k ≡ []) where
  abbrev own : List Entry
  own = own_entries start journal

  has-seen : (end : Seated) → Contains seats end → IsPrefix end.seen journal
  has-seen end among = All-contains (λ (s : Seated). IsPrefix s.seen journal) seats end (All-from_recursion (λ (s : Seated). IsPrefix s.seen journal) seats closes.seen) among

  has-counted : (end : Seated) → Contains seats end → count_of_seat end.number own ≡ end.accepted
  has-counted end among =
      All-contains (λ (s : Seated). count_of_seat s.number own ≡ s.accepted) seats end (All-from_recursion (λ (s : Seated). count_of_seat s.number own ≡ s.accepted) seats closes.each) among

  begins : IsPrefix entries journal
  begins =
      let first = each_did 0 some in
      begins-trans entries first.0.seen journal (walks-prefix start 0 entries (did 0) first.0.seen first.2.1.walks) (has-seen first.0 first.1)

  own-are : journal ≡ entries ++ own
  own-are =
      let dropped : own ≡ begins.0 = ap {B = List Entry} (λ (m : ℕ). drop m journal) resumed ∙ ap (drop (length entries)) (sym begins.1) ∙ dropped-front entries begins.0 in
      sym begins.1 ∙ ap (λ (es : List Entry). entries ++ es) (sym dropped)

  not-below : (k : ℕ) → ¬ (k < n) → n ≤ k
  not-below k outside = omega (arith, outside)

  each-seat : (k : ℕ) → Dec (k < n) → DoesIn start journal k [] entries (did k) × (entries_of_seat k own ≡ accepted_in (did k))
  each-seat k (yes inside) =
      let it = each_did k inside in
      in-journal start entries journal it.2.0 k (did k) it.0 resumed it.2.1 (has-seen it.0 it.1) (has-counted it.0 it.1)
  each-seat k (no outside) =
      let none = nobody_else k (not-below k outside) in
      let total : start.resumed + sum (counts_below n own) ≡ length journal = ap {B = ℕ} (λ (ns : List ℕ). start.resumed + sum ns) (sym closes.by_number) ∙ closes.all in
      let many : sum (counts_below n own) ≡ length own = omega (arith, total, resumed, ap {B = ℕ} (λ (es : List Entry). length es) own-are, length-append entries own) in
      (subst (DoesIn start journal k [] entries) (sym none) begins, no-other n own many k (not-below k outside) ∙ ap {B = List Entry} accepted_in (sym none))

  pub seats-merge : IsMerge start entries journal did
  seats-merge = record {
    legal = closes.legal;
    begins = own-are;
    each = λ (k : ℕ). (each-seat k (dec_lt k n)).1;
    decided = λ (k : ℕ). (each-seat k (dec_lt k n)).0;
  }

  -- a seat has seen its accepted calls
  own-seen : (number : ℕ) (can_look : Bool) (end : Seated) (seen : List Entry) → Stepped start (new_seat entries can_look number) (did number) end → entries_of_seat number own ≡ accepted_in (did number) → IsPrefix end.seen seen
      → length (entries_of_seat number own) ≤ length (entries_of_seat number (own_entries start seen))
  own-seen number can_look end seen steps all later =
      let many = grows start journal number entries (did number) end.seen (omega (arith, resumed)) steps.walks in
      let more = longer (entries_of_seat number (own_entries start end.seen)) (entries_of_seat number (own_entries start seen)) (own-prefix start number end.seen seen later) in
      omega (arith, many, more, ap {B = ℕ} (λ (es : List Entry). length es) all)

  each-seen : (seen : List Entry) → All (λ (s : Seated). IsPrefix s.seen seen) seats → (k : ℕ) → Dec (k < n) → length (entries_of_seat k own) ≤ length (entries_of_seat k (own_entries start seen))
  each-seen seen told k (yes inside) =
      let it = each_did k inside in
      own-seen k it.2.0 it.0 seen it.2.1 (each-seat k (yes inside)).1 (All-contains (λ (s : Seated). IsPrefix s.seen seen) seats it.0 told it.1)
  each-seen seen told k (no outside) =
      let none = (each-seat k (no outside)).1 ∙ ap {B = List Entry} accepted_in (nobody_else k (not-below k outside)) in
      omega (arith, ap {B = ℕ} (λ (es : List Entry). length es) none)

  -- who has seen all that each seat has seen has seen the whole journal
  pub sees-whole : (seen : List Entry) → IsPrefix seen journal → All (λ (s : Seated). IsPrefix s.seen seen) seats → seen ≡ journal
  sees-whole seen part told =
      let first = each_did 0 some in
      let least = longer entries first.0.seen (walks-prefix start 0 entries (did 0) first.0.seen first.2.1.walks) in
      let more = longer first.0.seen seen (All-contains (λ (s : Seated). IsPrefix s.seen seen) seats first.0 told first.1) in
      seen-whole start seen journal (omega (arith, resumed, least, more)) part (λ (k : ℕ). each-seen seen told k (dec_lt k n))

-- the calls of a receiver, with the lines that its pump took
abbrev pub receiver-calls : (start : Start) (old new : Seated) (source_old source_new : SourceState) (turns : ℕ) (result : Result Tally PumpFault) (works : Works start old new source_old source_new turns result)
    → IsReceiver old.number source_old source_new turns result (feeds old.number (frames_of works.pumps.lines) works.pumps.answers)
receiver-calls start old new source_old source_new turns result works =
    let pumps = works.pumps in record {
      lines = pumps.lines;
      draws = pumps.draws;
      answers = pumps.answers;
      each = (fed start old new (frames_of pumps.lines) pumps.answers pumps.feeds).1;
      calls = refl;
      wants = pumps.wants;
      counts = pumps.counts;
      accepted = pumps.accepted;
    }

pub receiver-did : (start : Start) (old new : Seated) (source_old source_new : SourceState) (turns : ℕ) (result : Result Tally PumpFault) (works : Works start old new source_old source_new turns result)
    → IsReceiver old.number source_old source_new turns result (feeds old.number (frames_of works.pumps.lines) works.pumps.answers) × Did start old (feeds old.number (frames_of works.pumps.lines) works.pumps.answers) new
receiver-did start old new source_old source_new turns result works =
    (receiver-calls start old new source_old source_new turns result works, fed-did start old new (frames_of works.pumps.lines) works.pumps.answers works.pumps.feeds)
