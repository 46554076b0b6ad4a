-- Stations printed tables and recorded lines of which a replay prints these tables.
use Rattle.std.proofs.Common.{◌≡◌, ◌∙◌, ℕ, ◌+◌, ◌≤◌, List, [], ◌∷◌, ◌++◌, Option, Some, refl, sym, ap, subst, append-nil, length, length-append, drop, reverse, false, arith, All, flat_map}
use mathlib.Core.List.{IsPrefix}
use Rattle.std.specs.Io.KnownBytes.{Appends}
use Rattle.std.proofs.KnownBytes.{Appends-trans}
use Rattle.std.proofs.lemmas.List.{length-reverse}
use Rattle.std.proofs.lemmas.List.Elements.{All-head, All-tail}
use Rattle.std.proofs.Math.Seq.{drop-append_seam}
use Rattle.modes_frame.specs.Lines.{cuts}
use Rattle.station_journal.specs.declared.entry.Entry.{Entry}
use Rattle.station_journal.specs.declared.limits.Limits.{Limits}
use Rattle.station_journal.specs.Log.{IsLegal, most_entries}
use Rattle.station_journal.proofs.Common.{Site}
use Rattle.station_journal.proofs.LegalJournalLemmas.{length_legal}
use Rattle.station_replay.proofs.Common.{calls_in, output}
use Rattle.station_history.proofs.Common.{base_of, Start}
use Rattle.station_shared.specs.Seats.{Seated}
use Rattle.station_record.proofs.Common.{all_at, new_log, IsRecordable, last_after, look_lines, record_of, recorded_after, seen_lists, shown_lists, IsNext}
use Rattle.station_record.proofs.GrowthLemmas.{recorded-last}
use Rattle.station_record.proofs.RoundLemmas.{next-continues}
use Rattle.station_reporter.proofs.Common.{AreRecordable, Recording}
use Rattle.station_run.proofs.Common.{RoundStart, GoesOnFrom, KeepsRecent}
use Rattle.shown_again.proofs.KeptEndLemmas.{Begins, all-same, first-is, later, left, resumed_log, size, wide, widened, widened-legal}
use Rattle.shown_again.proofs.LookLemmas.{Grown, Legal, grows-last, text_table}
use Rattle.station_reporter.proofs.PrefixLemmas.{begins-same, begins-trans}
use Rattle.shown_again.proofs.ReadBackLemmas.{At, entries-say, line-count, looks-count, looks-say}
use Rattle.station_files.proofs.RecordedLemmas.{unfailed}
use Rattle.shown_again.proofs.StationLemmas.{StationSays, took}

-- stations printed tables, and recorded lines: a replay under n entries prints these tables after all entries before them. If
-- they are only one station, the lines ask for no more entries than a journal may have
pub record Said (only : Type 0) (given : RoundStart) (before after : Option (List ℕ)) (was is : Recording) : Type 0 where
  pub tables : List ℕ
  pub lines : List ℕ
  pub prints : Appends before after tables
  pub records : Appends was.taken is.taken lines
  pub well : was.has_failed ≡ false
  pub says : (n : ℕ) → most_entries ≤ n → (all : List Entry) → Begins n given all → length all + calls_in (cuts lines) ≤ n → output (all_at 0 (new_log (wide given.site n) all)) (cuts lines) ≡ tables
  pub short : only → length given.entries ≤ most_entries → length given.entries + calls_in (cuts lines) ≤ most_entries

-- a legal journal of a station has no more entries than that
short-enough : (given : RoundStart) (start : Start) → GoesOnFrom given start → (seen : List Entry) → Legal start seen → length seen ≤ most_entries
short-enough given start goes_on seen legal =
    let few = length_legal start.limits (base_of start.history) start.resumed (reverse seen) legal in
    omega (arith, few, length-reverse seen, ap (λ (l : Limits). l.entries) goes_on.limits)

last-short : (given : RoundStart) (start : Start) → GoesOnFrom given start → (front : List Entry) (lists : List (List Entry)) → length front ≤ most_entries → All (Legal start) lists → length (last_after front lists) ≤ most_entries
last-short given start goes_on front [] few legal = few
last-short given start goes_on front (seen ∷ later) few legal =
    last-short given start goes_on seen later (short-enough given start goes_on seen (All-head (Legal start) seen later legal)) (All-tail (Legal start) seen later legal)

-- a station with nothing after it
pub only-said : (only : Type 0) (given : RoundStart) (start : Start) (closing : Seated) (before after : Option (List ℕ)) (was is : Recording) → was.recorded ≡ length given.entries → GoesOnFrom given start → StationSays given start closing before after was is
    → Said only given before after was is
only-said only given start closing before after was is known goes_on station_says =
    let looks = station_says.looks in
    let lists = seen_lists looks in
    let front = given.entries in
    let recordable : AreRecordable (length front) lists = subst (λ (n : ℕ). AreRecordable n lists) known station_says.recordable in
    let end = last_after front lists in
    let is_grown : Grown start front end lists = record { grows = station_says.grown.grows; last = begins-same end end refl; legal = station_says.grown.legal } in
    let bytes = look_lines (length front) looks in
    let same_lines : calls_in (cuts (bytes ++ [])) ≡ calls_in (cuts bytes) = ap (λ (bs : List ℕ). calls_in (cuts bs)) (append-nil bytes) in
    let count = looks-count front looks is_grown.grows recordable [] in
    record {
      tables = flat_map (text_table start) (shown_lists looks);
      lines = bytes;
      prints = station_says.prints;
      records = subst (λ (n : ℕ). Appends was.taken is.taken (look_lines n looks)) known station_says.records;
      well = station_says.well;
      says = λ n wider all begins few.
          let before_it = left n wider given start goes_on all begins in
          let whole = size n wider given start goes_on all begins in
          let same = all-same n wider given start goes_on all begins end lists (omega (arith, few, whole, count, same_lines)) is_grown in
          first-is n wider given start goes_on all begins bytes
          ∙ ap (λ (bs : List ℕ). At start (wide given.site n) before_it front bs) (sym (append-nil bytes))
          ∙ looks-say start (wide given.site n) before_it front looks is_grown.grows recordable same []
          ∙ append-nil (flat_map (text_table start) (shown_lists looks));
      short = λ last few.
          let all_short = last-short given start goes_on front lists few is_grown.legal in
          omega (arith, all_short, count, same_lines);
    }

-- a station whose recent entries the next goes on from
module _ (given kept : RoundStart) (start : Start) (closing : Seated) (journal : List Entry) (before mid after : Option (List ℕ)) (was shown recorded is : Recording) (known : was.recorded ≡ length given.entries) (well : recorded.has_failed ≡ false) where
  pub still-well : KeepsRecent start journal kept (Some shown) (Some recorded) → shown.has_failed ≡ false
  still-well keeps = unfailed shown recorded (record_of (drop shown.recorded journal)) keeps.records.takes well

  pub handed-on : (only later_only : Type 0) → (only → ⊥) → GoesOnFrom given start → StationSays given start closing before mid was shown → Legal start journal → IsPrefix closing.seen journal → KeepsRecent start journal kept (Some shown) (Some recorded)
      → Said later_only kept mid after recorded is → Said only given before after was is
  handed-on only later_only not_only goes_on station_says legal begins_journal keeps rest =
      let left_over = keeps.records in
      let looks = station_says.looks in
      let lists = seen_lists looks in
      let front = given.entries in
      let recordable : AreRecordable (length front) lists = subst (λ (n : ℕ). AreRecordable n lists) known station_says.recordable in
      let end = last_after front lists in
      let to : IsPrefix end journal = begins-trans end closing.seen journal station_says.grown.last begins_journal in
      let is_grown : Grown start front journal lists = record { grows = station_says.grown.grows; last = to; legal = station_says.grown.legal } in
      let shown_count : shown.recorded ≡ length end = station_says.recorded ∙ ap (λ (n : ℕ). recorded_after n lists) known ∙ recorded-last front lists in
      let beyond : drop shown.recorded journal ≡ to.0 = ap (λ (n : ℕ). drop n journal) shown_count ∙ ap (λ (es : List Entry). drop (length end) es) (sym to.1) ∙ drop-append_seam end to.0 in
      let tail = record_of to.0 in
      let bytes = look_lines (length front) looks in
      let recordable_tail : All IsRecordable to.0 = subst (All IsRecordable) beyond (left_over.recordable well) in
      let records_tail : Appends shown.taken recorded.taken tail = subst (λ (es : List Entry). Appends shown.taken recorded.taken (record_of es)) beyond (took shown recorded (record_of (drop shown.recorded journal)) left_over.takes well) in
      let records_looks : Appends was.taken shown.taken bytes = subst (λ (n : ℕ). Appends was.taken shown.taken (look_lines n looks)) known station_says.records in
      let others = tail ++ rest.lines in
      let count = looks-count front looks is_grown.grows recordable others in
      let count_tail = line-count to.0 recordable_tail rest.lines in
      let size_journal : length journal ≡ length end + length to.0 = ap length (sym to.1) ∙ length-append end to.0 in
      record {
        tables = flat_map (text_table start) (shown_lists looks) ++ rest.tables;
        lines = bytes ++ others;
        prints = Appends-trans before mid after (flat_map (text_table start) (shown_lists looks)) rest.tables station_says.prints rest.prints;
        records = Appends-trans was.taken shown.taken is.taken bytes others records_looks (Appends-trans shown.taken recorded.taken is.taken tail rest.lines records_tail rest.records);
        well = station_says.well;
        says = λ n wider all begins few.
            let before_it = left n wider given start goes_on all begins in
            let whole = size n wider given start goes_on all begins in
            let size_all : length (before_it ++ journal) ≡ length before_it + length journal = length-append before_it journal in
            let same = all-same n wider given start goes_on all begins journal lists (omega (arith, few, whole, count, count_tail, size_journal)) is_grown in
            let begun_with : IsPrefix front journal = begins-trans front end journal (grows-last front lists is_grown.grows) to in
            let on = later n wider given start goes_on all begins journal begun_with legal (omega (arith, few, whole, count, count_tail, size_journal)) in
            let site_is : kept.site ≡ given.site = keeps.site ∙ ap (λ (l : Limits). l.site) goes_on.limits in
            let next : IsNext (widened n wider given start goes_on journal) (resumed_log n kept) = record { limits = ap (λ (site : Site). wide site n) site_is; base = keeps.base; entries = keeps.entries } in
            let begins_next : Begins n kept (before_it ++ journal) = record {
              continues = next-continues (before_it ++ journal) (widened n wider given start goes_on journal) (resumed_log n kept) on.kept_end (widened-legal n wider given start goes_on journal legal) next;
              legal = subst (λ (site : Site). IsLegal (new_log (wide site n) (before_it ++ journal))) (sym site_is) on.same.legal;
            } in
            let legal_to : IsLegal (new_log (wide given.site n) (before_it ++ (end ++ to.0))) = subst (λ (es : List Entry). IsLegal (new_log (wide given.site n) (before_it ++ es))) (sym to.1) on.same.legal in
            first-is n wider given start goes_on all begins (bytes ++ others)
            ∙ looks-say start (wide given.site n) before_it front looks is_grown.grows recordable same others
            ∙ ap (λ (bs : List ℕ). flat_map (text_table start) (shown_lists looks) ++ bs)
            (entries-say start (wide given.site n) before_it end to.0 recordable_tail legal_to rest.lines
            ∙ ap (λ (es : List Entry). At start (wide given.site n) before_it es rest.lines) to.1
            ∙ ap (λ (site : Site). output (all_at 0 (new_log (wide site n) (before_it ++ journal))) (cuts rest.lines)) (sym site_is)
            ∙ rest.says n wider (before_it ++ journal) begins_next (omega (arith, few, whole, count, count_tail, size_journal, size_all)));
        short = λ last few. absurd (not_only last);
      }
