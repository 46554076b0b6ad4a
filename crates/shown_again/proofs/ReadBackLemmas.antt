-- A replay of the lines of a station's looks, after all entries before it, prints what the looks printed.
use Rattle.std.proofs.Common.{◌≡◌, ◌∙◌, ℕ, ◌+◌, Bool, true, false, List, [], ◌∷◌, ◌++◌, Result, Ok, refl, sym, ap, subst, append_assoc, append-nil, cond, length, length-append, drop, arith, All, flat_map}
use Rattle.std.proofs.lemmas.List.Elements.{All-head, All-tail}
use Rattle.std.proofs.Math.Seq.{drop-append_seam}
use Rattle.modes_frame.specs.declared.cutter.Cut.{Cut}
use Rattle.modes_frame.specs.Lines.{cuts}
use Rattle.station_journal.specs.declared.entry.Entry.{Entry}
use Rattle.station_journal.specs.declared.entry.Entry.TheVariants.{Tick, Heard}
use Rattle.station_journal.specs.declared.limits.Limits.{Limits}
use Rattle.station_journal.specs.Log.{IsLegal}
use Rattle.station_replay.proofs.Common.{call_count, calls_in, output}
use Rattle.station_history.proofs.Common.{Start}
use Rattle.station_record.proofs.Common.{all_at, new_log, command_of_entry, text_after, Grows, IsRecordable, RecordedLook, last_after, line_of, look_lines, record_of, seen_lists, show_if, show_line, shown_lists}
use Rattle.station_record.proofs.LineLemmas.{IsLine, cuts-line, entry-is, show-is}
use Rattle.station_record.proofs.ShowLemmas.{output-goes-on, output-show}
use Rattle.station_lines.specs.Calls.{entry_asked_by}
use Rattle.station_lines.specs.declared.command.Command.{Command}
use Rattle.station_lines.specs.declared.command.Command.TheVariants.{Show}
use Rattle.station_lines.specs.declared.command.CommandFault.{CommandFault}
use Rattle.station_files.specs.Recorded.{AreRecordable}
use Rattle.shown_again.proofs.LookLemmas.{text_table}

-- the journal with the entries that were left behind is legal, and has the same text
pub record Same (start : Start) (limits : Limits) (left seen : List Entry) : Type 0 where
  pub legal : IsLegal (new_log limits (left ++ seen))
  pub shows : text_after limits (left ++ seen) ≡ text_table start seen

said-count : (bytes : List ℕ) (command : Command) (is : IsLine bytes command) (others : List ℕ) → calls_in (cuts (bytes ++ others)) ≡ call_count (entry_asked_by 0 (Ok command)) + calls_in (cuts others)
said-count bytes command is others =
    ap (λ (ls : List Cut). calls_in ls) (cuts-line bytes command is others)
    ∙ ap (λ (r : Result Command CommandFault). call_count (entry_asked_by 0 r) + calls_in (cuts others)) is.says

entry-count : (e : Entry) → call_count (entry_asked_by 0 (Ok (command_of_entry e))) ≡ 1
entry-count (Tick seat at) = refl
entry-count (Heard seat frame) = refl

pub line-count : (es : List Entry) → All IsRecordable es → (others : List ℕ) → calls_in (cuts (record_of es ++ others)) ≡ length es + calls_in (cuts others)
line-count [] recordable others = omega arith
line-count (e ∷ es) recordable others =
    let rest = line-count es (All-tail IsRecordable e es recordable) others in
    let parts = ap (λ (bs : List ℕ). calls_in (cuts bs)) (append_assoc (line_of e) (record_of es) others) in
    let here = said-count (line_of e) (command_of_entry e) (entry-is e (All-head IsRecordable e es recordable)) (record_of es ++ others) in
    omega (arith, rest, parts, here, entry-count e)

show-count : (others : List ℕ) → calls_in (cuts (show_line ++ others)) ≡ calls_in (cuts others)
show-count others = let here = said-count show_line Show show-is others in omega (arith, here)

module _ (start : Start) (limits : Limits) (left : List Entry) where
  abbrev pub At : List Entry → List ℕ → List ℕ
  At seen bytes = output (all_at 0 (new_log limits (left ++ seen))) (cuts bytes)

  -- further entries without a question
  pub entries-say : (front more : List Entry) → All IsRecordable more → IsLegal (new_log limits (left ++ (front ++ more))) → (others : List ℕ) → At front (record_of more ++ others) ≡ At (front ++ more) others
  entries-say front more recordable legal others =
      let parts = append_assoc left front more in
      output-goes-on limits (left ++ front) more recordable (subst (λ (es : List Entry). IsLegal (new_log limits es)) (sym parts) legal) others
      ∙ ap (λ (es : List Entry). output (all_at 0 (new_log limits es)) (cuts others)) parts

  one-look-says : (front more : List Entry) → All IsRecordable more → Same start limits left (front ++ more) → (others : List ℕ)
      → At front ((record_of more ++ show_line) ++ others) ≡ text_table start (front ++ more) ++ At (front ++ more) others
  one-look-says front more recordable same others =
      ap (λ (bs : List ℕ). At front bs) (append_assoc (record_of more) show_line others)
      ∙ entries-say front more recordable same.legal (show_line ++ others)
      ∙ output-show limits (left ++ (front ++ more)) others
      ∙ ap (λ (bs : List ℕ). bs ++ At (front ++ more) others) same.shows

  -- one look without a question
  one-look-unsaid : (front more : List Entry) → All IsRecordable more → Same start limits left (front ++ more) → (others : List ℕ) → At front ((record_of more ++ []) ++ others) ≡ At (front ++ more) others
  one-look-unsaid front more recordable same others =
      ap (λ (bs : List ℕ). At front (bs ++ others)) (append-nil (record_of more)) ∙ entries-say front more recordable same.legal others

  pub looks-say : (front : List Entry) (looks : List RecordedLook) → Grows front (seen_lists looks) → AreRecordable (length front) (seen_lists looks) → All (Same start limits left) (seen_lists looks) → (others : List ℕ)
      → At front (look_lines (length front) looks ++ others) ≡ flat_map (text_table start) (shown_lists looks) ++ At (last_after front (seen_lists looks)) others
  looks-say front [] grows recordable same others = refl
  looks-say front (look ∷ later) grows recordable same others =
      let seen = look.seen in
      let more = grows.0.0 in
      let is : front ++ more ≡ seen = grows.0.1 in
      let new : drop (length front) seen ≡ more = ap (λ (es : List Entry). drop (length front) es) (sym is) ∙ drop-append_seam front more in
      let rest = look_lines (length seen) later ++ others in
      let here : Same start limits left (front ++ more) = subst (Same start limits left) (sym is) (All-head (Same start limits left) seen (seen_lists later) same) in
      let on = looks-say seen later grows.1 recordable.1 (All-tail (Same start limits left) seen (seen_lists later) same) others in
      ap (λ (bs : List ℕ). At front bs) (append_assoc (record_of (drop (length front) seen) ++ show_if look.is_shown) (look_lines (length seen) later) others)
      ∙ ap (λ (es : List Entry). At front ((record_of es ++ show_if look.is_shown) ++ rest)) new
      ∙ by-look look.is_shown seen more is (shown_lists later) rest (At (last_after seen (seen_lists later)) others) (subst (All IsRecordable) new recordable.0) here on
    where
      by-look : (shown : Bool) (seen more : List Entry) → front ++ more ≡ seen → (lists : List (List Entry)) (rest end : List ℕ) → All IsRecordable more → Same start limits left (front ++ more)
          → At seen rest ≡ flat_map (text_table start) lists ++ end → At front ((record_of more ++ show_if shown) ++ rest) ≡ flat_map (text_table start) (cond shown (seen ∷ lists) lists) ++ end
      by-look true seen more is lists rest end recordable here on =
          one-look-says front more recordable here rest
          ∙ ap (λ (es : List Entry). text_table start es ++ At es rest) is
          ∙ ap (λ (bs : List ℕ). text_table start seen ++ bs) on
          ∙ sym (append_assoc (text_table start seen) (flat_map (text_table start) lists) end)
      by-look false seen more is lists rest end recordable here on =
          one-look-unsaid front more recordable here rest
          ∙ ap (λ (es : List Entry). At es rest) is
          ∙ on

-- where the table is shown a line is added that asks for no entry
if-count : (shown : Bool) (others : List ℕ) → calls_in (cuts (show_if shown ++ others)) ≡ calls_in (cuts others)
if-count true others = show-count others
if-count false others = refl

-- the entries of the lines of looks are those beyond the first
pub looks-count : (front : List Entry) (looks : List RecordedLook) → Grows front (seen_lists looks) → AreRecordable (length front) (seen_lists looks) → (others : List ℕ)
    → length (last_after front (seen_lists looks)) + calls_in (cuts others) ≡ length front + calls_in (cuts (look_lines (length front) looks ++ others))
looks-count front [] grows recordable others = refl
looks-count front (look ∷ later) grows recordable others =
    let seen = look.seen in
    let asks = show_if look.is_shown in
    let more = grows.0.0 in
    let is : front ++ more ≡ seen = grows.0.1 in
    let new : drop (length front) seen ≡ more = ap (λ (es : List Entry). drop (length front) es) (sym is) ∙ drop-append_seam front more in
    let rest = look_lines (length seen) later ++ others in
    let parts : calls_in (cuts (look_lines (length front) (look ∷ later) ++ others)) ≡ calls_in (cuts (record_of more ++ (asks ++ rest))) =
    ap (λ (bs : List ℕ). calls_in (cuts bs)) (append_assoc (record_of (drop (length front) seen) ++ asks) (look_lines (length seen) later) others
    ∙ ap (λ (es : List Entry). (record_of es ++ asks) ++ rest) new ∙ append_assoc (record_of more) asks rest) in
    let entries = line-count more (subst (All IsRecordable) new recordable.0) (asks ++ rest) in
    let shows = if-count look.is_shown rest in
    let later_count = looks-count seen later grows.1 recordable.1 others in
    let size : length seen ≡ length front + length more = ap length (sym is) ∙ length-append front more in
    omega (arith, parts, entries, shows, later_count, size)
