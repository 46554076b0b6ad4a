-- A station goes on from the kept end of all entries before it: a journal with all of them, and room for n, shows the same.
use Rattle.std.proofs.Common.{◌≡◌, ◌∙◌, ℕ, ◌+◌, ◌≤◌, List, ◌++◌, refl, sym, ap, subst, append_assoc, length, length-append, reverse, arith, All}
use mathlib.Core.List.{IsPrefix}
use Rattle.modes_frame.specs.Lines.{cuts}
use Rattle.station_journal.specs.declared.entry.Entry.{Entry}
use Rattle.station_journal.specs.declared.limits.Limits.{Limits}
use Rattle.station_journal.proofs.Common.{Site, table}
use Rattle.station_journal.specs.Log.{Log, IsLegal, clock_of, most_entries, table_of}
use Rattle.station_report.specs.Text.{text}
use Rattle.station_history.proofs.Common.{base_of, Start, log_of}
use Rattle.station_replay.proofs.Common.{output}
use Rattle.station_replay.proofs.LimitLemmas.{under}
use Rattle.station_record.proofs.Common.{all_at, new_log, Continues, longer_log}
use Rattle.station_record.proofs.RoundLemmas.{all-legal, longer_log-continues, same-clock, same-table}
use Rattle.station_run.specs.Stations.{RoundStart, GoesOnFrom}
use Rattle.shown_again.proofs.LookLemmas.{Grown, Legal, all-so}
use Rattle.station_reporter.proofs.PrefixLemmas.{begins-same}
use Rattle.shown_again.proofs.ReadBackLemmas.{At, Same}
use Rattle.shown_again.proofs.WiderLemmas.{legal_wider}

-- the limits of the program, with n entries
abbrev pub wide : Site → ℕ → Limits
wide site n = record { entries = n; aircraft = 512; site = site }

abbrev pub resumed_log : ℕ → RoundStart → Log
resumed_log n given = record { base = given.base; limits = wide given.site n; resumed = length given.entries; entries = given.entries }

-- what a station goes on from is the kept end of all entries before it, which are legal under n entries
pub record Begins (n : ℕ) (given : RoundStart) (all : List Entry) : Type 0 where
  pub continues : Continues all (resumed_log n given)
  pub legal : IsLegal (new_log (wide given.site n) all)

module _ (n : ℕ) (wider : most_entries ≤ n) (given : RoundStart) (start : Start) (goes_on : GoesOnFrom given start) where
  abbrev pub widened : List Entry → Log
  widened seen = under (wide given.site n) (log_of start seen)

  pub widened-legal : (seen : List Entry) → Legal start seen → IsLegal (widened seen)
  widened-legal seen legal =
      let limits = goes_on.limits in
      let more : start.limits.entries ≤ n = omega (arith, wider, ap (λ (l : Limits). l.entries) limits) in
      legal_wider start.limits (wide given.site n) (ap (λ (l : Limits). l.aircraft) (sym limits)) more (base_of start.history) start.resumed (reverse seen) legal

  module _ (all : List Entry) (begins : Begins n given all) where
    abbrev pub left : List Entry
    left = begins.continues.left

    resumed-is : widened given.entries ≡ resumed_log n given
    resumed-is =
        ap (λ (b : ℕ). record { base = b; limits = wide given.site n; resumed = start.resumed; entries = given.entries }) goes_on.base
        ∙ ap (λ (r : ℕ). record { base = given.base; limits = wide given.site n; resumed = r; entries = given.entries }) goes_on.resumed

    continues : Continues all (widened given.entries)
    continues = subst (λ (log : Log). Continues all log) (sym resumed-is) begins.continues

    pub size : length all ≡ length left + length given.entries
    size = ap length begins.continues.parts ∙ length-append left given.entries

    -- all entries, and the journal with further ones
    pub record Later (seen : List Entry) : Type 0 where
      pub kept_end : Continues (left ++ seen) (widened seen)
      pub same : Same start (wide given.site n) left seen

    later-by : (more : List Entry) → Legal start (given.entries ++ more) → length left + length (given.entries ++ more) ≤ n → Later (given.entries ++ more)
    later-by more legal few =
        let seen = given.entries ++ more in
        let log = widened given.entries in
        let legal_more : IsLegal (longer_log log more) = widened-legal seen legal in
        let whole : all ++ more ≡ left ++ seen = ap (λ (es : List Entry). es ++ more) begins.continues.parts ∙ append_assoc left given.entries more in
        let on : Continues (left ++ seen) (widened seen) = subst (λ (es : List Entry). Continues es (widened seen)) whole (longer_log-continues all log continues more legal_more) in
        let own : start.resumed ≤ length given.entries = omega (arith, goes_on.resumed) in
        let room : length all + length more ≤ n = omega (arith, size, few, length-append given.entries more) in
        let legal_now : IsLegal (new_log (wide given.site n) (all ++ more)) = all-legal all log more continues begins.legal own legal_more room in
        let legal_seen : IsLegal (new_log (wide given.site n) (left ++ seen)) = subst (λ (es : List Entry). IsLegal (new_log (wide given.site n) es)) whole legal_now in
        record {
          kept_end = on;
          same = record {
            legal = legal_seen;
            shows = ap (λ rows. text rows (clock_of (new_log (wide given.site n) (left ++ seen)))) (same-table (left ++ seen) (widened seen) on legal_seen)
                ∙ ap (λ (site : Site). text (table site (base_of start.history) (reverse seen)) (clock_of (new_log (wide given.site n) (left ++ seen)))) (sym (ap (λ (l : Limits). l.site) goes_on.limits))
                ∙ ap (λ (now : ℕ). text (table_of (log_of start seen)) now) (same-clock (left ++ seen) (widened seen) on legal_seen);
          };
        }

    pub later : (seen : List Entry) → IsPrefix given.entries seen → Legal start seen → length left + length seen ≤ n → Later seen
    later seen from legal few =
        let by : Legal start (given.entries ++ from.0) → length left + length (given.entries ++ from.0) ≤ n → Later (given.entries ++ from.0) = later-by from.0 in
        subst (λ (es : List Entry). Legal start es → length left + length es ≤ n → Later es) from.1 by legal few

    shorter : (a b : List Entry) → IsPrefix a b → length a ≤ length b
    shorter a b p = omega (arith, length-append a p.0, ap length p.1)

    -- the looks of the station, up to so many entries
    pub all-same : (end : List Entry) (lists : List (List Entry)) → length left + length end ≤ n → Grown start given.entries end lists → All (Same start (wide given.site n) left) lists
    all-same end lists few is =
        all-so start given.entries end (Same start (wide given.site n) left) (λ seen from to legal. (later seen from legal (omega (arith, few, shorter seen end to))).same)
        given.entries lists (begins-same given.entries given.entries refl) is.grows is.last is.legal

    pub first-is : (bytes : List ℕ) → output (all_at 0 (new_log (wide given.site n) all)) (cuts bytes) ≡ At start (wide given.site n) left given.entries bytes
    first-is bytes = ap (λ (es : List Entry). output (all_at 0 (new_log (wide given.site n) es)) (cuts bytes)) begins.continues.parts
