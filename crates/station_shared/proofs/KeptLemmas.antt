-- Lines that are parsed before the lock of their station is taken, and kept until then.
use Rattle.std.proofs.Common.{◌≡◌, ℕ, ◌+◌, ◌<◌, List, [], ◌∷◌, ◌++◌, length, take, get_or, Result, Ok, OnOk, refl, sym, ap, ◌∙◌, subst, append-nil, append_assoc, arith}
use Rattle.std.proofs.lemmas.List.{get_or-map, length-map, map-append, take_more}
use Rattle.modes_frame.specs.declared.cutter.Cut.{Cut}
use Rattle.modes_frame.specs.declared.cutter.Cut.TheVariants.{TooLong}
use Rattle.station_lines.proofs.Common.{pump_command, Draws, Ending, Taken, ending_as, stopped_as, parsed_of}
use Rattle.streams.proofs.Common.{SourceState}
use Rattle.station_lines.specs.declared.parsed_line.ParsedLine.{ParsedLine}
use Rattle.station_lines.specs.declared.lines.Ended.{Ended}
use Rattle.station_lines.specs.declared.lines.Ended.TheVariants as Ends
use Rattle.station_shared.specs.KeptLines.{parsed_all, TakesFirst, TakesKept}

-- ---- lines that are kept

module _ {X E : Type 0} (Took : X → List Cut → Result (Unit {0}) E → X → Type 0) where
  -- one more is kept
  pub kept-pushed : ((x : X) → Took x [] (Ok tt) x) → (x : X) (kept : List ParsedLine) (item : ParsedLine) (line : Cut) → item ≡ parsed_of (pump_command line) → TakesKept Took x kept (line ∷ []) (Ok tt) x (kept ++ item ∷ [])
  kept-pushed none x kept item line is before same = record {
    lines = [];
    others = before ++ line ∷ [];
    parts = refl;
    left = ap (λ l. l ++ item ∷ []) same ∙ ap (λ p. parsed_all before ++ p ∷ []) is ∙ sym (map-append (λ (line : Cut). parsed_of (pump_command line)) before (line ∷ []));
    took = none x;
  }

  -- ---- all lines of a source

  none_parsed : (lines : List Cut) → [] ≡ parsed_all lines → lines ≡ []
  none_parsed [] e = refl
  none_parsed (c ∷ cs) e = cc

  module _ {old new : SourceState} {turns : ℕ} {x z : X} (kept : List ParsedLine) where
    all_taken : (ending : Ending) (lines : List Cut) → Draws old new turns ending lines → TakesFirst Took lines x (Ok tt) z kept → kept ≡ [] → Taken Took old new turns ending x z (Ok tt)
    all_taken ending lines draws first none =
        let whole : lines ≡ first.lines = first.parts ∙ ap (λ ls. first.lines ++ ls) (none_parsed first.others (sym none ∙ first.left)) ∙ append-nil first.lines in
        record { lines = first.lines; draws = subst (λ (ls : List Cut). Draws old new turns ending ls) whole draws; took = first.took }

    -- where no line is kept, all were taken, or those up to one that stopped the taking
    pub Taken-kept : (ended : Ended E) (lines : List Cut) → Draws old new turns (ending_as ended) lines → TakesFirst Took lines x (stopped_as ended) z kept → OnOk (stopped_as ended) (kept ≡ []) → Taken Took old new turns (ending_as ended) x z (stopped_as ended)
    Taken-kept Ends.AtEnd lines draws first none = all_taken _ lines draws first none
    Taken-kept Ends.ReadFailed lines draws first none = all_taken _ lines draws first none
    Taken-kept Ends.TurnsOver lines draws first none = all_taken _ lines draws first none
    Taken-kept (Ends.Stopped stop) lines draws first none = record {
      lines = first.lines;
      draws = record {
        given = draws.given;
        left_out = first.others ++ draws.left_out;
        bytes = draws.bytes;
        front = draws.front ∙ ap (λ ls. ls ++ draws.left_out) first.parts ∙ append_assoc first.lines first.others draws.left_out;
        ends = tt;
        failures = draws.failures;
        reads = draws.reads;
      };
      took = first.took;
    }

-- ---- one of the parsed lines

pub parsed_line : (ahead : List ParsedLine) (lines : List Cut) (i : ℕ) (item : ParsedLine) → ahead ≡ parsed_all lines → i < length ahead → item ≡ get_or ahead i item → item ≡ parsed_of (pump_command (get_or lines i TooLong))
parsed_line ahead lines i item same within is =
    let many = ap length same ∙ length-map lines (λ (line : Cut). parsed_of (pump_command line)) in
    is ∙ ap (λ l. get_or l i item) same ∙ get_or-map (λ (line : Cut). parsed_of (pump_command line)) lines i TooLong item (omega (arith, within, many))

pub line_more : (ahead : List ParsedLine) (lines : List Cut) (i : ℕ) → ahead ≡ parsed_all lines → i < length ahead → take (i + 1) lines ≡ take i lines ++ get_or lines i TooLong ∷ []
line_more ahead lines i same within =
    let many = ap length same ∙ length-map lines (λ (line : Cut). parsed_of (pump_command line)) in
    take_more lines i TooLong (omega (arith, within, many))
