-- The laws of kept lines: lines that come after others are taken and kept with them.
use Rattle.std.proofs.Common.{List, [], ◌++◌, Result, Ok, sym, ap, ◌∙◌, append_assoc, append-nil}
use Rattle.modes_frame.specs.declared.cutter.Cut.{Cut}
use Rattle.station_lines.specs.declared.parsed_line.ParsedLine.{ParsedLine}
use Rattle.station_shared.specs.KeptLines.{TakesKept}

module _ {X E : Type 0} {Took : X → List Cut → Result (Unit {0}) E → X → Type 0} where
  pub TakesKept-none : ((x : X) → Took x [] (Ok tt) x) → (x : X) (kept : List ParsedLine) → TakesKept Took x kept [] (Ok tt) x kept
  TakesKept-none none x kept before same = record { lines = []; others = before; parts = append-nil before; left = same; took = none x }

  pub TakesKept-then : ((x y z : X) (cs ds : List Cut) (r : Result (Unit {0}) E) → Took x cs (Ok tt) y → Took y ds r z → Took x (cs ++ ds) r z)
      → (x y z : X) (k l m : List ParsedLine) (cs ds : List Cut) (r : Result (Unit {0}) E) → TakesKept Took x k cs (Ok tt) y l → TakesKept Took y l ds r z m → TakesKept Took x k (cs ++ ds) r z m
  TakesKept-then joined x y z k l m cs ds r p q before same =
      let first = p before same in
      let second = q first.others first.left in
      record {
        lines = first.lines ++ second.lines;
        others = second.others;
        parts = sym (append_assoc before cs ds) ∙ ap (λ ls. ls ++ ds) first.parts ∙ append_assoc first.lines first.others ds ∙ ap (λ ls. first.lines ++ ls) second.parts ∙ sym (append_assoc first.lines second.lines second.others);
        left = second.left;
        took = joined x y z first.lines second.lines r first.took second.took;
      }
