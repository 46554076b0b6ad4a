use Rattle.std.proofs.Common.{◌-◌, nat_eq}
use Rattle.station_lines.specs.Drawing.{Gathers}
use Rattle.station_lines.specs.Piece.{piece_bytes}
use Rattle.station_lines.proofs.piece.Piece.gather.Given as goal

-- what the reads so far gave
abbrev pub invariant-loop-count : goal.invariant-loop-count
invariant-loop-count g l =
    record {
      so_far : Gathers (g.S.Source.state l.fn.from) (g.S.Source.state l.from) l.fn.turns (piece_bytes l.self) l.reads (nat_eq l.count 0);
    }

abbrev pub decreases-loop-count : goal.decreases-loop-count
decreases-loop-count g l = l.fn.turns - l.reads
