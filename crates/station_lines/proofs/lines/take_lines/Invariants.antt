use Rattle.std.proofs.Common.{◌≡◌, ◌*◌, ◌-◌, ◌<◌, ◌≤◌, ◌⊎◌, false, true}
use Rattle.station_lines.specs.Reads.{longest_piece}
use Rattle.station_lines.proofs.DrawingLemmas.{GivenSoFar}
use Rattle.station_lines.proofs.lines.take_lines.Given as goal

-- the lines that the bytes so far ended were taken, none is kept where a read may wait, and no read failed or found the end
abbrev pub invariant-loop-left : goal.invariant-loop-left
invariant-loop-left g l =
    let S = g.S.Source in
    let T = g.T.LineTaker in
    record {
      within : l.left ≤ l.fn.turns;
      room : T.counted l.taker ≤ longest_piece * (l.fn.turns - l.left);
      settled : T.is_settled l.taker ⊎ ((0 < l.left) × ((S.state l.from).at_hand ≡ true));
      so_far : GivenSoFar T.took (S.state l.fn.from) (S.state l.from) (l.fn.turns - l.left) false l.cutter l.fn.taker l.taker;
    }

abbrev pub decreases-loop-left : goal.decreases-loop-left
decreases-loop-left g l = l.left
