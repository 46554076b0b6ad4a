use Rattle.std.proofs.Common.{◌≡◌, ◌+◌, ◌≤◌, ◌-◌, inl, refl, sym, arith}
use Rattle.station_lines.proofs.DrawingLemmas.{GivenSoFar-none, GivenSoFar-piece, Taken-read, Taken-turns, Taken-stop, Taken-end, ended-settled}
use Rattle.station_lines.proofs.lines.take_lines.Goals as goal

pub loop-left-init : goal.loop-left-init
loop-left-init g c = record {
  within = omega arith;
  room = omega (arith, c.requires.new);
  settled = inl c.requires.settled;
  so_far = GivenSoFar-none g.T.LineTaker.took _ _ _ _ (omega arith) (g.met.T.LineTaker.none _) c.new-cutter.ensures;
}

pub returns-in-Err-clause-taken : goal.returns-in-Err-clause-taken
returns-in-Err-clause-taken g c =
    let inv = c.loop-left.invariant in
    Taken-read g.T.LineTaker.took g.met.T.LineTaker.then inv.so_far c.args.turns refl c.in-Err.ensures.err (omega (arith, inv.within))

pub returns-in-Err-take_piece-clause-taken : goal.returns-in-Err-take_piece-clause-taken
returns-in-Err-take_piece-clause-taken g c =
    let inv = c.loop-left.invariant in
    let read = rw (← c.as_slice.ensures.value) at c.in-Ok.ensures.ok in
    let within : (c.args.turns - c.loop-left.left) + c.in-Ok.read.reads ≤ c.args.turns = omega (arith, inv.within, read.few) in
    Taken-stop g.T.LineTaker.took g.met.T.LineTaker.then inv.so_far refl read refl c.args.turns _ within
    (c.in-Err-take_piece.ensures.taken inv.so_far.given inv.so_far.taken.begun)

pub returns-then-read-clause-settled : goal.returns-then-read-clause-settled
returns-then-read-clause-settled g c = rw c.after_the_last.ensures (ended-settled _ c.take_last.result c.take_last.ensures.settled)

pub returns-then-read-clause-taken : goal.returns-then-read-clause-taken
returns-then-read-clause-taken g c =
    let inv = c.loop-left.invariant in
    let read = rw (← c.as_slice.ensures.value) at c.in-Ok.ensures.ok in
    let taken = c.in-Ok-take_piece.ensures.taken inv.so_far.given inv.so_far.taken.begun in
    let all = GivenSoFar-piece g.T.LineTaker.took g.met.T.LineTaker.then inv.so_far refl read refl taken in
    let within : (c.args.turns - c.loop-left.left) + c.in-Ok.read.reads ≤ c.args.turns = omega (arith, inv.within, read.few) in
    rw c.after_the_last.ensures (Taken-end g.T.LineTaker.took g.met.T.LineTaker.then all c.take_last.result c.args.turns _ c.if-read.true within (c.take_last.ensures.taken all.given all.taken.begun))

pub loop-left-preserved : goal.loop-left-preserved
loop-left-preserved g c =
    let inv = c.loop-left.invariant in
    let read = rw (← c.as_slice.ensures.value) at c.in-Ok.ensures.ok in
    let taken = c.in-Ok-take_piece.ensures.taken inv.so_far.given inv.so_far.taken.begun in
    let made : c.args.turns - (c.loop-left.left - c.in-Ok.read.reads) ≡ (c.args.turns - c.loop-left.left) + c.in-Ok.read.reads = omega (arith, inv.within, read.few) in
    record {
      within = omega (arith, inv.within);
      room = omega (arith, inv.within, inv.room, read.some, read.few, c.in-Ok-take_piece.ensures.counted, c.as_slice.ensures.few);
      settled = c.in-Ok-take_piece.ensures.settled;
      so_far = rw (sym c.if-read.false) (GivenSoFar-piece g.T.LineTaker.took g.met.T.LineTaker.then inv.so_far refl read made taken);
    }

pub returns-clause-taken : goal.returns-clause-taken
returns-clause-taken g c =
    let inv = c.loop-left.invariant in
    Taken-turns g.T.LineTaker.took g.met.T.LineTaker.then inv.so_far c.args.turns refl (omega arith)
