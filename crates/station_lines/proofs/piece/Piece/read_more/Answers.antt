use Rattle.std.proofs.Common.{Ok, take, length, length-take-le, ap, ◌∙◌, arith}
use Rattle.streams.specs.Sink.{count_after}
use Rattle.streams.specs.declared.sinks.Failed.{Failed}
use Rattle.station_lines.proofs.PieceLemmas.{grown, some_given}
use Rattle.station_lines.proofs.piece.Piece.read_more.Goals as goal

pub returns-clause-ok : goal.returns-clause-ok
returns-clause-ok g c =
    let piece = c.args.self.now in
    let room = c.read.new.buffer in
    let n = c.in_ok-count.count in
    let told = c.in_ok-count.ensures in
    record {
      bytes = take n room;
      held = grown piece.bytes room piece.count _ n (omega arith) told.within;
      many = length-take-le n room told.within;
      given = (told.bytes.0, told.given, told.ring);
      reads = told.reads;
      ends = told.ends ∙ ap (λ b. count_after b (g.S.Source.state c.args.from.now).ends) (some_given Failed n (length room) (omega (arith, c.read.auto.buffer)));
      over = λ e. (told.bytes.1 e (omega (arith, c.read.auto.buffer)), told.border (ap Ok e) (omega (arith, c.read.auto.buffer)));
      failures = told.failures;
      asked = omega (arith, told.within, c.read.auto.buffer);
    }
