use Rattle.std.proofs.Common.{refl}
use Rattle.modes_frame.proofs.PlainLemmas.{ends-some}
use Rattle.modes_frame.proofs.cutter.Cutter.plain_line.Goals as goal

pub returns-then-is_between_lines-clause-ends : goal.returns-then-is_between_lines-clause-ends
returns-then-is_between_lines-clause-ends c =
    ends-some c.args.self.now c.args.bytes.now c.plain_line.result (c.if-is_between_lines.ensures refl) c.plain_line.ensures.line
