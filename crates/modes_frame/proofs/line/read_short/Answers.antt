use Rattle.std.proofs.Common.{ap, sym, ◌∙◌, subst, Result}
use Rattle.modes_frame.proofs.Common.{Reads, line_reading, Line, LineFault}
use Rattle.modes_frame.proofs.RuleLemmas.{reads-short}
use Rattle.modes_frame.proofs.line.read_short.Goals as goal

pub returns-clause-rules : goal.returns-clause-rules
returns-clause-rules c =
    subst (λ (r : Result Line LineFault). Reads c.args.line.now r) (sym (c.read_trimmed.ensures ∙ ap line_reading c.trim_blanks.ensures.value))
    (reads-short c.args.line.now c.requires)
