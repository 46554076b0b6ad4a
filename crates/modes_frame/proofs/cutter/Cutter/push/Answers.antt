use Rattle.std.proofs.Common.{◌++◌, ap, sym, ◌∙◌, option_to_list}
use Rattle.modes_frame.specs.Lines.{cut_after, cut_ended_by, ended_cuts}
use Rattle.modes_frame.proofs.LineLemmas.{pending-push, ended-push}
use Rattle.modes_frame.proofs.cutter.Cutter.push.Goals as goal

pub returns-clause-held : goal.returns-clause-held
returns-clause-held c before h = c.step.ensures.held ∙ ap (λ v. cut_after v c.args.byte) h ∙ pending-push before c.args.byte

pub returns-clause-given : goal.returns-clause-given
returns-clause-given c before h =
    ended-push before c.args.byte ∙ ap (λ r. ended_cuts before ++ option_to_list r) (sym (c.step.ensures.given ∙ ap (λ v. cut_ended_by v c.args.byte) h))
