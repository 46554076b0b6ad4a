use Rattle.std.proofs.Common.{rules, arith, None}
use Rattle.std.proofs.lemmas.Str.Pattern.{strip_prefix_char}
use Rattle.command_line.proofs.PlaceLemmas.{without_minus}
use Rattle.command_line.proofs.site.angle.Goals as goal

pub returns-in_err-size-in-None : goal.returns-in_err-size-in-None
returns-in_err-size-in-None c =
    let positive = without_minus c.args.text.now (strip_prefix_char 45 c.args.text.now None c.in-None.ensures.cases (omega arith)) in
    search (rules, positive)
