use Rattle.std.proofs.Common.{◌==◌, ◌∙◌, ℕ, ap, cond, eqb-true, get_or, refl}
use Rattle.modes_frame.specs.Claims.{is_announced_format, is_overlaid_format}
use Rattle.modes_frame.specs.declared.readers.TheConstants.{REMAINDERS}
use Rattle.modes_frame.proofs.AllByteLemmas.{all_of_width, all_of_width-at}
use Rattle.modes_frame.proofs.readers.remainders.Goals as goal

abbrev counted : ℕ → ℕ
counted df = cond (is_overlaid_format df) 16777216 (cond (df == 11) 128 (cond (is_announced_format df 0) 1 0))

pub returns : goal.returns
unfolding all_of_width
returns c =
    let df = c.args.df in
    ap (λ k. get_or REMAINDERS k 0) c.from.ensures
    ∙ eqb-true (get_or REMAINDERS df 0) (counted df) (all_of_width-at 5 (λ n. get_or REMAINDERS n 0 == counted n) refl df c.requires)
