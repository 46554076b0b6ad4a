use Rattle.std.proofs.Common.{refl}
use Rattle.journal_laws.proofs.laws.refusals_at_any_site.Goals as goal

pub returns : goal.returns
returns c log site call = refl
