use mathlib.Core.List.{reverse}
use Rattle.station_book.proofs.VerdictLemmas.{fits_unless_refused}
use Rattle.station_book.proofs.laws.an_entry_that_is_not_refused_fits.Goals as goal

pub returns : goal.returns
returns c = λ n base book entries entry m free. fits_unless_refused n base (reverse entries) book entry m free
