use Rattle.station_book.proofs.LawLemmas.{accepted_fits_book}
use Rattle.station_book.proofs.laws.an_accepted_entry_fits.Goals as goal

pub returns : goal.returns
returns c = accepted_fits_book
