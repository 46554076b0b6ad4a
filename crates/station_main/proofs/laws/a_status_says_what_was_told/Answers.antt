use Rattle.station_main.proofs.SaysLemmas.{obeyed-says, only-refused, refused-says}
use Rattle.station_main.proofs.laws.a_status_says_what_was_told.Goals as goal

pub returns-clause-says : goal.returns-clause-says
returns-clause-says c app words origin input before after alarm err_old err_new status obeyed = obeyed-says app words origin before after alarm err_old err_new status input obeyed

pub returns-clause-only : goal.returns-clause-only
returns-clause-only c app words origin input before after alarm err_old err_new status obeyed =
    only-refused app words origin before after alarm err_old err_new status (obeyed-says app words origin before after alarm err_old err_new status input obeyed)

pub returns-clause-refused : goal.returns-clause-refused
returns-clause-refused c app words origin input before after alarm err_old err_new status obeyed =
    refused-says app words origin before after alarm err_old err_new status (obeyed-says app words origin before after alarm err_old err_new status input obeyed)
