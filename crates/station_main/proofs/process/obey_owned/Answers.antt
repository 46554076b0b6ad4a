use Rattle.std.proofs.Common.{inr}
use Rattle.station_main.proofs.process.obey_owned.Goals as goal

pub returns-in-Ok : goal.returns-in-Ok
returns-in-Ok g c = inr (rw (c.as_slice-words.ensures.value, c.in-Ok.ensures) at c.obey.ensures.obeyed)
