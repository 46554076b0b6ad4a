use Rattle.station_main.proofs.process.exit_code.Goals as goal

pub returns-in-Ok-clause-obeyed : goal.returns-in-Ok-clause-obeyed
returns-in-Ok-clause-obeyed g c = rw (c.in-Ok.is, c.process_end.ensures.code, c.process_end.ensures.out) c.obey_owned-ran.ensures
