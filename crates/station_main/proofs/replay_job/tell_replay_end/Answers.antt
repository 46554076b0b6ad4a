use Rattle.station_main.proofs.replay_job.tell_replay_end.Goals as goal

pub returns-in-Ok-clause-told : goal.returns-in-Ok-clause-told
returns-in-Ok-clause-told g c = rw (c.in-Ok.is, c.if-has_failed.true) c.tell_after.ensures.told
