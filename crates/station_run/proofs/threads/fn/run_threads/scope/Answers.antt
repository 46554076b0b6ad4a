use Rattle.station_run.proofs.threads.fn.run_threads.scope.Goals as goal

pub returns : goal.returns
returns g c = record {
  receivers = c.run_all-receivers.ensures;
  reporter = rw (c.in-Ok.ensures.ok, c.of.ensures) at c.join-report.ensures;
}
