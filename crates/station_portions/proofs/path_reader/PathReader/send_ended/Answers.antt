use Rattle.rtrb.specs.Ring.{sent}
use Rattle.station_portions.specs.Backlog.{unsent_bytes}
use Rattle.station_portions.proofs.SendingLemmas.{sends_batch}
use Rattle.station_portions.proofs.path_reader.PathReader.send_ended.Goals as goal

pub returns-clause-sends : goal.returns-clause-sends
returns-clause-sends g c =
    let reader = c.args.self.now in
    sends_batch (sent reader.messages) (sent c.send.new.messages) c.split-batch.result (unsent_bytes reader.backlog) (unsent_bytes c.split-batch.new.self) c.border-border.result
    c.send.ensures.sent c.split-batch.ensures.front c.split-batch.ensures.rest
