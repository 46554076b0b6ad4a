use Rattle.std.proofs.Common.{◌∙◌, ap}
use Rattle.rtrb.specs.Ring.{sent}
use Rattle.station_output.specs.Queued.{all_texts}
use Rattle.station_output.proofs.WritingLemmas.{texts-more}
use Rattle.station_output.proofs.table_queue.TableQueue.send.Goals as goal

pub returns-clause-sent : goal.returns-clause-sent
returns-clause-sent g c = ap all_texts c.send.ensures.sent ∙ texts-more (sent c.args.self.now.tables) c.args.table
