use Rattle.std.proofs.Common.{ap, length, ◌∙◌, arith, length-take}
use Rattle.rtrb.specs.Ring.{sent}
use Rattle.station_portions.proofs.Common.{longest_kept, unsent_bytes}
use Rattle.station_portions.proofs.SendingLemmas.{sends_shorter, none_shorter}
use Rattle.station_portions.proofs.path_reader.PathReader.send_lines.Goals as goal

pub returns-clause-sends : goal.returns-clause-sends
returns-clause-sends g c =
    let reader = c.args.self.now in
    let mid = c.send_ended.new.self in
    sends_shorter (sent reader.messages) (sent mid.messages) (unsent_bytes reader.backlog) (unsent_bytes mid.backlog) _ c.send_ended.ensures.none c.shorten.ensures c.send_ended.ensures.sends

pub returns-clause-none : goal.returns-clause-none
returns-clause-none g c = none_shorter (unsent_bytes c.send_ended.new.self.backlog) _ c.send_ended.ensures.none c.shorten.ensures

pub returns-clause-short : goal.returns-clause-short
returns-clause-short g c =
    let mid = unsent_bytes c.send_ended.new.self.backlog in
    omega (arith, ap length c.shorten.ensures ∙ length-take longest_kept mid)
