use Rattle.rtrb.specs.Ring.{sent}
use Rattle.station_portions.proofs.WholeLemmas.{over_sent, same_ring, whole_sent}
use Rattle.station_portions.proofs.path_reader.PathReader.run.Goals as goal

pub returns : goal.returns
returns g c =
    let first = c.args.self.messages in
    let mid = c.send_path-end.new.self.messages in
    let last = c.send_over.new.self.messages in
    let left = g.I.Read.remaining c.args.from in
    let new = g.I.Read.remaining c.send_path-end.new.from in
    whole_sent left new first last _
    (same_ring first mid last c.send_path-end.ensures.ring c.send_over.ensures.ring).0
    (over_sent left new (sent first) (sent mid) (sent last) _ c.send_path-end.ensures.sends c.send_over.ensures.sent)
