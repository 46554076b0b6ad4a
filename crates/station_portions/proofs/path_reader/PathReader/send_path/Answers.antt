use Rattle.std.proofs.Common.{subst}
use Rattle.rtrb.specs.Ring.{sent}
use Rattle.station_portions.proofs.Common.{unsent_bytes, SendsOn}
use Rattle.station_portions.proofs.SendingLemmas.{path_sent, sent_up_to_failure}
use Rattle.station_portions.proofs.path_reader.PathReader.send_path.Goals as goal

pub returns-in-Ok-clause-sends : goal.returns-in-Ok-clause-sends
returns-in-Ok-clause-sends g c =
    let left = g.I.Read.remaining c.args.from.now in
    let new = g.I.Read.remaining c.send_up_to_end.new.from in
    let up = c.send_up_to_end.new.self in
    let done = c.send_lines.new.self in
    path_sent left new (sent c.args.self.now.messages) (sent up.messages) (sent done.messages) (unsent_bytes up.backlog) (unsent_bytes done.backlog)
    c.send_up_to_end.ensures.so_far c.send_up_to_end.ensures.none
    (subst (λ l. SendsOn (sent up.messages) (sent done.messages) l (unsent_bytes done.backlog)) c.end_line.ensures c.send_lines.ensures.sends)
    c.send_lines.ensures.none (rw c.in-Ok.is at c.send_up_to_end.ensures.over)

pub returns-in-Err-clause-sends : goal.returns-in-Err-clause-sends
returns-in-Err-clause-sends g c =
    let left = g.I.Read.remaining c.args.from.now in
    let new = g.I.Read.remaining c.send_up_to_end.new.from in
    let up = c.send_up_to_end.new.self in
    sent_up_to_failure left new (sent c.args.self.now.messages) (sent up.messages) (unsent_bytes up.backlog) c.send_up_to_end.ensures.so_far c.send_up_to_end.ensures.none
