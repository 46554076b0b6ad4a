use Rattle.std.proofs.Common.{length, ap, refl, arith}
use Rattle.rtrb.specs.Ring.{sent}
use Rattle.station_portions.specs.Backlog.{unsent_bytes}
use Rattle.station_portions.proofs.SendingLemmas.{none_in_nothing, so_far_nothing, so_far_read, so_far_sent}
use Rattle.station_portions.proofs.WholeLemmas.{same_ring}
use Rattle.station_portions.proofs.path_reader.PathReader.send_up_to_end.Goals as goal

pub loop-init : goal.loop-init
loop-init g c =
    let reader = c.args.self.now in (
      so_far_nothing (g.I.Read.remaining c.args.from.now) (sent reader.messages) (unsent_bytes reader.backlog) c.requires,
      none_in_nothing (unsent_bytes reader.backlog) c.requires,
      omega (arith, ap length c.requires),
      ((refl, refl, refl, refl), refl),
    )

pub loop-preserved : goal.loop-preserved
loop-preserved g c =
    let left = g.I.Read.remaining c.args.from.now in
    let mid = g.I.Read.remaining c.loop.from in
    let new = g.I.Read.remaining c.read_more.new.from in
    let before = sent c.args.self.now.messages in
    let read = so_far_read left mid new before (sent c.loop.self.messages) (unsent_bytes c.loop.self.backlog) (unsent_bytes c.read_more.new.self) _ c.loop.invariant.0 c.in_ok-count.ensures.ok in (
      so_far_sent left new before (sent c.loop.self.messages) _ (unsent_bytes c.read_more.new.self) _ read c.send_lines.ensures.sends,
      c.send_lines.ensures.none,
      c.send_lines.ensures.short,
      same_ring c.args.self.now.messages c.loop.self.messages c.send_lines.new.self.messages c.loop.invariant.3 c.send_lines.ensures.ring,
    )
