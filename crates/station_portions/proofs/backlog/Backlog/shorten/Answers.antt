use Rattle.std.proofs.Common.{take, ap, ◌∙◌, arith}
use Rattle.station_portions.specs.Batches.{longest_kept}
use Rattle.station_portions.proofs.BacklogLemmas.{kept_few}
use Rattle.station_portions.proofs.backlog.Backlog.shorten.Goals as goal

pub returns : goal.returns
returns c =
    let backlog = c.args.self.now in
    ap (λ k. take k backlog.buffer.bytes.items) c.min-self.ensures
    ∙ kept_few backlog.buffer.bytes.items backlog.count longest_kept (omega (arith, backlog.within, backlog.buffer.size))
