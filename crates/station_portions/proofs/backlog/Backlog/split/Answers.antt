use Rattle.std.proofs.Common.{◌≡◌, ◌-◌, take, drop, length, ap, subst, ◌∙◌, arith, length-take-le}
use Rattle.station_portions.proofs.BacklogLemmas.{copied_rest}
use Rattle.station_portions.proofs.backlog.Backlog.split.Goals as goal

pub returns-clause-rest : goal.returns-clause-rest
returns-clause-rest c =
    let backlog = c.args.self.now in
    let items = backlog.buffer.bytes.items in
    let n = backlog.count - c.args.border in
    let many = length-take-le backlog.count items (omega (arith, backlog.within, backlog.buffer.size)) in
    ap (λ room. take n room.bytes.items) c.replace.ensures.after
    ∙ copied_rest items c.filled_with-spare.result.bytes.items backlog.count c.args.border
    (omega (arith, many, c.requires.within)) (omega (arith, backlog.within, backlog.buffer.size))
    (subst (λ l. take (length (take n (drop c.args.border l))) c.filled_with-spare.result.bytes.items ≡ take n (drop c.args.border l)) c.deref.ensures.value c.filled_with-spare.ensures)
