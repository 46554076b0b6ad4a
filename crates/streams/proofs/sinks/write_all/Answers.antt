use Rattle.std.proofs.Common.{◌∙◌, rules, arith}
use Rattle.streams.proofs.TakenLemmas.{Appends-more, AppendsFront-taken}
use Rattle.streams.proofs.sinks.write_all.Goals as goal

pub loop-at-preserved : goal.loop-at-preserved
loop-at-preserved g c =
    let more = c.in-Ok.ensures in
    let inv = c.loop-at.invariant in
    (omega (arith, more.within), (Appends-more _ _ _ _ _ _ inv.1.0 more.bytes, more.failures ∙ inv.1.1))

pub returns-in-Err : goal.returns-in-Err
returns-in-Err g c = record {
  bytes = AppendsFront-taken _ _ _ _ _ c.loop-at.invariant.1.0 c.in-Err.ensures.bytes;
  failures = search rules;
}
