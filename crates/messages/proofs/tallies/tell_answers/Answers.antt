use Rattle.std.proofs.Common.{◌≡◌, ◌<◌, ap, arith, get_or, length, max}
use Rattle.std.proofs.lemmas.Grind.{common_steps}
use Rattle.messages.specs.Telling.{told_of}
use Rattle.messages.proofs.TellLemmas.{one_more_status, one_more_told}
use Rattle.messages.proofs.tallies.tell_answers.Goals as goal

pub loop-answer-preserved : goal.loop-answer-preserved
loop-answer-preserved g c =
    let ws = c.args.answers.now.items in
    let i = c.loop-answer.answer-index in
    let w = c.answer-item.result in
    let contents = g.E.Write.contents in
    let inside : i < length ws = omega (arith, ap length c.deref-answer-items.ensures.value) in
    let at : w ≡ get_or ws i w = cc in
    let new_is : c.max-status.result ≡ max c.loop-answer.status c.tell_answer.result = grind (arith, common_steps) in
    record {
      most = omega arith;
      value = one_more_status ws i w c.loop-answer.status c.tell_answer.result c.max-status.result inside at
          c.loop-answer.invariant.value c.tell_answer.ensures.value new_is;
      told = one_more_told ws i w (told_of contents c.args.err.now) (told_of contents c.loop-answer.err) (told_of contents c.tell_answer.new.err) inside at
          c.loop-answer.invariant.told c.tell_answer.ensures.told;
    }
