use Rattle.std.proofs.Common.{◌≡◌, ◌∙◌, ◌<◌, ◌||◌, ap, ap₂, arith, get_or, length, sym, is_some, not}
use Rattle.std.proofs.lemmas.List.Folds.{list_any_at, list_any_more}
use Rattle.station_portions.specs.Giving.{left_of, state_of}
use Rattle.station_run.proofs.Common.{is_open}
use Rattle.station_run.proofs.stage.is_any_open.Goals as goal

pub loop-receiver-preserved : goal.loop-receiver-preserved
loop-receiver-preserved g c =
    let ws = c.args.receivers.now.items in
    let i = c.loop-receiver.receiver-index in
    let w = c.receiver-item.result in
    let inside : i < length ws = omega (arith, ap length c.deref-receiver-items.ensures.value) in
    let at : w ≡ get_or ws i w = cc in
    list_any_more (λ r. is_open (state_of r.source)) ws i w inside
    ∙ ap₂ (λ a b. a || b) c.loop-receiver.invariant (ap (λ r. is_open (state_of r.source)) (sym at) ∙ ap (λ e. not (is_some (left_of e))) (sym c.end.ensures) ∙ sym c.goes_on_at.ensures ∙ c.if-goes_on_at.false)

pub returns-then-goes_on_at : goal.returns-then-goes_on_at
returns-then-goes_on_at g c =
    let ws = c.args.receivers.now.items in
    let i = c.loop-receiver.receiver-index in
    let w = c.receiver-item.result in
    let inside : i < length ws = omega (arith, ap length c.deref-receiver-items.ensures.value) in
    let at : w ≡ get_or ws i w = cc in
    sym (list_any_at (λ r. is_open (state_of r.source)) ws i w inside (ap (λ r. is_open (state_of r.source)) (sym at) ∙ ap (λ e. not (is_some (left_of e))) (sym c.end.ensures) ∙ sym c.goes_on_at.ensures ∙ c.if-goes_on_at.true))
