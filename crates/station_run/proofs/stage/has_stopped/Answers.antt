use Rattle.std.proofs.Common.{◌≡◌, ◌∙◌, ◌<◌, ◌||◌, ap, ap₂, arith, get_or, length, sym, true}
use Rattle.std.proofs.lemmas.List.Folds.{list_any_at, list_any_more}
use Rattle.std.specs.Option.{option_map_or}
use Rattle.station_run.proofs.Common.{ends_run}
use Rattle.station_run.proofs.stage.has_stopped.Goals as goal

pub loop-receiver-preserved : goal.loop-receiver-preserved
loop-receiver-preserved g c =
    let ws = c.args.receivers.now.items in
    let i = c.loop-receiver.receiver-index in
    let w = c.receiver-item.result in
    let inside : i < length ws = omega (arith, ap length c.deref-receiver-items.ensures.value) in
    let at : w ≡ get_or ws i w = cc in
    list_any_more (λ r. option_map_or ends_run r.answer true) ws i w inside
    ∙ ap₂ (λ a b. a || b) c.loop-receiver.invariant (ap (λ r. option_map_or ends_run r.answer true) (sym at) ∙ sym c.stops_run.ensures ∙ c.if-stops_run.false)

pub returns-then-stops_run : goal.returns-then-stops_run
returns-then-stops_run g c =
    let ws = c.args.receivers.now.items in
    let i = c.loop-receiver.receiver-index in
    let w = c.receiver-item.result in
    let inside : i < length ws = omega (arith, ap length c.deref-receiver-items.ensures.value) in
    let at : w ≡ get_or ws i w = cc in
    sym (list_any_at (λ r. option_map_or ends_run r.answer true) ws i w inside (ap (λ r. option_map_or ends_run r.answer true) (sym at) ∙ sym c.stops_run.ensures ∙ c.if-stops_run.true))
