use Rattle.std.proofs.Common.{◌≡◌, false, take, true}
use Rattle.std.specs.List.{list_any}
use Rattle.std.specs.Option.{option_map_or}
use Rattle.station_run.proofs.Common.{ends_run}
use Rattle.station_run.proofs.stage.has_stopped.Given as goal

-- none so far
abbrev pub invariant-loop-receiver : goal.invariant-loop-receiver
invariant-loop-receiver g l = list_any (λ r. option_map_or ends_run r.answer true) (take l.receiver-index l.receivers.items) ≡ false
