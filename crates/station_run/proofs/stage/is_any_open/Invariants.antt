use Rattle.std.proofs.Common.{◌≡◌, false, take}
use Rattle.std.specs.List.{list_any}
use Rattle.station_portions.specs.Giving.{state_of}
use Rattle.station_run.proofs.Common.{is_open}
use Rattle.station_run.proofs.stage.is_any_open.Given as goal

-- none so far
abbrev pub invariant-loop-receiver : goal.invariant-loop-receiver
invariant-loop-receiver g l = list_any (λ r. is_open (state_of r.source)) (take l.receiver-index l.receivers.items) ≡ false
