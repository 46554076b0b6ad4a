use denote.Param.Send.{param_send, arg_send}
use denote.Exit.{no}
use Rattle.station_portions.proofs.portions.Portions.TheSendSync.{the_send}
use Rattle.std.proofs.Common.{◌≡◌, arith, length}
use Rattle.station_run.proofs.RunJobLemmas.{whole_list}
use Rattle.station_run.proofs.threads.run_all.Goals as goal

pub run_receivers-requires-send-S : goal.run_receivers-requires-send-S
run_receivers-requires-send-S g c κs within = param_send 1 _ (arg_send _ no _ (the_send _ _ c.type_bounds.sync-R))

pub returns : goal.returns
returns g c =
    let ws = c.run_receivers.new.workers in
    let items = c.args.receivers.items in
    let same : length ws ≡ length items = omega (arith, c.run_receivers.auto.workers) in
    let len : c.args.receivers.len ≡ length items = omega arith in
    let worked = rw c.as_mut_slice.ensures.value at c.run_receivers.ensures in
    rw (whole_list c.args.receivers.len ws items same len) (record { many = same; each = λ i d h. worked i d h })
