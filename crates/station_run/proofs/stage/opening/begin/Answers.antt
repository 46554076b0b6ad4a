use Rattle.std.proofs.Common.{◌≡◌, ◌+◌, ◌-◌, ◌∙◌, ◌∷◌, [], ap, arith, length, length-append}
use Rattle.station_run.specs.Limits.{program_limits}
use Rattle.station_run.proofs.SeatLemmas.{receiver_seats, reporter_seat, seats_made, wants_memory}
use Rattle.station_run.proofs.RunJobLemmas.{length_new_seats}
use Rattle.station_run.proofs.stage.opening.begin.Goals as goal

pub unreachable-requires : goal.unreachable-requires
unreachable-requires g c = wants_memory (program_limits c.args.kept.site) c.args.kept.recent.base c.args.kept.recent.entries.items c.in-Err.refused.fault c.requires.may.sound (rw c.limits.ensures at c.in-Err.ensures.refused.1) c.in_default.not-NoMemory

pub unreachable-requires-in_default-pop : goal.unreachable-requires-in_default-pop
unreachable-requires-in_default-pop g c = omega (arith, c.in_default-pop.ensures.cases.0, ap length c.in-Ok.ensures.made, length_new_seats c.args.kept.recent.entries.items (c.len.result + 1 - c.args.foundation.places.places) (c.len.result + 1))

pub receivers-requires : goal.receivers-requires
receivers-requires g c =
    let es = c.args.kept.recent.entries.items in
    omega (arith, c.len.ensures, ap length c.in-Some.ensures.items, length-append c.pop.new.self.items (c.in-Some.seat ∷ []), ap length c.in-Ok.ensures.made, length_new_seats es (c.len.result + 1 - c.args.foundation.places.places) (c.len.result + 1))

pub returns-in-Ok-receivers-clause-reporter : goal.returns-in-Ok-receivers-clause-reporter
returns-in-Ok-receivers-clause-reporter g c =
    let many : c.len.result ≡ length c.args.inputs.items = omega (arith, c.len.ensures) in
    let made = seats_made c.args.kept.recent.entries.items c.len.result c.args.foundation.places.places _ c.requires.may.seats_are.2 c.in-Ok.ensures.made in
    reporter_seat c.args.kept.recent.entries.items c.len.result (length c.args.inputs.items) _ c.pop.new.self.items c.in-Some.seat c.in-Some.ensures.items made many

pub returns-in-Ok-receivers-clause-seats : goal.returns-in-Ok-receivers-clause-seats
returns-in-Ok-receivers-clause-seats g c =
    let many : c.len.result ≡ length c.args.inputs.items = omega (arith, c.len.ensures) in
    let made = seats_made c.args.kept.recent.entries.items c.len.result c.args.foundation.places.places _ c.requires.may.seats_are.2 c.in-Ok.ensures.made in
    c.in-Ok-receivers.ensures.seats
    ∙ receiver_seats c.args.kept.recent.entries.items c.len.result (length c.args.inputs.items) _ c.pop.new.self.items c.in-Some.seat c.in-Some.ensures.items made many
