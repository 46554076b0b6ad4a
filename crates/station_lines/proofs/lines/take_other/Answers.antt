use Rattle.std.specs.Option.{option_to_list}
use Rattle.station_lines.proofs.lines.take_other.Goals as goal

pub returns-clause-taken : goal.returns-clause-taken
returns-clause-taken g c before h =
    let push = c.push_line-read in
    record { lines = option_to_list push.result.1; ended = push.ensures.given before h; begun = push.ensures.held before h; took = c.take_cut.ensures.taken }
