use Rattle.std.proofs.Common.{option_map}
use Rattle.messages.specs.Telling.{told_of}
use Rattle.station_main.proofs.obeying.program.Goals as goal

pub returns-clause-given : goal.returns-clause-given
returns-clause-given g c =
    let obeyed = rw (c.new-last.ensures.inner, c.new-last.ensures.failed) at c.obey.ensures.obeyed in
    (c.milliseconds_since_1970-origin.result, option_map g.O.Write.contents c.obey.result.out, told_of g.E.Write.contents c.obey.new.err, obeyed)
