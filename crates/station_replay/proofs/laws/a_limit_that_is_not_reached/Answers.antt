use Rattle.std.proofs.Common.{arith}
use Rattle.station_journal.specs.Log.{empty_log}
use Rattle.station_replay.proofs.LimitLemmas.{forgets-unreached, limit-unreached}
use Rattle.station_replay.proofs.laws.a_limit_that_is_not_reached.Goals as goal

pub returns-clause-whole : goal.returns-clause-whole
returns-clause-whole c limits lines few = limit-unreached (empty_log limits) lines (omega (arith, few))

pub returns-clause-forgetting : goal.returns-clause-forgetting
returns-clause-forgetting c limits most lines few = forgets-unreached most limits lines few
