use Rattle.std.proofs.Common.{subst}
use Rattle.std.specs.Io.KnownBytes.{Appends}
use Rattle.station_replay.proofs.KeepingLemmas.{nothing-lost}
use Rattle.station_replay.proofs.laws.a_forgetting_replay_loses_nothing.Goals as goal

pub returns : goal.returns
returns c limits most few after source_old source_new sink_old sink_new turns tally room replay sparse =
    subst (Appends sink_old.taken sink_new.taken) (nothing-lost most few limits replay.lines room sparse) replay.leaves.1
