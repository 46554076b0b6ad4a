use Rattle.std.proofs.Common.{refl}
use Rattle.command_line.specs.Command.{station}
use Rattle.command_line.proofs.words.read_words.Goals as goal

pub returns-clause-job : goal.returns-clause-job
returns-clause-job c =
    let names = c.word_names.result in
    (station names, (names, c.word_names.ensures, refl), c.read_named.ensures.job, c.read_named.ensures.refused)
