use Rattle.std.proofs.Common.{◌∙◌, Bool, sym, ap, ap₂, arith, codes, ◌&&◌, is_some}
use Rattle.clap.specs.Words.{found_of, one_of, rows_of}
use Rattle.command_line.proofs.WordLemmas.{flag_read, number_is_some, number_read}
use Rattle.command_line.proofs.words.has_both.Goals as goal

pub returns-then-reopen : goal.returns-then-reopen
returns-then-reopen c =
    let found = found_of c.args.given.now in
    let reopens_is = flag_read found (codes "reopen") c.get_flag-reopen.result c.requires.reopen_fits c.get_flag-reopen.ensures.none c.get_flag-reopen.ensures.value c.get_flag-reopen.ensures.other in
    let rounds = number_read 16 1000 found (codes "rounds") c.get_one-rounds.result (omega arith) c.requires.rounds_fit c.get_one-rounds.ensures.none c.get_one-rounds.ensures.value in
    let is_given = c.is_some.ensures ∙ ap is_some rounds.0 ∙ number_is_some (one_of (codes "rounds") (rows_of found)) in
    ap₂ (λ (x y : Bool). x && y) (sym c.if-reopen.true ∙ reopens_is) is_given

pub returns-else-reopen : goal.returns-else-reopen
returns-else-reopen c =
    let found = found_of c.args.given.now in
    let reopens_is = flag_read found (codes "reopen") c.get_flag-reopen.result c.requires.reopen_fits c.get_flag-reopen.ensures.none c.get_flag-reopen.ensures.value c.get_flag-reopen.ensures.other in
    c.if-reopen.false ∙ ap (λ (x : Bool). x && is_some (one_of (codes "rounds") (rows_of found))) (sym c.if-reopen.false ∙ reopens_is)
