use Rattle.std.proofs.Common.{rules, ◌≡◌, ◌∙◌, inl, inr, true, ap, sym, subst, Some, codes}
use Rattle.std.proofs.lemmas.Result.{err_from_is_err_and}
use Rattle.clap.specs.Faults.{is_simple_and_free}
use Rattle.clap.specs.Words.{found_of, rows_of, subcommand_of, takes}
use Rattle.clap.proofs.WalkLemmas.{first_value-rows}
use Rattle.command_line.specs.Command.{IsOwnFault, IsWordsFault, format_named, run_gives_both, station, texts_of}
use Rattle.command_line.specs.declared.words.WordsFault.{WordsFault}
use Rattle.command_line.proofs.WordsFaultLemmas.{place_fault_of, words_fault_of}
use Rattle.command_line.proofs.LineLemmas.{names_job}
use Rattle.command_line.proofs.WordLemmas.{is_free-station, line_named, line_of_run, line_unnamed}
use Rattle.command_line.proofs.words.read_named.Goals as goal

pub returns-in_err-matches-clause-refused : goal.returns-in_err-matches-clause-refused
returns-in_err-matches-clause-refused c =
    let station_is = c.in_ok-station_command.ensures.0 in
    let gone = err_from_is_err_and c.from_residual-in_err-matches.result c.from_residual-in_err-matches.ensures.1 in
    let kinds = c.in_err-matches.ensures.kinds (ap is_simple_and_free station_is ∙ is_free-station c.args.names) in
    rw gone.1 (words_fault_of _ (station c.args.names) (texts_of c.args.words) _ _ station_is gone.2 c.in_err-matches.ensures.passes kinds)

pub has_both-requires : goal.has_both-requires
has_both-requires c =
    (line_of_run c.args.names _ c.in_ok-matches.matches (texts_of c.args.words) c.in_ok-station_command.ensures.0 c.in_ok-matches.ensures.kinds
    c.in_ok-matches.ensures.matches _ (rows_of (found_of c.in-Some.given.now)) c.in-Some.ensures.name c.in-Some.ensures.rows (search rules)).2

pub read_run-requires-clause-given : goal.read_run-requires-clause-given
read_run-requires-clause-given c =
    (line_of_run c.args.names _ c.in_ok-matches.matches (texts_of c.args.words) c.in_ok-station_command.ensures.0 c.in_ok-matches.ensures.kinds
    c.in_ok-matches.ensures.matches _ (rows_of (found_of c.in-Some.given.now)) c.in-Some.ensures.name c.in-Some.ensures.rows (search rules)).2

pub returns-then-has_both-clause-refused : goal.returns-then-has_both-clause-refused
returns-then-has_both-clause-refused c =
    let line = line_of_run c.args.names _ c.in_ok-matches.matches (texts_of c.args.words) c.in_ok-station_command.ensures.0 c.in_ok-matches.ensures.kinds
    c.in_ok-matches.ensures.matches _ (rows_of (found_of c.in-Some.given.now)) c.in-Some.ensures.name c.in-Some.ensures.rows (search rules) in
    let both = ap run_gives_both line.1 ∙ sym c.has_both.ensures ∙ c.if-has_both.true in
    ((line.0, both), λ taken. both)

pub returns-then-eq-clause-job : goal.returns-then-eq-clause-job
returns-then-eq-clause-job c =
    let line = line_of_run c.args.names _ c.in_ok-matches.matches (texts_of c.args.words) c.in_ok-station_command.ensures.0 c.in_ok-matches.ensures.kinds
    c.in_ok-matches.ensures.matches _ (rows_of (found_of c.in-Some.given.now)) c.in-Some.ensures.name c.in-Some.ensures.rows (search rules) in
    (line.0, (rows_of (found_of c.in-Some.given.now), line.1, c.in_ok-read_run.ensures.options))

pub returns-clause-job : goal.returns-clause-job
returns-clause-job c =
    let rows = rows_of (found_of c.in-Some.given.now) in
    let line = line_named c.args.names _ c.in_ok-matches.matches (texts_of c.args.words) c.in_ok-station_command.ensures.0 c.in_ok-matches.ensures.kinds
    c.in_ok-matches.ensures.matches c.in-Some.name.now rows c.in-Some.ensures.name c.in-Some.ensures.rows in
    let replay_is : c.in-Some.name.now ≡ codes "replay" = elim (names_job c.args.names (texts_of c.args.words) line.0 c.in-Some.name.now rows line.1) [
      | inl is ↦ is
      | inr run_is ↦ search rules
    ] in
    let named = subst (λ name. subcommand_of (station c.args.names) (texts_of c.args.words) ≡ Some (name, rows)) replay_is line.1 in
    (line.0, (rows, named, c.named.ensures ∙ ap format_named (c.get_str.ensures ∙ first_value-rows (found_of c.in-Some.given.now) (codes "format")), c.in_ok-site.ensures.place))

pub unreachable-requires : goal.unreachable-requires
unreachable-requires c =
    line_unnamed c.args.names _ c.in_ok-matches.matches (texts_of c.args.words)
    c.in_ok-station_command.ensures.0 c.in_ok-matches.ensures.kinds c.in_ok-matches.ensures.matches c.in_default.ensures.name

pub returns-in_err-site-clause-refused : goal.returns-in_err-site-clause-refused
returns-in_err-site-clause-refused c =
    let line = line_named c.args.names _ c.in_ok-matches.matches (texts_of c.args.words) c.in_ok-station_command.ensures.0 c.in_ok-matches.ensures.kinds
    c.in_ok-matches.ensures.matches c.in-Some.name.now (rows_of (found_of c.in-Some.given.now)) c.in-Some.ensures.name c.in-Some.ensures.rows in
    let gone = err_from_is_err_and c.from_residual-in_err-site.result c.from_residual-in_err-site.ensures.1 in
    let said = place_fault_of (station c.args.names) (texts_of c.args.words) c.in-Some.name.now (rows_of (found_of c.in-Some.given.now)) _ line.0 line.1 c.in_err-site.ensures.refused in
    rw gone.1 (subst (λ (f : WordsFault). IsWordsFault (station c.args.names) (texts_of c.args.words) f × (takes (station c.args.names) (texts_of c.args.words) ≡ true → IsOwnFault (station c.args.names) (texts_of c.args.words) f)) (sym gone.2) said)
