use Rattle.std.proofs.Common.{◌∙◌, Some, ap, sym, codes}
use Rattle.clap.specs.Words.{found_of, rows_of}
use Rattle.clap.proofs.WalkLemmas.{first_value-rows}
use Rattle.command_line.proofs.WordLemmas.{no_place_given, no_place_named, place_given}
use Rattle.command_line.proofs.words.read_place.Goals as goal

pub returns-in_default-clause-place : goal.returns-in_default-clause-place
returns-in_default-clause-place c =
    let found = found_of c.args.given.now in
    no_place_given (rows_of found) (c.in_default.ensures ∙ first_value-rows found (codes "at"))

pub returns-in-Some-place_named-clause-place : goal.returns-in-Some-place_named-clause-place
returns-in-Some-place_named-clause-place c =
    let found = found_of c.args.given.now in
    place_given (rows_of found) c.in-Some.text.now c.in-Some-place_named.site (c.in-Some.ensures ∙ first_value-rows found (codes "at")) c.in-Some-place_named.ensures

pub returns-in_ok-from_str-in-None-clause-refused : goal.returns-in_ok-from_str-in-None-clause-refused
returns-in_ok-from_str-in-None-clause-refused c =
    let found = found_of c.args.given.now in
    no_place_named (rows_of found) c.in-Some.text.now (c.in-Some.ensures ∙ first_value-rows found (codes "at")) c.in-None.ensures
    ∙ ap Some (sym c.in_ok-from_str-in-None.ensures.ok)
