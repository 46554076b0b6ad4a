use Rattle.std.proofs.Common.{◌≡◌, ◌∙◌, ℕ, List, Some, IfSome, map, sym, ap, subst, arith, length, Bor, codes, unwrap_or}
use Rattle.std.proofs.lemmas.List.{length-map}
use Rattle.std.proofs.lemmas.Option.{none-some, same_Some}
use Rattle.clap.specs.Words.{found_of}
use Rattle.clap.proofs.WalkLemmas.{first_value-rows, one_text-rows, raw_values-rows}
use Rattle.command_line.specs.Command.{IsNumberUpTo, IsPace, clock_named, format_named, number_in, number_if_given}
use Rattle.command_line.proofs.WordLemmas.{flag_read, number_read, rounds_in_range, same_length}
use Rattle.command_line.proofs.words.read_run.Goals as goal

pub unreachable-requires : goal.unreachable-requires
unreachable-requires c =
    let given = c.requires.given in
    let one = one_text-rows (found_of c.args.given.now) (codes "every") ∙ given.every in
    let failed = c.in_default.ensures.value given.text one in
    failed.1.0 (given.every_fits.numeral, omega (arith, given.every_fits.most))

pub unreachable-requires-in_default-get_strs : goal.unreachable-requires-in_default-get_strs
unreachable-requires-in_default-get_strs c =
    let given = c.requires.given in
    none-some given.paths (c.in_default-get_strs.ensures ∙ raw_values-rows (found_of c.args.given.now) (codes "path") ∙ given.paths_are)

pub returns : goal.returns
returns c =
    let found = found_of c.args.given.now in
    let given = c.requires.given in
    let every_fits = subst (λ o. IfSome o (IsNumberUpTo 3600000)) (sym given.every) given.every_fits in
    let every = number_read 32 3600000 found (codes "every") (Some c.in-Some.every) (omega arith) every_fits c.in-Some.ensures.none c.in-Some.ensures.value in
    let tick = number_read 32 60000 found (codes "tick") c.get_one-tick.result (omega arith) given.tick_fits c.get_one-tick.ensures.none c.get_one-tick.ensures.value in
    let watch = number_read 32 86400 found (codes "watch") c.get_one-watch.result (omega arith) given.watch_fits c.get_one-watch.ensures.none c.get_one-watch.ensures.value in
    let rounds = number_read 16 1000 found (codes "rounds") c.get_one-rounds.result (omega arith) given.rounds_fit c.get_one-rounds.ensures.none c.get_one-rounds.ensures.value in
    let in_range = rounds_in_range c.get_one-rounds.result rounds.1 in
    let texts = c.in-Some-get_strs.texts.now in
    let texts_are = same_Some (map {A = Bor (List ℕ)} {B = List ℕ} (λ t. t.now) texts) given.paths (c.in-Some-get_strs.ensures ∙ raw_values-rows found (codes "path") ∙ given.paths_are) in
    let count : length c.in_ok-paths.paths.items ≡ length given.paths =
    same_length _ _ c.in_ok-paths.paths.items texts c.in_ok-paths.ensures ∙ sym (length-map texts _) ∙ ap length texts_are in
    let pace_is : IsPace (record { every = c.in-Some.every; tick = c.get_one-tick.result }) = record { every_least = every.1.0; every_most = every.1.1; tick_fits = tick.1 } in
    record {
      options = record {
        text = given.text;
        every = given.every;
        every_is = same_Some c.in-Some.every (number_in given.text) (every.0 ∙ ap number_if_given given.every);
        tick_is = tick.0;
        watch_is = watch.0;
        rounds_are = c.unwrap_or.ensures ∙ ap (λ rounds. unwrap_or rounds 1) rounds.0;
        reopens_is = flag_read found (codes "reopen") c.get_flag-reopens.result given.reopen_fits c.get_flag-reopens.ensures.none c.get_flag-reopens.ensures.value c.get_flag-reopens.ensures.other;
        not_both = c.requires.not_both;
        paths_are = sym (raw_values-rows found (codes "path")) ∙ sym c.in-Some-get_strs.ensures ∙ ap Some (sym c.in_ok-paths.ensures);
        stop_is = c.in_ok-stop.ensures ∙ c.get_str-2.ensures ∙ first_value-rows found (codes "stop");
        file_is = c.in_ok-record.ensures ∙ c.get_str-3.ensures ∙ first_value-rows found (codes "record");
        folder_is = c.in_ok-displays.ensures ∙ c.get_str-4.ensures ∙ first_value-rows found (codes "json");
        format_is = c.named-format.ensures ∙ ap format_named (c.get_str.ensures ∙ first_value-rows found (codes "format"));
        clock_is = c.named-clock.ensures ∙ ap clock_named (c.get_str-5.ensures ∙ first_value-rows found (codes "clock"));
        place = c.requires.place;
      };
      range = (pace_is, rw c.unwrap_or.ensures in_range.0, rw c.unwrap_or.ensures in_range.1, rw count given.some, rw count given.few, watch.1);
    }
