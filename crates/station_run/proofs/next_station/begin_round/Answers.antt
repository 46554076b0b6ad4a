use Rattle.std.proofs.Common.{◌∙◌, arith, sym, string_bytes}
use Rattle.std.proofs.lemmas.List.{length-map}
use Rattle.station_portions.specs.Giving.{state_of}
use Rattle.station_paths.proofs.FedLemmas.{fed_take, fed_unread}
use Rattle.station_run.proofs.next_station.begin_round.Goals as goal

pub returns-clause-first : goal.returns-clause-first
returns-clause-first g c =
    let files = c.in_ok-files.ensures in
    let started = c.in_ok-started.ensures in
    let duties = c.first-duties.ensures in
    let paths = c.args.asked.paths.now.items in
    record {
      tables = duties.tables;
      due = duties.due;
      hand_over_at = duties.at;
      not_before = duties.pause;
      many_sources = length-map c.in_ok-started.started.inputs.items state_of ∙ started.inputs ∙ files.many ∙ sym (length-map paths string_bytes);
      unread = fed_unread _ _ _ started.fed;
      many_answers = started.answers ∙ files.many ∙ sym (length-map paths string_bytes);
      none = started.none;
    }

pub returns-clause-read : goal.returns-clause-read
returns-clause-read g c =
    let files = c.in_ok-files.ensures in
    let started = c.in_ok-started.ensures in
    let inputs = c.in_ok-started.started.inputs.items in
    record {
      named = started.named ∙ files.named;
      take = fed_take _ _ _ started.fed;
      few = omega (arith, length-map inputs state_of, started.inputs, files.many, c.requires);
      many = started.answers ∙ sym started.inputs ∙ sym (length-map inputs state_of);
    }
