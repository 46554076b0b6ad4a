use Rattle.std.proofs.Common.{◌≡◌, ◌∙◌, List, ap, arith, inl, inr, length, map, option_map, refl, string_bytes, sym}
use Rattle.std.proofs.lemmas.List.{length-map}
use Rattle.messages.proofs.Common.{told_of}
use Rattle.station_run.proofs.Common.{Streams, left_of, plan_of, streams_of}
use Rattle.station_paths.proofs.FedLemmas.{unknown_is}
use Rattle.station_run.proofs.StationLemmas.{lost_on}
use Rattle.station_run.proofs.next_station.next_stage.Goals as goal

pub returns-in-Ok : goal.returns-in-Ok
returns-in-Ok g c = λ start reporter receivers counted log. (
  record {
    is_kept = c.in-Ok.ensures.kept start log;
    out = c.in-Ok.ensures.out;
    how = inl (c.in-Ok.ensures.next start reporter receivers counted (told_of g.E.Write.contents c.args.err.now) c.if-closed.true);
  },
  rw (c.in-Ok.ensures.paths, c.in-Ok.ensures.inputs, c.in-Ok.ensures.answers) c.requires.read,
)

pub returns-in-Err : goal.returns-in-Err
returns-in-Err g c = λ start reporter receivers counted log.
    let left = left_of c.args.closed start reporter receivers counted in
    let old : Streams = streams_of c.args.closed.out c.args.closed.beside.record (told_of g.E.Write.contents c.args.err.now) in
    let ended = c.without_output.ensures in (
      omega (arith, ended.status),
      lost_on (plan_of c.args.asked) left old _ _ _ _ (inl (c.if-closed.true, refl)) (ap (option_map g.O.Write.contents) ended.out)
          (record { fault = c.in-Err.fault; early = inr c.in-Err.ensures.unstarted; told = ended.told; status_is = ended.status }),
    )

pub returns-in-Ok-begin_round : goal.returns-in-Ok-begin_round
returns-in-Ok-begin_round g c = λ start reporter receivers counted log.
    let paths : List _ = map string_bytes c.args.asked.paths.now.items in
    let threads = c.args.closed.paths.threads.items in
    let many : length threads ≡ length paths = sym (length-map threads (λ t. string_bytes t.path.now)) ∙ ap length c.requires.read.named in
    let end = rw c.in-Ok-end_round.is at (c.end_round.ensures.end (plan_of c.args.asked) start reporter receivers counted (sym c.requires.read.named) (unknown_is paths threads many) refl refl log) in
    let made = c.in-Ok-begin_round.ensures in (
      record {
        is_kept = rw (made.kept, made.beside) end.2;
        out = made.out ∙ end.3;
        how = inr (record { over = end.1.0; goes_on = end.1.1; rounds_left = rw made.rounds_left end.0; first = made.first });
      },
      made.read,
    )

pub returns-in-Err-begin_round : goal.returns-in-Err-begin_round
returns-in-Err-begin_round g c = λ start reporter receivers counted log.
    let left = left_of c.args.closed start reporter receivers counted in
    let old : Streams = streams_of c.args.closed.out c.args.closed.beside.record (told_of g.E.Write.contents c.args.err.now) in
    let paths : List _ = map string_bytes c.args.asked.paths.now.items in
    let threads = c.args.closed.paths.threads.items in
    let many : length threads ≡ length paths = sym (length-map threads (λ t. string_bytes t.path.now)) ∙ ap length c.requires.read.named in
    let end = rw c.in-Ok-end_round.is at (c.end_round.ensures.end (plan_of c.args.asked) start reporter receivers counted (sym c.requires.read.named) (unknown_is paths threads many) refl refl log) in
    let ended = c.without_output-in-Err-begin_round.ensures in (
      omega (arith, ended.status),
      lost_on (plan_of c.args.asked) left old _ _ _ _ (inr (omega (arith, end.0), end.1)) (ap (option_map g.O.Write.contents) ended.out)
          (record { fault = c.in-Err-begin_round.fault; early = c.in-Err-begin_round.ensures.early; told = ended.told; status_is = ended.status }),
    )

pub returns-in-Err-end_round : goal.returns-in-Err-end_round
returns-in-Err-end_round g c = λ start reporter receivers counted log.
    let paths : List _ = map string_bytes c.args.asked.paths.now.items in
    let threads = c.args.closed.paths.threads.items in
    let many : length threads ≡ length paths = sym (length-map threads (λ t. string_bytes t.path.now)) ∙ ap length c.requires.read.named in
    (c.in-Err-end_round.ensures.most, rw c.in-Err-end_round.is at (c.end_round.ensures.end (plan_of c.args.asked) start reporter receivers counted (sym c.requires.read.named) (unknown_is paths threads many) refl refl log))
