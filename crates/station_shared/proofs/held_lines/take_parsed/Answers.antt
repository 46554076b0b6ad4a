use Rattle.std.proofs.Common.{◌≡◌, ◌+◌, List, [], ◌∷◌, ◌++◌, Ok, get_or, length, take, drop, take-append-drop, append-nil, take_all, refl, sym, ap, ◌∙◌, subst, arith}
use Rattle.std.proofs.lemmas.List.{length-map}
use Rattle.std.proofs.lemmas.Result.{err_from_is_err_and}
use Rattle.modes_frame.specs.declared.cutter.Cut.{Cut}
use Rattle.modes_frame.specs.declared.cutter.Cut.TheVariants.{TooLong}
use Rattle.station_lines.proofs.Common.{pump_command, parsed_of, Pumps, Pumps-then}
use Rattle.station_shared.specs.Workers.{SeatSteps}
use Rattle.station_shared.proofs.KeptLemmas.{parsed_line, line_more}
use Rattle.station_shared.proofs.held_lines.take_parsed.Goals as goal

pub returns-in_err-take_line-clause-taken : goal.returns-in_err-take_line-clause-taken
returns-in_err-take_line-clause-taken g c lines h =
    let i = c.loop-parsed.parsed-index in
    let line = get_or lines i TooLong in
    let gives = SeatSteps g.L.StationName.start in
    let pumps = c.in_err-take_line.ensures.taken line (parsed_line c.args.ahead.now lines i c.parsed-item.result h c.loop-parsed-test.true c.parsed-item.is) in
    let exit = err_from_is_err_and c.from_residual.result c.from_residual.ensures.1 in
    rw (exit.1, exit.2) (record {
      lines = take i lines ++ line ∷ [];
      others = drop (i + 1) lines;
      parts = sym (take-append-drop (i + 1) lines) ∙ ap (λ l. l ++ drop (i + 1) lines) (line_more c.args.ahead.now lines i h c.loop-parsed-test.true);
      left = tt;
      took = Pumps-then gives _ _ _ (take i lines) (line ∷ []) _ (c.loop-parsed.invariant.taken lines h) pumps;
    })

pub loop-parsed-preserved : goal.loop-parsed-preserved
loop-parsed-preserved g c =
    let i = c.loop-parsed.parsed-index in
    let gives = SeatSteps g.L.StationName.start in
    record {
      room = omega (arith, c.take_line.ensures.lines, c.loop-parsed.invariant.room);
      met = c.take_line.ensures.met;
      taken = λ lines h.
          let line = get_or lines i TooLong in
          let pumps = c.in_ok-take_line.ensures.taken line (parsed_line c.args.ahead.now lines i c.parsed-item.result h c.loop-parsed-test.true c.parsed-item.is) in
          subst (λ (ls : List Cut). Pumps gives (record { feed = c.args.seat.now; tally = c.args.tally.now }) ls (Ok tt) (record { feed = c.take_line.new.seat; tally = c.take_line.new.tally }))
          (sym (line_more c.args.ahead.now lines i h c.loop-parsed-test.true))
          (Pumps-then gives _ _ _ (take i lines) (line ∷ []) _ (c.loop-parsed.invariant.taken lines h) pumps);
    }

pub returns-clause-taken : goal.returns-clause-taken
returns-clause-taken g c lines h =
    let i = c.loop-parsed.parsed-index in
    let many = ap length h ∙ length-map lines (λ (line : Cut). parsed_of (pump_command line)) in
    let whole : take i lines ≡ lines = take_all i lines (omega (arith, many, c.loop-parsed-test.false)) in
    record {
      lines = lines;
      others = [];
      parts = sym (append-nil lines);
      left = refl;
      took = subst (λ (ls : List Cut). Pumps (SeatSteps g.L.StationName.start) (record { feed = c.args.seat.now; tally = c.args.tally.now }) ls (Ok tt) (record { feed = c.loop-parsed.seat; tally = c.loop-parsed.tally })) whole (c.loop-parsed.invariant.taken lines h);
    }
