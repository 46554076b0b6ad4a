use Rattle.std.proofs.Common.{[], ◌∷◌, ap, ◌∙◌}
use Rattle.modes_frame.specs.declared.cutter.Cut.TheVariants.{Whole}
use Rattle.station_lines.specs.declared.parsed_line.ParsedLine.TheVariants as parsed
use Rattle.station_lines.proofs.ParsedLemmas.{parsed-plain}
use Rattle.station_lines.proofs.lines.take_next.Goals as goal

pub returns-in-Some-clause-taken : goal.returns-in-Some-clause-taken
returns-in-Some-clause-taken g c before h =
    let frame = c.in-Some.plain.frame in
    let ends = c.in-Some.ensures.ends in
    record {
      lines = Whole ends.line ∷ [];
      ended = ends.ended before h;
      begun = ends.left before h;
      took = c.take_line.ensures.taken (Whole ends.line) (ap parsed.Frame c.of-heard.ensures ∙ parsed-plain g.T.LineTaker.is_replay ends.line frame ends.says);
    }
