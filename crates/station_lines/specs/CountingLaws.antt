-- The laws of counting: lines counted after others are counted with them.
use Rattle.std.proofs.Common.{◌≡◌, ◌+◌, Bool, cond, List, [], ◌++◌, Result, length-append, arith, count_by}
use Rattle.std.proofs.lemmas.List.Sums.{sum_by-append}
use Rattle.modes_frame.specs.declared.cutter.Cut.{Cut}
use Rattle.station_lines.specs.Counting.{is_frame, is_tick, is_show, is_mode_ac, is_blank_line, CountsLines}
use Rattle.station_lines.specs.declared.command.Command.{Command}
use Rattle.station_lines.specs.declared.command.CommandFault.{CommandFault}
use Rattle.station_lines.specs.declared.tally.Tally.{Tally}

pub count_by-append : {X : Type 0} (p : X → Bool) (xs ys : List X) → count_by p (xs ++ ys) ≡ count_by p xs + count_by p ys
count_by-append p xs ys = sum_by-append (λ x. cond (p x) 1 0) xs ys

pub CountsLines-then : (read : Cut → Result Command CommandFault) (s t u : Tally) (cs ds : List Cut) → CountsLines read s t cs → CountsLines read t u ds → CountsLines read s u (cs ++ ds)
CountsLines-then read s t u cs ds p q = record {
  lines_more = omega (arith, p.lines_more, q.lines_more, length-append cs ds);
  frames_more = omega (arith, p.frames_more, q.frames_more, count_by-append (λ l. is_frame (read l)) cs ds);
  ticks_more = omega (arith, p.ticks_more, q.ticks_more, count_by-append (λ l. is_tick (read l)) cs ds);
  shows_more = omega (arith, p.shows_more, q.shows_more, count_by-append (λ l. is_show (read l)) cs ds);
  mode_ac_more = omega (arith, p.mode_ac_more, q.mode_ac_more, count_by-append (λ l. is_mode_ac (read l)) cs ds);
  blank_more = omega (arith, p.blank_more, q.blank_more, count_by-append (λ l. is_blank_line (read l)) cs ds);
}

pub CountsLines-none : (read : Cut → Result Command CommandFault) (s : Tally) → CountsLines read s s []
CountsLines-none read s = record { lines_more = omega arith; frames_more = omega arith; ticks_more = omega arith; shows_more = omega arith; mode_ac_more = omega arith; blank_more = omega arith }
