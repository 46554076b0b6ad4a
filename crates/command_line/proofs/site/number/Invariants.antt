use Rattle.std.proofs.Common.{◌≡◌, ◌<◌, ◌^◌, drop}
use Rattle.command_line.specs.Places.{digits_after}
use Rattle.command_line.proofs.site.number.Given as goal

-- the digits so far, and those to come, write what all of them write
abbrev pub invariant-loop-digit : goal.invariant-loop-digit
invariant-loop-digit l = record {
  all : digits_after l.n (drop l.digit-index l.digit-items) ≡ digits_after 0 l.text;
  size : l.n < 10 ^ l.digit-index;
}
