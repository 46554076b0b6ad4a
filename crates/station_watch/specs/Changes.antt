-- What a watch knows of a path from look to look.
use Rattle.std.specs.Prelude.{◌≤◌}
use Rattle.station_counts.specs.declared.counts.Counts.{Counts}
use Rattle.station_counts.specs.declared.counts.Refusals.{Refusals}

-- no number of refused frames is less than before, whatever the reason
pub record MoreRefused (old new : Refusals) : Type 0 where
  pub unsupported : old.unsupported ≤ new.unsupported
  pub bad_parity : old.bad_parity ≤ new.bad_parity
  pub unassigned : old.unassigned ≤ new.unassigned
  pub unknown : old.unknown ≤ new.unknown
  pub repeated : old.repeated ≤ new.repeated
  pub full : old.full ≤ new.full

-- no count of a receiver is less than before
pub record NeverFall (old new : Counts) : Type 0 where
  pub lines : old.lines ≤ new.lines
  pub frames : old.frames ≤ new.frames
  pub accepted : old.accepted ≤ new.accepted
  pub refused : MoreRefused old.refused new.refused
  pub faults : old.faults ≤ new.faults
