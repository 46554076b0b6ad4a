use Rattle.std.proofs.Common.{◌-◌, ◌≤◌, sym, arith}
use Rattle.station_book.proofs.TrackLemmas.{rising_filter}
use Rattle.station_book.proofs.HeardLemmas.{none_swept}
use Rattle.station_book.proofs.table.Table.sweep.Goals as goal

pub invariant_of-self : goal.invariant_of-self
invariant_of-self g c = record {
  rising = rw c.retain_recent.ensures (rising_filter _ _ c.self.invariant.rising);
  addresses = rw c.as_slice.ensures.value at c.set_addresses.ensures;
  oldest = rw c.as_slice-then-saturating_sub-gt-LIFE_MS.ensures.value at c.oldest_of-self-inside.ensures;
}

pub returns-else-saturating_sub-gt-LIFE_MS : goal.returns-else-saturating_sub-gt-LIFE_MS
returns-else-saturating_sub-gt-LIFE_MS g c =
    let recent : c.args.now - c.self.inside.oldest ≤ 60000 = omega (arith, c.saturating_sub.ensures, c.if-saturating_sub-gt-LIFE_MS.false) in
    rw (← c.self.view_is) (sym (none_swept c.self.inside.oldest c.args.now c.self.inside.tracks.items recent c.self.invariant.oldest))
