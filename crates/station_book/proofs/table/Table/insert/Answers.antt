use Rattle.std.proofs.Common.{◌≤◌, Err, refl, ap, sym, ◌∙◌, arith}
use Rattle.std.specs.List.{insert}
use Rattle.station_book.specs.Tracks.{StandsAt}
use Rattle.station_book.proofs.TrackLemmas.{rising_put}
use Rattle.station_book.proofs.RankLemmas.{map_insert}
use Rattle.station_book.proofs.HeardLemmas.{heard_earlier, heard_put}
use Rattle.station_book.proofs.table.Table.insert.Goals as goal

pub invariant_of-self : goal.invariant_of-self
invariant_of-self g c =
    let tracks = c.self.inside.tracks.items in
    let i = c.args.rank in
    let t = c.args.track.now in
    let place : StandsAt tracks t.address (Err i) = rw (← c.self.view_is) at c.requires.place in
    let put = place.2 t refl in
    let before : c.lower.new.time ≤ c.self.inside.oldest = grind (arith, c.lower.ensures) in
    let now : c.lower.new.time ≤ t.heard = grind (arith, c.lower.ensures, c.heard.ensures) in
    rw c.insert-2.ensures.items (record {
      rising = rw put (rising_put t tracks c.self.invariant.rising);
      addresses = c.insert.ensures.items ∙ ap (insert c.self.inside.addresses.items i) c.address.ensures ∙ ap (λ addresses. insert addresses i t.address) c.self.invariant.addresses ∙ sym (map_insert t tracks i);
      oldest = rw put (heard_put c.lower.new.time t tracks now (heard_earlier c.lower.new.time c.self.inside.oldest tracks before c.self.invariant.oldest));
    })
