use Rattle.std.proofs.Common.{◌≡◌, ◌≤◌, Ok, refl, sym, ◌∙◌, set, length, arith, length-set}
use Rattle.std.specs.List.{refill}
use Rattle.station_book.specs.Tracks.{StandsAt}
use Rattle.station_book.proofs.TrackLemmas.{rising_put}
use Rattle.station_book.proofs.RankLemmas.{refill_same, map_set, stands_there, copy_there}
use Rattle.station_book.proofs.HeardLemmas.{heard_earlier, heard_put}
use Rattle.station_book.proofs.table.Table.put.Goals as goal

pub invariant_of-self : goal.invariant_of-self
invariant_of-self g c =
    let tracks = c.self.inside.tracks.items in
    let i = c.in-Ok.rank in
    let t = c.args.track.now in
    let place : StandsAt tracks t.address (Ok i) = rw (c.in-Ok.is, ← c.self.view_is, c.address.ensures) at c.locate-place.ensures in
    let put = place.2 t refl in
    let whole : refill (length tracks) tracks (set c.deref_mut.result.now i c.copy_from.new.self) ≡ set tracks i t = rw (c.copy_from.ensures, c.deref_mut.ensures.value) (refill_same tracks (set tracks i t) (length-set tracks i t)) in
    let before : c.lower.new.time ≤ c.self.inside.oldest = grind (arith, c.lower.ensures, c.heard.ensures) in
    let now : c.lower.new.time ≤ t.heard = grind (arith, c.lower.ensures, c.heard.ensures) in
    rw whole (record {
      rising = rw put (rising_put t tracks c.self.invariant.rising);
      addresses = c.self.invariant.addresses ∙ sym (map_set t tracks i t place.0 (stands_there t.address i tracks t place));
      oldest = rw put (heard_put c.lower.new.time t tracks now (heard_earlier c.lower.new.time c.self.inside.oldest tracks before c.self.invariant.oldest));
    })

pub returns-in-Ok : goal.returns-in-Ok
returns-in-Ok g c =
    let tracks = c.self.inside.tracks.items in
    let i = c.in-Ok.rank in
    let t = c.args.track.now in
    let place : StandsAt tracks t.address (Ok i) = rw (c.in-Ok.is, ← c.self.view_is, c.address.ensures) at c.locate-place.ensures in
    let whole : refill (length tracks) tracks (set c.deref_mut.result.now i c.copy_from.new.self) ≡ set tracks i t = rw (c.copy_from.ensures, c.deref_mut.ensures.value) (refill_same tracks (set tracks i t) (length-set tracks i t)) in
    rw (← c.self.view_is) (whole ∙ copy_there g.row.N i t tracks place)

pub locate-place-requires : goal.locate-place-requires
locate-place-requires g c = search

pub is_full-requires : goal.is_full-requires
is_full-requires g c = search
