use Rattle.std.proofs.Common.{◌≡◌, ◌≤◌, Ok, refl, sym, ◌∙◌, set, get_or, length, arith, length-set}
use Rattle.std.specs.List.{refill}
use Rattle.modes_fields.specs.Carried.{fields_of}
use Rattle.station_journal.specs.Track.{updated_track}
use Rattle.station_book.specs.Tracks.{StandsAt}
use Rattle.station_book.proofs.TrackLemmas.{rising_put}
use Rattle.station_book.proofs.RankLemmas.{refill_same, map_set, update_there}
use Rattle.station_book.proofs.HeardLemmas.{heard_earlier, heard_put}
use Rattle.station_book.proofs.table.Table.hear.Goals as goal

pub invariant_of-self : goal.invariant_of-self
invariant_of-self g c =
    let tracks = c.self.inside.tracks.items in
    let i = c.in-Ok.rank in
    let stood = c.index-deref_mut-rank.result in
    let place : StandsAt tracks c.args.address (Ok i) = rw (c.in-Ok.is, ← c.self.view_is) at c.requires.place in
    let t = updated_track c.args.site c.args.now (fields_of c.args.frame.now) (get_or tracks i stood) in
    let is : c.update.new.track ≡ t = rw c.deref_mut.ensures.value at c.update.ensures in
    let put = update_there c.args.site c.args.address i c.args.now (fields_of c.args.frame.now) tracks stood place in
    let whole : refill (length tracks) tracks (set c.deref_mut.result.now i c.update.new.track) ≡ set tracks i t = rw (c.deref_mut.ensures.value, is) (refill_same tracks (set tracks i t) (length-set tracks i t)) in
    let before : c.lower.new.time ≤ c.self.inside.oldest = grind (arith, c.lower.ensures) in
    let now : c.lower.new.time ≤ c.args.now = grind (arith, c.lower.ensures) in
    rw whole (record {
      rising = rw put (rising_put _ tracks c.self.invariant.rising);
      addresses = c.self.invariant.addresses ∙ sym (map_set t tracks i stood place.0 refl);
      oldest = rw put (heard_put c.lower.new.time _ tracks now (heard_earlier c.lower.new.time c.self.inside.oldest tracks before c.self.invariant.oldest));
    })

pub returns-in-Ok : goal.returns-in-Ok
returns-in-Ok g c =
    let tracks = c.self.inside.tracks.items in
    let i = c.in-Ok.rank in
    let stood = c.index-deref_mut-rank.result in
    let place : StandsAt tracks c.args.address (Ok i) = rw (c.in-Ok.is, ← c.self.view_is) at c.requires.place in
    let t = updated_track c.args.site c.args.now (fields_of c.args.frame.now) (get_or tracks i stood) in
    let is : c.update.new.track ≡ t = rw c.deref_mut.ensures.value at c.update.ensures in
    let whole : refill (length tracks) tracks (set c.deref_mut.result.now i c.update.new.track) ≡ set tracks i t = rw (c.deref_mut.ensures.value, is) (refill_same tracks (set tracks i t) (length-set tracks i t)) in
    rw (← c.self.view_is) (whole ∙ update_there c.args.site c.args.address i c.args.now (fields_of c.args.frame.now) tracks stood place)
