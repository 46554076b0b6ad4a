use Rattle.std.proofs.Common.{◌≡◌, ◌<◌, false, length, map, get_or, nat_lt, ◌&&◌, [], arith, ap, sym, ◌∙◌}
use Rattle.std.proofs.lemmas.List.{length-map}
use Rattle.station_journal.specs.Repeats.{same_frame}
use Rattle.station_book.specs.Digests.{digest_of}
use Rattle.station_book.proofs.DigestLemmas.{other_at, other_by_digest, passed}
use Rattle.station_book.proofs.first_frames.FirstFrames.is_at_its_digest.Goals.{else-other-digest-via-then-other-digest+else-is_at, else-other-digest-via-else-other-digest}
use Rattle.station_book.proofs.first_frames.FirstFrames.is_at_its_digest.Goals as goal

pub loop-place-preserved : goal.loop-place-preserved
loop-place-preserved c =
    let frame = c.args.frame.now in
    let frames = c.args.self.now in
    let place = c.loop-place.place in
    let digests : c.as_slice-other-items.result.now ≡ map digest_of frames = c.as_slice-other-items.ensures.value ∙ c.self.invariant.digests ∙ ap (map digest_of) c.self.view_is in
    let within : place < length frames = omega (arith, c.loop-place-test.true, ap length digests, length-map frames digest_of) in
    let other : same_frame frame (get_or frames place []) ≡ false = elim c.else-other-digest.branch [
      | else-other-digest-via-then-other-digest+else-is_at w ↦ (let absent : (nat_lt place (length frames) && same_frame frame (get_or frames place [])) ≡ false = sym w.is_at.ensures ∙ w.if-is_at.false in other_at frame frames place within absent)
      | else-other-digest-via-else-other-digest w ↦ other_by_digest frame frames place 0 within (rw (digests, c.requires) at w.if-other-digest.false)
    ] in
    passed frame frames place within other c.loop-place.invariant
