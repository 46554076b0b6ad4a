use Rattle.std.proofs.Common.{◌<◌, ◌%◌, length, ap, sym, ◌∙◌, [], ◌∷◌, ◌++◌, arith}
use Rattle.std.proofs.lemmas.List.{map-append}
use Rattle.station_book.specs.Digests.{digest_of}
use Rattle.station_book.proofs.DigestLemmas.{hinted_push}
use Rattle.station_book.proofs.first_frames.FirstFrames.hear.Goals as goal

pub invariant_of-self : goal.invariant_of-self
invariant_of-self c =
    let frames = c.self.inside.frames.items in
    let frame = c.args.frame.now in
    let hint : 0 < c.max.result = grind (arith, c.max.ensures) in
    let within : digest_of frame % 8192 < length c.self.inside.hints = grind (arith, c.self.told, c.self.ranges) in
    rw c.push-then-place-lt-MOST.ensures.items (record {
      digests = c.push.ensures.items ∙ ap (λ d. c.self.inside.digests.items ++ d ∷ []) c.digest-digest.ensures ∙ ap (λ ds. ds ++ digest_of frame ∷ []) c.self.invariant.digests ∙ sym (map-append digest_of frames (frame ∷ []));
      hints = rw c.digest-digest.ensures (hinted_push c.self.inside.hints c.max.result frame frames hint within c.self.invariant.hints);
    })
