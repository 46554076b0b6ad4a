use Rattle.std.proofs.Common.{◌≡◌, false, map, nat_eq, ap, sym, ◌∙◌}
use Rattle.std.specs.List.{list_any}
use Rattle.station_book.specs.Digests.{digest_of}
use Rattle.station_book.proofs.DigestLemmas.{absent_by_digest}
use Rattle.station_book.proofs.first_frames.FirstFrames.is_anywhere.Goals as goal

pub returns-else-is_among : goal.returns-else-is_among
returns-else-is_among c =
    let frame = c.args.frame.now in
    let frames = c.args.self.now in
    let digests : c.as_slice.result.now ≡ map digest_of frames = c.as_slice.ensures.value ∙ c.self.invariant.digests ∙ ap (map digest_of) c.self.view_is in
    let none : list_any (nat_eq c.args.digest) (map digest_of frames) ≡ false = ap (list_any (nat_eq c.args.digest)) (sym digests) ∙ sym c.is_among.ensures ∙ c.if-is_among.false in
    c.if-is_among.false ∙ sym (absent_by_digest frame frames c.args.digest c.requires none)
