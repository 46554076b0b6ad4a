use Rattle.std.proofs.Common.{◌≡◌, ◌%◌, get_or, sym}
use Rattle.station_book.specs.Digests.{digest_of}
use Rattle.station_book.proofs.DigestLemmas.{absent_by_hint}
use Rattle.station_book.proofs.first_frames.FirstFrames.contains.Goals as goal

pub returns-else-hint-ne0 : goal.returns-else-hint-ne0
returns-else-hint-ne0 c =
    let none : get_or c.self.inside.hints (digest_of c.args.frame.now % 8192) 0 ≡ 0 = rw c.digest-digest.ensures at c.if-hint-ne0.false in
    rw (c.if-hint-ne0.false, ← c.self.view_is) (sym (absent_by_hint c.self.inside.hints c.args.frame.now c.self.inside.frames.items none c.self.invariant.hints))
