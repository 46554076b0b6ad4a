use Rattle.station_book.proofs.PaddedLemmas.{padded_digest}
use Rattle.station_book.proofs.first_frames.digest.Goals as goal

pub returns : goal.returns
returns c = rw (c.from.ensures, c.from-2.ensures, c.from-3.ensures, c.padded-padded.ensures) (padded_digest c.args.frame.now c.bytes-bytes.ensures.frame)
