use Rattle.station_book.proofs.PaddedLemmas.{same_by_lanes}
use Rattle.station_book.proofs.first_frames.is_same.Goals as goal

pub returns : goal.returns
returns c =
    same_by_lanes c.args.frame.now c.args.other.now c.padded.result.now c.padded-2.result.now c.bytes-bytes.ensures.frame c.bytes-other_bytes.ensures.frame c.padded.ensures c.padded-2.ensures
