use Rattle.std.proofs.Common.{refl}
use Rattle.modes_frame.specs.Frames as frames
use Rattle.station_book.proofs.first_frames.KeptFrameDefault.default.Goals as goal

pub unwrap-requires : goal.unwrap-requires
unfolding frames.df_of frames.byte_bits
unwrap-requires c = c.from_bytes.ensures.some.1 refl
