-- Numbers in which most frames differ. They cost less to compare than all bytes of the frames.
use Rattle.std.specs.Prelude.{ℕ, ◌+◌, ◌-◌, ◌*◌, ◌%◌, ◌<◌, List, [], ◌∷◌, length, get_or}
use Rattle.station_journal.specs.Past.{Frame}

-- the number in the last three bytes of a frame: its parity
abbrev pub digest_of : Frame → ℕ
digest_of frame =
    get_or frame (length frame - 3) 0 * 65536 + get_or frame (length frame - 2) 0 * 256 + get_or frame (length frame - 1) 0

-- the hint for the low bits of each frame's digest isn't 0
abbrev pub Hinted : List ℕ → List Frame → Type 0
Hinted hints [] = Unit {0}
Hinted hints (frame ∷ rest) = (0 < get_or hints (digest_of frame % 8192) 0) × Hinted hints rest
