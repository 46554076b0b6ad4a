-- Bytes that end a line, and the buffer with them.
use Rattle.std.specs.Prelude.{◌≡◌, ◌≢◌, ℕ, ◌-◌, ◌<◌, List, length, slice_index_or}
pub use Rattle.streams.specs.Source.{IsBorder}

-- the bytes of a buffer
abbrev pub buffer_size : ℕ
buffer_size = 131072

-- the bytes kept of a line without line feed
abbrev pub longest_kept : ℕ
longest_kept = 512

-- the first `count` bytes end with a line feed
abbrev pub EndsLine : List ℕ → ℕ → Type 0
EndsLine buffer count = (0 < count) × (slice_index_or buffer (count - 1) 0 ≡ 10)

-- none of the bytes is a line feed
abbrev pub HasNoLineFeed : List ℕ → Type 0
HasNoLineFeed bytes = (k : ℕ) → k < length bytes → slice_index_or bytes k 0 ≢ 10
