-- The number of aircraft of a station is small, so its types fit in memory.
use Rattle.std.proofs.Common.{ℕ, ◌<◌, ◌≤◌, ◌^◌, arith}
use Rattle.station_book.specs.JournalBook.{most_aircraft}

pub few : (n : ℕ) → n ≤ most_aircraft → n < 2 ^ 32
few n small = omega arith
