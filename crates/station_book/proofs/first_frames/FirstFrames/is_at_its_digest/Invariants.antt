use Rattle.std.proofs.Common.{◌≡◌, false, take}
use Rattle.std.specs.List.{list_any}
use Rattle.station_journal.specs.Repeats.{same_frame}
use Rattle.station_book.proofs.first_frames.FirstFrames.is_at_its_digest.Given as goal

abbrev pub invariant-loop-place : goal.invariant-loop-place
invariant-loop-place l = list_any (same_frame l.frame) (take l.place l.self) ≡ false
