use Rattle.std.proofs.Common.{take}
use Rattle.station_book.specs.Tracks.{HeardFrom}
use Rattle.station_book.proofs.table.oldest_of.Given as goal

abbrev pub invariant-loop-track : goal.invariant-loop-track
invariant-loop-track l = HeardFrom l.oldest (take l.track-index l.tracks)
