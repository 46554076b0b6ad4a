use Rattle.std.proofs.Common.{◌≡◌, map, take}
use Rattle.station_book.specs.Tracks.{address_of}
use Rattle.station_book.proofs.table.set_addresses.Given as goal

abbrev pub invariant-loop-track : goal.invariant-loop-track
invariant-loop-track g l = l.addresses.items ≡ map address_of (take l.track-index l.tracks)
