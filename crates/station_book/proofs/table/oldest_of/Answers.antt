use Rattle.std.proofs.Common.{◌≡◌, ◌<◌, ◌≤◌, length, take, get_or, arith}
use Rattle.std.proofs.lemmas.List.{take_more}
use Rattle.station_book.proofs.HeardLemmas.{heard_earlier, heard_append}
use Rattle.station_book.proofs.table.oldest_of.Goals as goal

pub loop-track-preserved : goal.loop-track-preserved
loop-track-preserved c =
    let tracks = c.args.tracks.now in
    let i = c.loop-track.track-index in
    let item = c.track-item.result in
    let next = c.min-oldest.result in
    let lt : i < length tracks = omega arith in
    let is : item ≡ get_or tracks i item = c.track-item.is in
    let before : next ≤ c.loop-track.oldest = grind (arith, c.min-oldest.ensures) in
    let now : next ≤ item.heard = grind (arith, c.min-oldest.ensures) in
    rw (take_more tracks i item lt, ← is) (heard_append next item (take i tracks) now (heard_earlier next c.loop-track.oldest (take i tracks) before c.loop-track.invariant))
