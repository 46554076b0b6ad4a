use Rattle.std.proofs.Common.{◌≡◌, ◌≢◌, ◌<◌, ◌≤◌, length, map, get_or, arith}
use Rattle.station_book.specs.Tracks.{address_of, IsRank}
use Rattle.station_book.proofs.TableLemmas.{rising_addresses}
use Rattle.station_book.proofs.RankLemmas.{place_at_rank, place_at_gap}
use Rattle.station_book.proofs.table.Table.search.Goals as goal

pub rank_of-rank-requires : goal.rank_of-rank-requires
rank_of-rank-requires g c = rw (c.as_slice.ensures.value, c.self.invariant.addresses) (rising_addresses c.self.inside.tracks.items c.self.invariant.rising)

pub returns-then-there-address : goal.returns-then-there-address
returns-then-there-address g c =
    let tracks = c.self.inside.tracks.items in
    let i = c.rank_of-rank.result in
    let rank : IsRank (map address_of tracks) c.args.address i = rw (c.as_slice.ensures.value, c.self.invariant.addresses) at c.rank_of-rank.ensures in
    let within : i < length (map address_of tracks) = rw (c.len.ensures.value, c.self.invariant.addresses) at c.if-rank-len.true in
    let same : get_or (map address_of tracks) i _ ≡ c.args.address = rw (c.deref.ensures.0, c.self.invariant.addresses) at c.if-there-address.true in
    rw (← c.self.view_is) (place_at_rank c.args.address tracks i _ rank within same)

pub returns-else-there-address : goal.returns-else-there-address
returns-else-there-address g c =
    let tracks = c.self.inside.tracks.items in
    let i = c.rank_of-rank.result in
    let rank : IsRank (map address_of tracks) c.args.address i = rw (c.as_slice.ensures.value, c.self.invariant.addresses) at c.rank_of-rank.ensures in
    let other : get_or (map address_of tracks) i _ ≢ c.args.address = rw (c.deref.ensures.0, c.self.invariant.addresses) at c.if-there-address.false in
    rw (← c.self.view_is) (place_at_gap c.args.address tracks i _ c.self.invariant.rising rank (λ lt. other))

pub returns-else-rank-len : goal.returns-else-rank-len
returns-else-rank-len g c =
    let tracks = c.self.inside.tracks.items in
    let i = c.rank_of-rank.result in
    let rank : IsRank (map address_of tracks) c.args.address i = rw (c.as_slice.ensures.value, c.self.invariant.addresses) at c.rank_of-rank.ensures in
    let beyond : length (map address_of tracks) ≤ i = rw (c.len.ensures.value, c.self.invariant.addresses) at c.if-rank-len.false in
    rw (← c.self.view_is) (place_at_gap c.args.address tracks i 0 c.self.invariant.rising rank (λ lt same. omega arith))
