use Rattle.std.proofs.Common.{◌≡◌, ◌<◌, length, map, get_or}
use Rattle.station_journal.specs.Rising.{IsRising}
use Rattle.station_book.specs.Tracks.{address_of}
use Rattle.station_book.proofs.TableLemmas.{rising_addresses}
use Rattle.station_book.proofs.RankLemmas.{place_at_rank, rank_where_it_stands}
use Rattle.station_book.proofs.table.Table.is_at.Goals as goal

pub returns-then-there-address : goal.returns-then-there-address
returns-then-there-address g c = λ found.
    let tracks = c.self.inside.tracks.items in
    let i = c.args.place in
    let up : IsRising (map address_of tracks) = rising_addresses tracks c.self.invariant.rising in
    let within : i < length (map address_of tracks) = rw (c.len.ensures.value, c.self.invariant.addresses) at c.if-place-len.true in
    let same : get_or (map address_of tracks) i _ ≡ c.args.address = rw (c.deref.ensures.0, c.self.invariant.addresses) at c.if-there-address.true in
    rw (← c.self.view_is) (place_at_rank c.args.address tracks i _ (rank_where_it_stands (map address_of tracks) c.args.address i _ up within same) within same)
