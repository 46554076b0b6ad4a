use Rattle.std.proofs.Common.{ℕ, ltb, rules}
use Rattle.std.proofs.lemmas.List.Sorted.{IsPartitionPoint-from_clause, IsPartitionedBy-ltb}
use Rattle.station_book.proofs.RankLemmas.{rising_at, rank_from_point}
use Rattle.station_book.proofs.table.rank_of.Goals as goal

pub returns : goal.returns
returns c =
    let below = λ (x : ℕ). ltb x c.args.address in
    let parted = IsPartitionedBy-ltb (λ (x : ℕ). x) c.args.addresses.now c.args.address (rising_at c.args.addresses.now c.requires) in
    rank_from_point c.args.addresses.now c.args.address c.partition_point.result c.partition_point.ensures.bound (IsPartitionPoint-from_clause below c.args.addresses.now c.partition_point.result c.partition_point.ensures.partitioned parted (λ a r f' called. search rules))
