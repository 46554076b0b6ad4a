-- The law of limits that are told: some limits and then others are told together.
use Rattle.std.proofs.Common.{List, [], ◌∷◌, ◌++◌, subst}
use Rattle.station_journal.specs.declared.full_limit.FullLimit.{FullLimit}
use Rattle.station_reporter.specs.LimitAlarms.{LimitsTold, TellsLimits, with_limit}

pub TellsLimits-then : (x y z : LimitsTold) (limits others : List FullLimit) → TellsLimits x limits y → TellsLimits y others z → TellsLimits x (limits ++ others) z
TellsLimits-then x y z [] others same later = subst (λ (t : LimitsTold). TellsLimits t others z) same later
TellsLimits-then x y z (limit ∷ limits) others (mid, here, rest) later =
    (mid, here, TellsLimits-then (record { reported = with_limit x.reported limit; told = mid }) y z limits others rest later)
