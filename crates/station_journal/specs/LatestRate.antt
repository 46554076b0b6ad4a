-- The value that contracts see in place of what is kept of the vertical rate.
use Rattle.std.specs.Prelude.{◌≡◌, refl, Option, Some, None}
use Rattle.station_journal.specs.declared.aircraft.Stamped.{Stamped}
use Rattle.station_journal.specs.declared.rate.Rate.{Rate}
use Rattle.station_journal.specs.declared.latest_rate.DatedRate.{DatedRate}
use Rattle.station_journal.specs.declared.latest_rate.DatedRate.TheVariants.{Never, Last}
use Rattle.station_journal.specs.declared.latest_rate.LatestRate.TheInside.{Inside}

-- a kept rate with its time, or none
abbrev pub stamped_by : DatedRate → Option (Stamped Rate)
stamped_by Never = None
stamped_by (Last source feet at) = Some (record { value = record { feet = feet; source = source }; at = at })

-- how a rate with its time is kept
abbrev pub dated_as : Option (Stamped Rate) → DatedRate
dated_as None = Never
dated_as (Some s) = Last s.value.source s.value.feet s.at

-- what contracts see of the rate
abbrev pub stamped_in : Inside → Option (Stamped Rate)
stamped_in latest = stamped_by latest.value

-- a rate that shows this
abbrev pub latest_as : Option (Stamped Rate) → Inside
latest_as stamped = record { value = dated_as stamped }

-- what is kept is all that is seen
pub dated_as-stamped_by : (value : DatedRate) → dated_as (stamped_by value) ≡ value
dated_as-stamped_by Never = refl
dated_as-stamped_by (Last source feet at) = refl

-- the view forgets nothing
pub latest_as-stamped_in : (latest : Inside) → Unit {0} → latest_as (stamped_in latest) ≡ latest
latest_as-stamped_in latest _ = rw (dated_as-stamped_by latest.value) refl
