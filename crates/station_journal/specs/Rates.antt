-- Vertical rates with what measured them: one reading, so the source that is shown is that of the rate that is shown.
use Rattle.std.specs.Prelude.{ℤ, Option, Some, None}
use Rattle.modes_fields.specs.declared.fields.Fields.{Fields}
use Rattle.modes_fields.specs.declared.velocity.RateSource.{RateSource}
use Rattle.station_journal.specs.declared.rate.Rate.{Rate}

-- the rate with its source, if there is a rate
abbrev pub rate_with : Option RateSource → Option ℤ → Option Rate
rate_with source None = None
rate_with source (Some feet) = Some (record { feet = feet; source = source })

-- the rate in a frame's fields
abbrev pub rate_in : Fields → Option Rate
rate_in fields = rate_with fields.rate_source fields.vertical

-- the feet per minute of a rate
abbrev pub feet_in : Option Rate → Option ℤ
feet_in None = None
feet_in (Some rate) = Some rate.feet

-- what measured a rate
abbrev pub source_in : Option Rate → Option RateSource
source_in None = None
source_in (Some rate) = rate.source
