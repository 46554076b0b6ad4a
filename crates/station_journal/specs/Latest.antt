-- The value that contracts see in place of what is kept of a field.
use Rattle.std.specs.Prelude.{◌≡◌, refl, Option, Some, None}
use Rattle.station_journal.specs.declared.aircraft.Stamped.{Stamped}
use Rattle.station_journal.specs.declared.latest.Dated.{Dated}
use Rattle.station_journal.specs.declared.latest.Dated.TheVariants.{Never, Last}
use Rattle.station_journal.specs.declared.latest.Latest.TheInside.{Inside}

-- a kept value with its time, or none
abbrev pub stamped_by : {V : Type 0} → Dated V → Option (Stamped V)
stamped_by Never = None
stamped_by (Last value at) = Some (record { value = value; at = at })

-- how a value with its time is kept
abbrev pub dated_as : {V : Type 0} → Option (Stamped V) → Dated V
dated_as None = Never
dated_as (Some s) = Last s.value s.at

-- what contracts see of a field
abbrev pub stamped_in : {V : Type 0} → Inside V → Option (Stamped V)
stamped_in latest = stamped_by latest.value

-- a field that shows this
abbrev pub latest_as : {V : Type 0} → Option (Stamped V) → Inside V
latest_as stamped = record { value = dated_as stamped }

-- what is kept is all that is seen
pub dated_as-stamped_by : {V : Type 0} (value : Dated V) → dated_as (stamped_by value) ≡ value
dated_as-stamped_by Never = refl
dated_as-stamped_by (Last value at) = refl

-- the view forgets nothing
pub latest_as-stamped_in : {V : Type 0} (latest : Inside V) → Unit {0} → latest_as (stamped_in latest) ≡ latest
latest_as-stamped_in latest _ = rw (dated_as-stamped_by latest.value) refl
