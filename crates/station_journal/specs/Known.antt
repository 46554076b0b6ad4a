-- What is known of an aircraft.
use Rattle.std.specs.Prelude.{ℕ, ℤ, Bool, List, Option}
use Rattle.modes_cpr.specs.declared.points.Position.{Position}
use Rattle.modes_fields.specs.declared.category.Category.{Category}
use Rattle.modes_fields.specs.declared.emergency.Emergency.{Emergency}
use Rattle.modes_fields.specs.declared.velocity.Velocity.{Velocity}
use Rattle.station_journal.specs.declared.aircraft.Stamped.{Stamped}
use Rattle.station_journal.specs.declared.rate.Rate.{Rate}
use Rattle.station_journal.specs.declared.spot.Spot.{Spot}

-- the time of its newest frame, the newest value of each field with its time, the newest even and odd places, and the newest position
pub record Known : Type 0 where
  pub address : ℕ
  pub heard : ℕ
  pub callsign : Option (Stamped (List ℕ))
  pub category : Option (Stamped Category)
  pub altitude : Option (Stamped ℤ)
  pub squawk : Option (Stamped ℕ)
  pub emergency : Option (Stamped Emergency)
  pub velocity : Option (Stamped Velocity)
  pub rate : Option (Stamped Rate)
  pub on_ground : Option (Stamped Bool)
  pub even : Option (Stamped Spot)
  pub odd : Option (Stamped Spot)
  pub position : Option (Stamped Position)
