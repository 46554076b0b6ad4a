-- What a frame carries, by its kind, as fields.
use Rattle.std.specs.Prelude.{Some}
use Rattle.modes_fields.specs.Carried.{no_fields}
use Rattle.modes_fields.specs.declared.fields.Fields.{Fields}
use Rattle.modes_fields.specs.declared.fields.Carried.{Carried}
use Rattle.modes_fields.specs.declared.fields.Carried.TheVariants.{Nothing, Altitude, Squawk, Identification, SurfacePosition, AirbornePosition, GnssPosition, AirborneVelocity, AircraftStatus}

-- the fields of a frame that carries this: those that its kind does not have are none
abbrev pub fields_by : Carried → Fields
fields_by Nothing = no_fields
fields_by (Altitude altitude) = record no_fields { altitude = altitude }
fields_by (Squawk squawk) = record no_fields { squawk = Some squawk }
fields_by (Identification callsign category) = record no_fields { callsign = callsign; category = category }
fields_by (SurfacePosition surface) = record no_fields { surface = Some surface }
fields_by (AirbornePosition altitude place) = record no_fields { altitude = altitude; place = Some place }
fields_by (GnssPosition place) = record no_fields { place = Some place }
fields_by (AirborneVelocity velocity vertical rate_source) = record no_fields { velocity = velocity; vertical = vertical; rate_source = rate_source }
fields_by (AircraftStatus emergency) = record no_fields { emergency = emergency }
