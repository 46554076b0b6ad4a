-- What is known of an aircraft, with the times of its values in milliseconds.
use Rattle.std.specs.Prelude.{ℕ, true, false, if◌then◌else◌, Option, Some, None}
use Rattle.modes_fields.specs.declared.fields.Fields.{Fields}
use Rattle.modes_cpr.specs.declared.points.Position.{Position}
use Rattle.station_journal.specs.declared.aircraft.Aircraft.{Aircraft}
use Rattle.station_journal.specs.declared.aircraft.Stamped.{Stamped}
use Rattle.station_journal.specs.declared.spot.Spot.{Spot}
use Rattle.station_journal.specs.declared.tracks.Track.{Track}
use Rattle.station_journal.specs.Past.{Site, spot_from, spot_in, stamp, or_older, fresh, fresh_moment, pair_with, with_parity, life_ms, pair_ms}
use Rattle.modes_fields.specs.declared.surface.Surface.{Surface}
use Rattle.station_journal.specs.Rates.{rate_in, feet_in, source_in}
use Rattle.station_journal.specs.Table.{velocity_in, ground_in, ground_by}

-- the position that a place gives with the newest one of the other parity, if that is at most 10,000 ms old
abbrev pub fix_from : Site → ℕ → Option (Stamped Spot) → Option (Stamped Spot) → Option Spot → Option Position
fix_from site now even odd None = None
fix_from site now even odd (Some spot) = pair_with site spot (if spot.odd then fresh pair_ms now even else fresh pair_ms now odd)

-- the track of an aircraft of which nothing is known yet
abbrev pub blank : ℕ → Track
blank a = record {
  address = a;
  heard = 0;
  callsign = None;
  category = None;
  altitude = None;
  squawk = None;
  emergency = None;
  velocity = None;
  rate = None;
  on_ground = None;
  even = None;
  odd = None;
  position = None;
}

-- the track with a place heard at the time now, and the position that it gives
abbrev pub with_spot : Site → ℕ → Spot → Track → Track
with_spot site now spot track = record track {
  even = or_older (stamp now (with_parity false (Some spot))) track.even;
  odd = or_older (stamp now (with_parity true (Some spot))) track.odd;
  position = or_older (stamp now (fix_from site now track.even track.odd (Some spot))) track.position;
  on_ground = or_older (stamp now (ground_by site (Some spot))) track.on_ground;
}

-- the track with a surface position heard at the time now, where there is a site
abbrev pub with_surface : Site → ℕ → Surface → Track → Track
with_surface None now surface track = track
with_surface (Some r) now surface track =
    with_spot (Some r) now (spot_from true surface.place) (record track { velocity = or_older (stamp now surface.velocity) track.velocity })

-- the track after a frame with these fields, heard at the time now
abbrev pub updated_track : Site → ℕ → Fields → Track → Track
updated_track site now fields track = record {
  address = track.address;
  heard = now;
  callsign = or_older (stamp now fields.callsign) track.callsign;
  category = or_older (stamp now fields.category) track.category;
  altitude = or_older (stamp now fields.altitude) track.altitude;
  squawk = or_older (stamp now fields.squawk) track.squawk;
  emergency = or_older (stamp now fields.emergency) track.emergency;
  velocity = or_older (stamp now (velocity_in site fields)) track.velocity;
  rate = or_older (stamp now (rate_in fields)) track.rate;
  on_ground = or_older (stamp now (ground_in site fields)) track.on_ground;
  even = or_older (stamp now (with_parity false (spot_in site fields))) track.even;
  odd = or_older (stamp now (with_parity true (spot_in site fields))) track.odd;
  position = or_older (stamp now (fix_from site now track.even track.odd (spot_in site fields))) track.position;
}

-- the row that a track shows at the time now
abbrev pub track_row : ℕ → Track → Aircraft
track_row now track = record {
  address = track.address;
  callsign = fresh life_ms now track.callsign;
  category = fresh life_ms now track.category;
  altitude = fresh life_ms now track.altitude;
  squawk = fresh life_ms now track.squawk;
  emergency = fresh life_ms now track.emergency;
  velocity = fresh life_ms now track.velocity;
  vertical = feet_in (fresh life_ms now track.rate);
  rate_source = source_in (fresh life_ms now track.rate);
  on_ground = fresh life_ms now track.on_ground;
  position = fresh life_ms now track.position;
  heard = track.heard;
}

-- the time of the position that the row of a track shows at the time now
abbrev pub track_placed : ℕ → Track → Option ℕ
track_placed now track = fresh_moment life_ms now track.position
