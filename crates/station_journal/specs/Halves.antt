-- How a track is kept: in two halves.
use Rattle.station_journal.specs.Known.{Known}
use Rattle.station_journal.specs.declared.tracks.Track.TheInside.{Inside}

-- what contracts see of the two halves
abbrev pub known_in : Inside → Known
known_in track = record {
  address = track.readings.address;
  heard = track.course.heard;
  callsign = track.readings.callsign;
  category = track.readings.category;
  altitude = track.readings.altitude;
  squawk = track.readings.squawk;
  emergency = track.readings.emergency;
  velocity = track.course.velocity;
  rate = track.readings.rate;
  on_ground = track.readings.on_ground;
  even = track.course.even;
  odd = track.course.odd;
  position = track.course.position;
}

-- the two halves of what is known
abbrev pub halves_of : Known → Inside
halves_of known = record {
  readings = record {
    address = known.address;
    callsign = known.callsign;
    category = known.category;
    altitude = known.altitude;
    squawk = known.squawk;
    emergency = known.emergency;
    rate = known.rate;
    on_ground = known.on_ground;
  };
  course = record {
    heard = known.heard;
    velocity = known.velocity;
    even = known.even;
    odd = known.odd;
    position = known.position;
  };
}
