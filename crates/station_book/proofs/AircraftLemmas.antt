-- One aircraft: its track shows what a search finds, before and after each entry.
use Rattle.std.proofs.Common.{◌≡◌, ℕ, ◌-◌, ◌<◌, Bool, true, false, List, ◌∷◌, Option, Some, None, refl, ap, ◌∙◌, arith, nat_le, if◌then◌else◌, unwrap_or}
use Rattle.std.proofs.lemmas.Bool.Decides.{nat_tests}
use Rattle.station_journal.proofs.Common.{AgreeFrom, Frame, clock, fix_from, fresh, pair_ms, speaks_for, live, stamp, or_older, newest, newest_fix, fix_by, partner, pair_with, Site, ground_of, spot_of, sighting_of, callsign_of, even_spot_of, odd_spot_of, altitude_of, category_of, emergency_of, squawk_of, velocity_of, rate_of, IsTimed, blank, updated_track}
use Rattle.modes_fields.specs.Carried.{fields_of}
use Rattle.station_journal.specs.declared.entry.Entry.{Entry}
use Rattle.station_journal.specs.declared.entry.Entry.TheVariants.{Tick, Heard}
use Rattle.station_journal.proofs.FreshLemmas.{fresh_none_below, agree_later, agree_newer, agree_none}
use Rattle.station_journal.proofs.RecentSoundLemmas.{old_later}
use Rattle.station_journal.proofs.SearchLemmas.{newest_old, newest_fix_old, heard_by_newest}
use Rattle.station_journal.specs.declared.spot.Spot.{Spot}
use Rattle.station_journal.specs.declared.tracks.Track.{Track}
use Rattle.station_book.proofs.Common.{Tracks, TracksAt}

-- the values of a track show what a search finds, now and later
pub record Serves (site : Site) (base : ℕ) (past : List Entry) (a : ℕ) (track : Track) : Type 0 where
  pub callsign : AgreeFrom 60000 (clock base past) track.callsign (newest callsign_of base a past)
  pub category : AgreeFrom 60000 (clock base past) track.category (newest category_of base a past)
  pub altitude : AgreeFrom 60000 (clock base past) track.altitude (newest altitude_of base a past)
  pub squawk : AgreeFrom 60000 (clock base past) track.squawk (newest squawk_of base a past)
  pub emergency : AgreeFrom 60000 (clock base past) track.emergency (newest emergency_of base a past)
  pub velocity : AgreeFrom 60000 (clock base past) track.velocity (newest (velocity_of site) base a past)
  pub rate : AgreeFrom 60000 (clock base past) track.rate (newest rate_of base a past)
  pub on_ground : AgreeFrom 60000 (clock base past) track.on_ground (newest (ground_of site) base a past)
  pub even : AgreeFrom 10000 (clock base past) track.even (newest (even_spot_of site) base a past)
  pub odd : AgreeFrom 10000 (clock base past) track.odd (newest (odd_spot_of site) base a past)
  pub position : AgreeFrom 60000 (clock base past) track.position (newest_fix site base a past)

module _ (site : Site) (base a : ℕ) (past : List Entry) where
  -- a blank track shows what a search finds of an aircraft that isn't live
  pub blank_serves : live base past a ≡ false → Serves site base past a (blank a)
  blank_serves old = record {
    callsign = agree_none 60000 (clock base past) (newest callsign_of base a past) (newest_old callsign_of (clock base past) base a past old);
    category = agree_none 60000 (clock base past) (newest category_of base a past) (newest_old category_of (clock base past) base a past old);
    altitude = agree_none 60000 (clock base past) (newest altitude_of base a past) (newest_old altitude_of (clock base past) base a past old);
    squawk = agree_none 60000 (clock base past) (newest squawk_of base a past) (newest_old squawk_of (clock base past) base a past old);
    emergency = agree_none 60000 (clock base past) (newest emergency_of base a past) (newest_old emergency_of (clock base past) base a past old);
    velocity = agree_none 60000 (clock base past) (newest (velocity_of site) base a past) (newest_old (velocity_of site) (clock base past) base a past old);
    rate = agree_none 60000 (clock base past) (newest rate_of base a past) (newest_old rate_of (clock base past) base a past old);
    on_ground = agree_none 60000 (clock base past) (newest (ground_of site) base a past) (newest_old (ground_of site) (clock base past) base a past old);
    even = agree_none 10000 (clock base past) (newest (even_spot_of site) base a past) (fresh_none_below 10000 60000 (clock base past) (newest (even_spot_of site) base a past) (omega arith) (newest_old (even_spot_of site) (clock base past) base a past old));
    odd = agree_none 10000 (clock base past) (newest (odd_spot_of site) base a past) (fresh_none_below 10000 60000 (clock base past) (newest (odd_spot_of site) base a past) (omega arith) (newest_old (odd_spot_of site) (clock base past) base a past old));
    position = agree_none 60000 (clock base past) (newest_fix site base a past) (newest_fix_old site (clock base past) base a past old);
  }

  pub tracks_serve : (track : Track) → Tracks site base past a track → Serves site base past a track
  tracks_serve track t = record {
    callsign = t.callsign;
    category = t.category;
    altitude = t.altitude;
    squawk = t.squawk;
    emergency = t.emergency;
    velocity = t.velocity;
    rate = t.rate;
    on_ground = t.on_ground;
    even = t.even;
    odd = t.odd;
    position = t.position;
  }

  -- the kept places give the position that the search finds
  same_partner : (track : Track) → Serves site base past a track → (odd : Bool) → (if odd then fresh pair_ms (clock base past) track.even else fresh pair_ms (clock base past) track.odd) ≡ partner site odd base a past
  same_partner track serves true = serves.even (clock base past) (omega arith)
  same_partner track serves false = serves.odd (clock base past) (omega arith)

  same_fix : (track : Track) → Serves site base past a track → (place : Option Spot) → fix_from site (clock base past) track.even track.odd place ≡ fix_by site base a past place
  same_fix track serves None = refl
  same_fix track serves (Some place) = ap (pair_with site place) (same_partner track serves place.odd)

  -- after a tick the track stays where the newest frame is at most 60,000 ms old
  pub kept_by_tick : (seat at : ℕ) (track : Track) → IsTimed base past → clock base past < at → nat_le (at - track.heard) 60000 ≡ true → Tracks site base past a track → Tracks site base (Tick seat at ∷ past) a track
  kept_by_tick seat at track timed later recent t = record {
    address = t.address;
    live = heard_by_newest at base a past timed ∙ rw (t.heard, recent) refl;
    heard = t.heard;
    callsign = agree_later 60000 (clock base past) at track.callsign (newest callsign_of base a past) (omega arith) t.callsign;
    category = agree_later 60000 (clock base past) at track.category (newest category_of base a past) (omega arith) t.category;
    altitude = agree_later 60000 (clock base past) at track.altitude (newest altitude_of base a past) (omega arith) t.altitude;
    squawk = agree_later 60000 (clock base past) at track.squawk (newest squawk_of base a past) (omega arith) t.squawk;
    emergency = agree_later 60000 (clock base past) at track.emergency (newest emergency_of base a past) (omega arith) t.emergency;
    velocity = agree_later 60000 (clock base past) at track.velocity (newest (velocity_of site) base a past) (omega arith) t.velocity;
    rate = agree_later 60000 (clock base past) at track.rate (newest rate_of base a past) (omega arith) t.rate;
    on_ground = agree_later 60000 (clock base past) at track.on_ground (newest (ground_of site) base a past) (omega arith) t.on_ground;
    even = agree_later 10000 (clock base past) at track.even (newest (even_spot_of site) base a past) (omega arith) t.even;
    odd = agree_later 10000 (clock base past) at track.odd (newest (odd_spot_of site) base a past) (omega arith) t.odd;
    position = agree_later 60000 (clock base past) at track.position (newest_fix site base a past) (omega arith) t.position;
  }

  -- an aircraft whose newest frame is older isn't live any more
  pub swept_by_tick : (seat at : ℕ) (track : Track) → IsTimed base past → nat_le (at - track.heard) 60000 ≡ false → Tracks site base past a track → live base (Tick seat at ∷ past) a ≡ false
  swept_by_tick seat at track timed old t = heard_by_newest at base a past timed ∙ rw (t.heard, old) refl

  -- an aircraft that wasn't live isn't live after a tick
  pub absent_after_tick : (seat at : ℕ) → clock base past < at → live base past a ≡ false → live base (Tick seat at ∷ past) a ≡ false
  absent_after_tick seat at later old = old_later (clock base past) at base a past (omega arith) old

  -- a frame of another aircraft changes nothing
  module _ (seat : ℕ) (frame : Frame) (other : speaks_for a frame ≡ false) where
    same_live : live base (Heard seat frame ∷ past) a ≡ live base past a
    same_live = rw other refl

    same_newest : {V : Type 0} (read : Frame → Option V) → newest read base a (Heard seat frame ∷ past) ≡ newest read base a past
    same_newest read = rw other refl

    same_newest_fix : newest_fix site base a (Heard seat frame ∷ past) ≡ newest_fix site base a past
    same_newest_fix = rw other refl

    pub unchanged_by_other : (kept : Option Track) → TracksAt site base past a kept → TracksAt site base (Heard seat frame ∷ past) a kept
    unchanged_by_other None absent = same_live ∙ absent
    unchanged_by_other (Some track) t = record {
      address = t.address;
      live = same_live ∙ t.live;
      heard = same_newest sighting_of ∙ t.heard;
      callsign = rw (same_newest callsign_of) t.callsign;
      category = rw (same_newest category_of) t.category;
      altitude = rw (same_newest altitude_of) t.altitude;
      squawk = rw (same_newest squawk_of) t.squawk;
      emergency = rw (same_newest emergency_of) t.emergency;
      velocity = rw (same_newest (velocity_of site)) t.velocity;
      rate = rw (same_newest rate_of) t.rate;
      on_ground = rw (same_newest (ground_of site)) t.on_ground;
      even = rw (same_newest (even_spot_of site)) t.even;
      odd = rw (same_newest (odd_spot_of site)) t.odd;
      position = rw same_newest_fix t.position;
    }

  -- a frame of the aircraft itself updates the track
  module _ (seat : ℕ) (frame : Frame) (own : speaks_for a frame ≡ true) where
    newer_read : {V : Type 0} (read : Frame → Option V) → newest read base a (Heard seat frame ∷ past) ≡ or_older (stamp (clock base past) (read frame)) (newest read base a past)
    newer_read read = rw own refl

    newer_fix : newest_fix site base a (Heard seat frame ∷ past) ≡ or_older (stamp (clock base past) (fix_by site base a past (spot_of site frame))) (newest_fix site base a past)
    newer_fix = rw own refl

    now_live : live base (Heard seat frame ∷ past) a ≡ true
    now_live = rw own (grind (arith, nat_tests))

    pub updated_by_own : (track : Track) → track.address ≡ a → Serves site base past a track → Tracks site base (Heard seat frame ∷ past) a (updated_track site (clock base past) (fields_of frame) track)
    updated_by_own track same serves = record {
      address = same;
      live = now_live;
      heard = newer_read sighting_of;
      callsign = rw (newer_read callsign_of) (agree_newer 60000 (clock base past) (stamp (clock base past) (callsign_of frame)) track.callsign (newest callsign_of base a past) serves.callsign);
      category = rw (newer_read category_of) (agree_newer 60000 (clock base past) (stamp (clock base past) (category_of frame)) track.category (newest category_of base a past) serves.category);
      altitude = rw (newer_read altitude_of) (agree_newer 60000 (clock base past) (stamp (clock base past) (altitude_of frame)) track.altitude (newest altitude_of base a past) serves.altitude);
      squawk = rw (newer_read squawk_of) (agree_newer 60000 (clock base past) (stamp (clock base past) (squawk_of frame)) track.squawk (newest squawk_of base a past) serves.squawk);
      emergency = rw (newer_read emergency_of) (agree_newer 60000 (clock base past) (stamp (clock base past) (emergency_of frame)) track.emergency (newest emergency_of base a past) serves.emergency);
      velocity = rw (newer_read (velocity_of site)) (agree_newer 60000 (clock base past) (stamp (clock base past) (velocity_of site frame)) track.velocity (newest (velocity_of site) base a past) serves.velocity);
      rate = rw (newer_read rate_of) (agree_newer 60000 (clock base past) (stamp (clock base past) (rate_of frame)) track.rate (newest rate_of base a past) serves.rate);
      on_ground = rw (newer_read (ground_of site)) (agree_newer 60000 (clock base past) (stamp (clock base past) (ground_of site frame)) track.on_ground (newest (ground_of site) base a past) serves.on_ground);
      even = rw (newer_read (even_spot_of site)) (agree_newer 10000 (clock base past) (stamp (clock base past) (even_spot_of site frame)) track.even (newest (even_spot_of site) base a past) serves.even);
      odd = rw (newer_read (odd_spot_of site)) (agree_newer 10000 (clock base past) (stamp (clock base past) (odd_spot_of site frame)) track.odd (newest (odd_spot_of site) base a past) serves.odd);
      position = rw (newer_fix, same_fix track serves (spot_of site frame)) (agree_newer 60000 (clock base past) (stamp (clock base past) (fix_by site base a past (spot_of site frame))) track.position (newest_fix site base a past) serves.position);
    }

    pub heard_of_own : (kept : Option Track) → TracksAt site base past a kept → Tracks site base (Heard seat frame ∷ past) a (updated_track site (clock base past) (fields_of frame) (unwrap_or kept (blank a)))
    heard_of_own None absent = updated_by_own (blank a) refl (blank_serves absent)
    heard_of_own (Some track) t = updated_by_own track t.address (tracks_serve track t)
