-- The newest reading of a part of what is read is that part of the newest reading.
use Rattle.std.proofs.Common.{◌≡◌, ℕ, ◌-◌, Bool, true, false, if◌then◌else◌, List, [], ◌∷◌, Option, Some, None, refl, sym, ap, ◌∙◌, nat_le, ℤ}
use Rattle.std.specs.Option.{option_map}
use Rattle.station_journal.proofs.Common.{Site, Entry, Tick, Heard, Stamped, Frame, clock, speaks_for, fresh, stamp, or_older, newest, read_for, row, rate_of, vertical_of}
use Rattle.station_journal.specs.Rates.{rate_with, feet_in}
use Rattle.station_journal.specs.declared.rate.Rate.{Rate}
use Rattle.modes_fields.specs.Carried.{fields_of}
use Rattle.modes_fields.specs.declared.velocity.RateSource.{RateSource}

module _ {V W : Type 0} (f : V → W) where
  abbrev pub mapped : Option (Stamped V) → Option (Stamped W)
  mapped None = None
  mapped (Some s) = Some (record { value = f s.value; at = s.at })

  either : (test : Bool) (v : V) → (if test then Some (f v) else None) ≡ option_map f (if test then Some v else None)
  either true v = refl
  either false v = refl

  pub fresh_mapped : (limit now : ℕ) (s : Option (Stamped V)) → fresh limit now (mapped s) ≡ option_map f (fresh limit now s)
  fresh_mapped limit now None = refl
  fresh_mapped limit now (Some s) = either (nat_le (now - s.at) limit) s.value

  newer_mapped : (at : ℕ) (newer : Option V) (older : Option (Stamped V)) → or_older (stamp at (option_map f newer)) (mapped older) ≡ mapped (or_older (stamp at newer) older)
  newer_mapped at None older = refl
  newer_mapped at (Some v) older = refl

  chosen : (test : Bool) (v : Option V) → (if test then option_map f v else None) ≡ option_map f (if test then v else None)
  chosen true v = refl
  chosen false v = refl

  pub newest_mapped : (read : Frame → Option V) (part : Frame → Option W) → ((frame : Frame) → part frame ≡ option_map f (read frame)) → (base a : ℕ) (past : List Entry) → newest part base a past ≡ mapped (newest read base a past)
  newest_mapped read part is base a [] = refl
  newest_mapped read part is base a (Tick seat at ∷ past) = newest_mapped read part is base a past
  newest_mapped read part is base a (Heard seat frame ∷ past) =
      let reading : read_for part a frame ≡ option_map f (read_for read a frame) =
      ap (λ (r : Option W). if speaks_for a frame then r else None) (is frame) ∙ chosen (speaks_for a frame) (read frame) in
      ap (λ (r : Option W). or_older (stamp (clock base past) r) (newest part base a past)) reading
      ∙ ap (or_older (stamp (clock base past) (option_map f (read_for read a frame)))) (newest_mapped read part is base a past)
      ∙ newer_mapped (clock base past) (read_for read a frame) (newest read base a past)

-- ---- the feet of a rate

feet_with : (source : Option RateSource) (vertical : Option ℤ) → vertical ≡ option_map (λ (rate : Rate). rate.feet) (rate_with source vertical)
feet_with source None = refl
feet_with source (Some feet) = refl

feet_of : (rate : Option Rate) → feet_in rate ≡ option_map (λ (rate : Rate). rate.feet) rate
feet_of None = refl
feet_of (Some rate) = refl

-- the rate of a row is the newest one of its aircraft
pub rate_in_row : (site : Site) (base a : ℕ) (past : List Entry) → (row site base past a).vertical ≡ fresh 60000 (clock base past) (newest vertical_of base a past)
rate_in_row site base a past =
    let same = newest_mapped (λ (rate : Rate). rate.feet) rate_of vertical_of (λ frame. feet_with (fields_of frame).rate_source (fields_of frame).vertical) base a past in
    feet_of (fresh 60000 (clock base past) (newest rate_of base a past))
    ∙ sym (ap (fresh 60000 (clock base past)) same ∙ fresh_mapped (λ (rate : Rate). rate.feet) 60000 (clock base past) (newest rate_of base a past))
