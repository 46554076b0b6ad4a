-- The time of what a search of the past finds. It is old where the aircraft isn't live.
use Rattle.std.proofs.Common.{◌≡◌, ℕ, ◌-◌, ◌≤◌, Bool, true, false, ◌&&◌, ◌||◌, if◌then◌else◌, List, [], ◌∷◌, Option, Some, None, IfSome, is_some, refl, sym, ◌∙◌, arith, nat_le}
use Rattle.std.proofs.lemmas.Bool.Decides.{nat_tests}
use Rattle.station_journal.proofs.Common.{Site, Frame, Entry, Tick, Heard, Stamped, clock, speaks_for, heard_within, live, stamp, or_older, fresh, read_for, newest, newest_fix, fix_by, spot_of, sighting_of, moment_of, found_in, is_recent, IsTimed}
use Rattle.modes_cpr.specs.declared.points.Position.{Position}

module _ {V : Type 0} where
  -- one step: the reading of the newest frame, or what is found before it
  old_step : (now m : ℕ) (speaks : Bool) (reading : Option V) (rest : Bool) (older : Option (Stamped V)) → (speaks && nat_le (now - m) 60000) || rest ≡ false → (rest ≡ false → fresh 60000 now older ≡ None) → fresh 60000 now (or_older (stamp m (if speaks then reading else None)) older) ≡ None
  old_step now m false reading rest older old before = before old
  old_step now m true None rest older old before = before (grind (arith, nat_tests))
  old_step now m true (Some v) rest older old before = grind (arith, nat_tests)

  moment_step : (now : ℕ) (reading : Option V) (older : Option (Stamped V)) → IfSome older (λ s. s.at ≤ now) → IfSome (or_older (stamp now reading) older) (λ s. s.at ≤ now)
  moment_step now None older before = before
  moment_step now (Some v) older before = omega arith

  moment_later : (now later : ℕ) (s : Option (Stamped V)) → now ≤ later → IfSome s (λ s. s.at ≤ now) → IfSome s (λ s. s.at ≤ later)
  moment_later now later None le before = tt
  moment_later now later (Some s) le before = omega arith

  -- a value that is found is no newer than the clock
  pub newest_moment : (read : Frame → Option V) (base a : ℕ) (past : List Entry) → IsTimed base past → IfSome (newest read base a past) (λ s. s.at ≤ clock base past)
  newest_moment read base a [] timed = tt
  newest_moment read base a (Tick seat at ∷ past) timed = moment_later (clock base past) at (newest read base a past) (omega arith) (newest_moment read base a past timed.1)
  newest_moment read base a (Heard seat frame ∷ past) timed = moment_step (clock base past) (read_for read a frame) (newest read base a past) (newest_moment read base a past timed)

  -- each reading of an aircraft that isn't live is old
  pub newest_old : (read : Frame → Option V) (now base a : ℕ) (past : List Entry) → heard_within now base a past ≡ false → fresh 60000 now (newest read base a past) ≡ None
  newest_old read now base a [] old = refl
  newest_old read now base a (Tick seat at ∷ past) old = newest_old read now base a past old
  newest_old read now base a (Heard seat frame ∷ past) old =
      old_step now (clock base past) (speaks_for a frame) (read frame) (heard_within now base a past) (newest read base a past) old (newest_old read now base a past)

-- a fix needs a place, and so a frame of the aircraft
fix_of_none : (site : Site) (now m : ℕ) (speaks : Bool) (base a : ℕ) (past : List Entry) (frame : Frame) (rest : Bool) (older : Option (Stamped Position)) → (speaks && nat_le (now - m) 60000) || rest ≡ false → (rest ≡ false → fresh 60000 now older ≡ None) → fresh 60000 now (or_older (stamp m (fix_by site base a past (if speaks then spot_of site frame else None))) older) ≡ None
fix_of_none site now m false base a past frame rest older old before = before old
fix_of_none site now m true base a past frame rest older old before = old_step now m true (fix_by site base a past (spot_of site frame)) rest older old before

-- each fix of an aircraft that isn't live is old
pub newest_fix_old : (site : Site) (now base a : ℕ) (past : List Entry) → heard_within now base a past ≡ false → fresh 60000 now (newest_fix site base a past) ≡ None
newest_fix_old site now base a [] old = refl
newest_fix_old site now base a (Tick seat at ∷ past) old = newest_fix_old site now base a past old
newest_fix_old site now base a (Heard seat frame ∷ past) old =
    fix_of_none site now (clock base past) (speaks_for a frame) base a past frame (heard_within now base a past) (newest_fix site base a past) old (newest_fix_old site now base a past)

-- where ticks rise, an aircraft was heard within 60,000 ms exactly where its newest frame was
live_step : (now m : ℕ) (speaks : Bool) (rest : Bool) (older : Option (Stamped ℕ)) → rest ≡ is_some (fresh 60000 now older) → IfSome older (λ s. s.at ≤ m) → (speaks && nat_le (now - m) 60000) || rest ≡ is_some (fresh 60000 now (or_older (stamp m (if speaks then Some 0 else None)) older))
live_step now m false rest older same before = same
live_step now m true rest None same before = grind (arith, nat_tests)
live_step now m true rest (Some s) same before = grind (arith, nat_tests)

pub heard_by_newest : (now base a : ℕ) (past : List Entry) → IsTimed base past → heard_within now base a past ≡ is_some (fresh 60000 now (newest sighting_of base a past))
heard_by_newest now base a [] timed = refl
heard_by_newest now base a (Tick seat at ∷ past) timed = heard_by_newest now base a past timed.1
heard_by_newest now base a (Heard seat frame ∷ past) timed =
    live_step now (clock base past) (speaks_for a frame) (heard_within now base a past) (newest sighting_of base a past) (heard_by_newest now base a past timed) (newest_moment sighting_of base a past timed)

recent_step : (now : ℕ) (s : Option (Stamped ℕ)) → is_some s && nat_le (now - moment_of s) 60000 ≡ is_some (fresh 60000 now s)
recent_step now None = refl
recent_step now (Some s) = grind (arith, nat_tests)

-- an aircraft is live exactly where its newest frame is recent
pub live_if_recent : (site : Site) (base a : ℕ) (past : List Entry) → IsTimed base past → is_recent (found_in site base past a) ≡ live base past a
live_if_recent site base a past timed = recent_step (clock base past) (newest sighting_of base a past) ∙ sym (heard_by_newest (clock base past) base a past timed)
