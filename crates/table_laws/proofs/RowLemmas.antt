-- Each row of the table of a legal journal is in range.
use Rattle.std.proofs.Common.{◌≡◌, ℕ, ◌^◌, ◌<◌, ◌==◌, Bool, true, false, not, if◌then◌else◌, List, [], ◌∷◌, Option, Some, None, IfSome, Result, Ok, Err, IfOk, ℤ, nat_lt, All}
use Rattle.std.specs.List.{AllByRecursion}
use Rattle.std.proofs.lemmas.List.Elements.{All-map, All-filter, All-from_recursion, filter_passes}
use Rattle.modes_frame.specs.Claims.{claim_of}
use Rattle.modes_frame.specs.declared.claims.Claim.{Claim}
use Rattle.modes_frame.specs.declared.claims.CheckFault.{CheckFault}
use Rattle.modes_fields.specs.Carried.{fields_of}
use Rattle.modes_fields.specs.declared.place.Place.{Place}
use Rattle.modes_fields.specs.declared.surface.Surface.{Surface}
use Rattle.modes_fields.specs.declared.velocity.RateSource.{RateSource}
use Rattle.modes_cpr.specs.declared.points.Position.{Position}
use Rattle.modes_cpr.proofs.Common.{position_of}
use Rattle.station_journal.specs.declared.entry.Entry.{Entry}
use Rattle.station_journal.specs.declared.entry.Entry.TheVariants.{Tick, Heard}
use Rattle.station_journal.specs.declared.spot.Spot.{Spot}
use Rattle.station_journal.proofs.Common.{IsLegal, Log, clock_of, past_of, table_of, Site, Frame, place_from, spot_of, surface_at, surface_spot, airborne_spot, even_spot_of, odd_spot_of, surface_fix, fix_of, clock, live, speaks_for, or_older, fresh, read_for, newest, newest_fix, pair_with, pair_ms, partner, fix_by, IsTimed, row, table, senders, live_addresses, insert_rising, with_claim, velocity_of, surface_velocity, altitude_of, squawk_of, category_of, callsign_of, rate_of, IsTableRow}
use Rattle.station_journal.specs.Past.{with_parity}
use Rattle.station_journal.specs.Rates.{rate_with, feet_in}
use Rattle.station_journal.specs.declared.rate.Rate.{Rate}
use Rattle.station_journal.proofs.LegalJournalLemmas.{timed_from_legal}
use Rattle.station_journal.proofs.TableLemmas.{row_of_live}
use Rattle.table_laws.specs.Ranges.{IsCallsign, IsCategory, IsAltitude, IsRate, IsVelocity, IsOnEarth, IsInRange}
use Rattle.table_laws.proofs.ShownLemmas.{if_test, newer_is, fresh_is, shown_is}
use Rattle.table_laws.proofs.PlaceLemmas.{IsSmallPlace, position_range, surface_position_range}
use Rattle.table_laws.proofs.FrameLemmas.{IsSmallSurface, fields_range, claim_range}

-- ---- places

abbrev IsSmallSpot : Spot → Type 0
IsSmallSpot spot = IsSmallPlace (place_from spot)

module _ {V : Type 0} (P : V → Type 0) where
  pub older_is : (newer older : Option V) → IfSome newer P → IfSome older P → IfSome (or_older newer older) P
  older_is None older here before = before
  older_is (Some v) older here before = here

surface_at_range : (site : Site) (surface : Option Surface) → IfSome surface IsSmallSurface → IfSome (surface_at site surface) IsSmallSurface
surface_at_range None surface h = tt
surface_at_range (Some r) surface h = h

surface_spot_range : (surface : Option Surface) → IfSome surface IsSmallSurface → IfSome (surface_spot surface) IsSmallSpot
surface_spot_range None h = tt
surface_spot_range (Some surface) h = record { lat = h.place.lat; lon = h.place.lon }

airborne_spot_range : (place : Option Place) → IfSome place IsSmallPlace → IfSome (airborne_spot place) IsSmallSpot
airborne_spot_range None h = tt
airborne_spot_range (Some place) h = record { lat = h.lat; lon = h.lon }

spot_range : (site : Site) (frame : Frame) → IfSome (spot_of site frame) IsSmallSpot
spot_range site frame =
    let f = fields_range frame in
    let fields = fields_of frame in
    older_is IsSmallSpot (surface_spot (surface_at site fields.surface)) (airborne_spot fields.place)
    (surface_spot_range (surface_at site fields.surface) (surface_at_range site fields.surface f.surface)) (airborne_spot_range fields.place f.place)

parity_range : (odd : Bool) (spot : Option Spot) → IfSome spot IsSmallSpot → IfSome (with_parity odd spot) IsSmallSpot
parity_range odd None h = tt
parity_range odd (Some spot) h = if_test IsSmallSpot (if odd then spot.odd else not spot.odd) (Some spot) h

-- ---- positions

either_place : (t : Bool) (x y : Option Position) → IfSome x IsOnEarth → IfSome y IsOnEarth → IfSome (if t then x else y) IsOnEarth
either_place true x y h k = h
either_place false x y h k = k

surface_fix_range : (site : Site) (even odd : Place) (newest_odd : Bool) → IfSome (surface_fix site even odd newest_odd) IsOnEarth
surface_fix_range None even odd newest_odd = tt
surface_fix_range (Some r) even odd newest_odd = surface_position_range r even odd newest_odd

fix_range : (site : Site) (even odd : Spot) (newest_odd : Bool) → IsSmallSpot even → IsSmallSpot odd → IfSome (fix_of site even odd newest_odd) IsOnEarth
fix_range site even odd newest_odd p q =
    let ground = surface_fix site (place_from even) (place_from odd) newest_odd in
    let air = position_of (place_from even) (place_from odd) newest_odd in
    either_place even.surface (if odd.surface then ground else None) (if odd.surface then None else air)
    (either_place odd.surface ground None (surface_fix_range site (place_from even) (place_from odd) newest_odd) tt)
    (either_place odd.surface None air tt (position_range (place_from even) (place_from odd) newest_odd p q))

pair_range : (site : Site) (spot : Spot) (other : Option Spot) → IsSmallSpot spot → IfSome other IsSmallSpot → IfSome (pair_with site spot other) IsOnEarth
pair_range site spot None p q = tt
pair_range site spot (Some other) p q = either_place spot.odd (fix_of site other spot true) (fix_of site spot other false) (fix_range site other spot true q p) (fix_range site spot other false p q)

partner_range : (site : Site) (odd : Bool) (base a : ℕ) (past : List Entry) → IfSome (partner site odd base a past) IsSmallSpot
partner_range site true base a past = shown_is IsSmallSpot (even_spot_of site) (λ frame. parity_range false (spot_of site frame) (spot_range site frame)) pair_ms base a past
partner_range site false base a past = shown_is IsSmallSpot (odd_spot_of site) (λ frame. parity_range true (spot_of site frame) (spot_range site frame)) pair_ms base a past

fix_by_range : (site : Site) (base a : ℕ) (past : List Entry) (spot : Option Spot) → IfSome spot IsSmallSpot → IfSome (fix_by site base a past spot) IsOnEarth
fix_by_range site base a past None p = tt
fix_by_range site base a past (Some spot) p = pair_range site spot (partner site spot.odd base a past) p (partner_range site spot.odd base a past)

newest_fix_range : (site : Site) (base a : ℕ) (past : List Entry) → IfSome (newest_fix site base a past) (λ s. IsOnEarth s.value)
newest_fix_range site base a [] = tt
newest_fix_range site base a (Tick seat at ∷ past) = newest_fix_range site base a past
newest_fix_range site base a (Heard seat frame ∷ past) =
    newer_is IsOnEarth (clock base past) (fix_by site base a past (read_for (spot_of site) a frame)) (newest_fix site base a past)
    (fix_by_range site base a past (read_for (spot_of site) a frame) (if_test IsSmallSpot (speaks_for a frame) (spot_of site frame) (spot_range site frame)))
    (newest_fix_range site base a past)

-- ---- velocities and rates

surface_velocity_is : (surface : Option Surface) → IfSome surface IsSmallSurface → IfSome (surface_velocity surface) IsVelocity
surface_velocity_is None h = tt
surface_velocity_is (Some surface) h = h.velocity

velocity_is : (site : Site) (frame : Frame) → IfSome (velocity_of site frame) IsVelocity
velocity_is site frame =
    let f = fields_range frame in
    let fields = fields_of frame in
    older_is IsVelocity (surface_velocity (surface_at site fields.surface)) fields.velocity
    (surface_velocity_is (surface_at site fields.surface) (surface_at_range site fields.surface f.surface)) f.velocity

abbrev HasRate : Rate → Type 0
HasRate rate = IsRate rate.feet

rate_is : (source : Option RateSource) (vertical : Option ℤ) → IfSome vertical IsRate → IfSome (rate_with source vertical) HasRate
rate_is source None h = tt
rate_is source (Some feet) h = h

feet_is : (rate : Option Rate) → IfSome rate HasRate → IfSome (feet_in rate) IsRate
feet_is None h = tt
feet_is (Some rate) h = h

-- ---- addresses

abbrev AreAddresses : List ℕ → Type 0
AreAddresses = AllByRecursion (λ a. a < 2 ^ 24)

insert_either : (t : Bool) (xs ys : List ℕ) → AreAddresses xs → AreAddresses ys → AreAddresses (if t then xs else ys)
insert_either true xs ys h k = h
insert_either false xs ys h k = k

insert_addresses : (a : ℕ) (xs : List ℕ) → a < 2 ^ 24 → AreAddresses xs → AreAddresses (insert_rising a xs)
insert_addresses a [] small each = (small, tt)
insert_addresses a (b ∷ rest) small each =
    insert_either (nat_lt a b) (a ∷ b ∷ rest) _ (small, each)
    (insert_either (a == b) (b ∷ rest) (b ∷ insert_rising a rest) each (each.0, insert_addresses a rest small each.1))

claim_addresses : (claim : Result Claim CheckFault) (xs : List ℕ) → IfOk claim (λ c. c.address < 2 ^ 24) → AreAddresses xs → AreAddresses (with_claim claim xs)
claim_addresses (Ok claim) xs small each = insert_addresses claim.address xs small each
claim_addresses (Err fault) xs small each = each

sender_addresses : (past : List Entry) → AreAddresses (senders past)
sender_addresses [] = tt
sender_addresses (Tick seat at ∷ past) = sender_addresses past
sender_addresses (Heard seat frame ∷ past) = claim_addresses (claim_of frame) (senders past) (claim_range frame) (sender_addresses past)

-- ---- rows

row_range : (site : Site) (base : ℕ) (past : List Entry) (a : ℕ) → IsTableRow (clock base past) (row site base past a) → a < 2 ^ 24 → IsInRange (clock base past) (row site base past a)
row_range site base past a is small = record {
  address = small;
  callsign = shown_is IsCallsign callsign_of (λ frame. (fields_range frame).callsign) 60000 base a past;
  category = shown_is IsCategory category_of (λ frame. (fields_range frame).category) 60000 base a past;
  altitude = shown_is IsAltitude altitude_of (λ frame. (fields_range frame).altitude) 60000 base a past;
  squawk = shown_is (λ code. code < 4096) squawk_of (λ frame. (fields_range frame).squawk) 60000 base a past;
  velocity = shown_is IsVelocity (velocity_of site) (velocity_is site) 60000 base a past;
  vertical = feet_is (fresh 60000 (clock base past) (newest rate_of base a past)) (shown_is HasRate rate_of (λ frame. rate_is (fields_of frame).rate_source (fields_of frame).vertical (fields_range frame).vertical) 60000 base a past);
  position = fresh_is IsOnEarth 60000 (clock base past) (newest_fix site base a past) (newest_fix_range site base a past);
  heard = is.heard;
  recent = is.recent;
}

both : {X : Type 0} (P Q R : X → Type 0) → ((x : X) → P x → Q x → R x) → (xs : List X) → All P xs → All Q xs → All R xs
both P Q R join xs p q = λ k d h. join _ (p k d h) (q k d h)

table_range : (site : Site) (base : ℕ) (past : List Entry) → IsTimed base past → All (IsInRange (clock base past)) (table site base past)
table_range site base past timed =
    All-map (IsInRange (clock base past)) (row site base past) (live_addresses base past)
    (both (λ a. live base past a ≡ true) (λ a. a < 2 ^ 24) (λ a. IsInRange (clock base past) (row site base past a))
    (λ a is small. row_range site base past a (row_of_live site base past a timed is) small) (live_addresses base past)
    (filter_passes (live base past) (senders past)) (All-filter (live base past) (λ a. a < 2 ^ 24) (senders past) (All-from_recursion (λ a. a < 2 ^ 24) (senders past) (sender_addresses past))))

-- the rows of the table of a legal journal
pub rows_in_range : (log : Log) → IsLegal log → All (IsInRange (clock_of log)) (table_of log)
rows_in_range log legal = table_range log.limits.site log.base (past_of log) (timed_from_legal log.limits log.base log.resumed (past_of log) legal)
