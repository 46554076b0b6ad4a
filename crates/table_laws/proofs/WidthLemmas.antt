-- Each field of a row fits its column.
use Rattle.std.proofs.Common.{◌≡◌, ℕ, suc, ◌-◌, ◌*◌, ◌/◌, ◌%◌, ◌<◌, ◌≤◌, ◌==◌, ◌&&◌, Bool, true, false, List, ◌++◌, length, replicate, codes, Option, Some, None, IfSome, ℤ, pos, negsuc, unsigned_abs, arith, refl, length-append, decimal}
use Rattle.std.specs.Fmt.{signed_decimal}
use Rattle.std.specs.Int.{is_negative}
use Rattle.std.proofs.lemmas.Fmt.{length-decimal-le}
use Rattle.std.proofs.lemmas.Int.{ints}
use Rattle.std.proofs.lemmas.List.{length-replicate}
use Rattle.std.proofs.lemmas.Nat.{div_below}
use Rattle.modes_fields.specs.declared.velocity.Velocity.{Velocity}
use Rattle.modes_fields.specs.declared.velocity.Velocity.TheVariants.{Ground, Air, Surface}
use Rattle.modes_cpr.specs.declared.points.Degrees.{Degrees}
use Rattle.modes_cpr.specs.declared.points.Position.{Position}
use Rattle.station_report.specs.Text.{right, left, or_dash, address_text, altitude_text, squawk_text, airspeed_mark, ground_track, ground_track_text, velocity_text, five_digits, hundred_thousandths, degrees_sign, parts_text, degrees_text, latitude_text, longitude_text}
use Rattle.table_laws.specs.Ranges.{IsAltitude, IsRate, IsVelocity, IsWithin, IsOnEarth}

-- ---- columns

pub length-right : (width : ℕ) (text : List ℕ) → length text ≤ width → length (right width text) ≡ width
length-right width text fits = omega (arith, length-append (replicate (width - length text) 32) text, length-replicate {A = ℕ} (width - length text) 32)

pub length-left : (width : ℕ) (text : List ℕ) → length text ≤ width → length (left width text) ≡ width
length-left width text fits = omega (arith, length-append text (replicate (width - length text) 32), length-replicate {A = ℕ} (width - length text) 32)

pub dash_fits : {V : Type 0} (P : V → Type 0) (text : V → List ℕ) (width : ℕ) → 1 ≤ width → ((v : V) → P v → length (text v) ≤ width) → (o : Option V) → IfSome o P → length (or_dash text o) ≤ width
dash_fits P text width some fits None h = some
dash_fits P text width some fits (Some v) h = fits v h

-- ---- fields

pub length-address_text : (a : ℕ) → length (address_text a) ≡ 6
unfolding address_text
length-address_text a = refl

pub length-squawk_text : (code : ℕ) → length (squawk_text code) ≡ 4
unfolding squawk_text
length-squawk_text code = refl

altitude_fits : (feet : ℤ) → IsAltitude feet → length (signed_decimal feet) ≤ 6
altitude_fits (pos n) h =
    let most = h.most in
    let small : n ≤ 126700 = omega (arith, ints) in
    length-decimal-le 6 n (omega arith) (omega arith) (omega arith)
altitude_fits (negsuc n) h =
    let least = h.least in
    let small : n ≤ 1200 = omega (arith, ints) in
    let digits = length-decimal-le 4 (suc n) (omega arith) (omega arith) (omega arith) in
    omega (arith, digits)

pub altitude_text_fits : (on_ground : Option Bool) (altitude : Option ℤ) → IfSome altitude IsAltitude → length (altitude_text on_ground altitude) ≤ 6
altitude_text_fits (Some true) altitude h = omega arith
altitude_text_fits (Some false) altitude h = dash_fits IsAltitude signed_decimal 6 (omega arith) altitude_fits altitude h
altitude_text_fits None altitude h = dash_fits IsAltitude signed_decimal 6 (omega arith) altitude_fits altitude h

pub rate_fits : (feet : ℤ) → IsRate feet → length (signed_decimal feet) ≤ 6
rate_fits (pos n) h = let digits = length-decimal-le 6 n (omega arith) (omega arith) (omega arith) in omega (arith, digits)
rate_fits (negsuc n) h = let digits = length-decimal-le 5 (suc n) (omega arith) (omega arith) (omega arith) in omega (arith, digits)

speed_fits : (knots : ℤ) → unsigned_abs knots ≤ 4088 → length (signed_decimal knots) ≤ 5
speed_fits (pos n) h = let digits = length-decimal-le 4 n (omega arith) (omega arith) (omega arith) in omega (arith, digits)
speed_fits (negsuc n) h = let digits = length-decimal-le 4 (suc n) (omega arith) (omega arith) (omega arith) in omega (arith, digits)

mark_fits : (is_true : Bool) → length (airspeed_mark is_true) ≤ 1
mark_fits true = omega arith
mark_fits false = omega arith

track_fits : (k : ℕ) → k < 128 → length (ground_track_text k) ≤ 3
track_fits k small = length-decimal-le 3 (ground_track k) (omega arith) (omega arith) (omega arith)

pub velocity_fits : (velocity : Velocity) → IsVelocity velocity → length (velocity_text velocity) ≤ 12
unfolding velocity_text
velocity_fits (Ground east north) h =
    let e = speed_fits east h.0 in
    let n = speed_fits north h.1 in
    omega (arith, e, n, length-append (signed_decimal east ++ codes "/") (signed_decimal north), length-append (signed_decimal east) (codes "/"))
velocity_fits (Air heading is_true speed) h =
    let a = length-decimal-le 4 heading (omega arith) (omega (arith, h.0)) (omega (arith, h.0)) in
    let b = length-decimal-le 4 speed (omega arith) (omega (arith, h.1)) (omega (arith, h.1)) in
    omega (
      arith,
      a,
      b,
      mark_fits is_true,
      length-append (codes "H" ++ decimal heading ++ codes "/" ++ airspeed_mark is_true) (decimal speed),
      length-append (codes "H" ++ decimal heading ++ codes "/") (airspeed_mark is_true),
      length-append (codes "H" ++ decimal heading) (codes "/"),
    )
velocity_fits (Surface speed track) h =
    let a = length-decimal-le 3 (speed / 8) (omega arith) (omega (arith, h.0)) (omega (arith, h.0)) in
    let b = dash_fits (λ k. k < 128) ground_track_text 3 (omega arith) track_fits track h.1 in
    omega (arith, a, b, length-append (codes "G" ++ decimal (speed / 8) ++ codes "/") (or_dash ground_track_text track), length-append (codes "G" ++ decimal (speed / 8)) (codes "/"))

-- ---- degrees

sign_fits : (negative is_zero : Bool) → length (degrees_sign negative is_zero) ≤ 1
sign_fits true true = omega arith
sign_fits true false = omega arith
sign_fits false is_zero = omega arith

length-five_digits : (n : ℕ) → length (five_digits n) ≡ 5
unfolding five_digits
length-five_digits n = refl

parts_fit : (negative : Bool) (whole part : ℕ) → whole < 1000 → length (parts_text negative whole part) ≤ 10
parts_fit negative whole part small =
    let sign = degrees_sign negative (whole == 0 && part == 0) in
    omega (
      arith,
      sign_fits negative (whole == 0 && part == 0),
      length-five_digits part,
      length-decimal-le 3 whole (omega arith) (omega arith) (omega arith),
      length-append (sign ++ decimal whole ++ codes ".") (five_digits part),
      length-append (sign ++ decimal whole) (codes "."),
      length-append sign (decimal whole),
    )

pub hundred_thousandths-lt : (angle : Degrees) → IsWithin 180 angle → hundred_thousandths angle < 18000001
hundred_thousandths-lt angle h =
    let some = h.whole in
    let range = h.range in
    div_below (unsigned_abs angle.num * 100000) angle.den 18000001 some (omega arith)

degrees_fit : (angle : Degrees) → IsWithin 180 angle → length (degrees_text angle) ≤ 10
unfolding degrees_text
degrees_fit angle h =
    let n = hundred_thousandths angle in
    let small : n < 18000001 = hundred_thousandths-lt angle h in
    parts_fit (is_negative angle.num) (n / 100000) (n % 100000) (omega (arith, small))

pub within_more : (angle : Degrees) → IsWithin 90 angle → IsWithin 180 angle
within_more angle h = let some = h.whole in let range = h.range in record { whole = some; range = omega arith }

pub latitude_fits : (position : Position) → IsOnEarth position → length (latitude_text position) ≤ 10
latitude_fits position h = degrees_fit position.lat (within_more position.lat h.lat)

pub longitude_fits : (position : Position) → IsOnEarth position → length (longitude_text position) ≤ 10
longitude_fits position h = degrees_fit position.lon h.lon

pub age_fits : (age : ℕ) → age ≤ 60000 → length (decimal (age / 1000)) ≤ 3
age_fits age few = length-decimal-le 3 (age / 1000) (omega arith) (omega arith) (omega arith)
