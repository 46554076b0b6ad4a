-- The columns of a line, by the texts that it is made of.
use Rattle.std.proofs.Common.{◌≡◌, ℕ, ◌+◌, ◌-◌, ◌/◌, ◌<◌, List, [], ◌∷◌, ◌++◌, length, get_or, take, drop, arith, refl, sym, ap, ◌∙◌, append_assoc, length-append, take-append-drop, decimal}
use Rattle.std.proofs.lemmas.List.{drop-drop, drop_at, drop_more, take_at}
use Rattle.std.specs.Fmt.{signed_decimal}
use Rattle.station_journal.specs.declared.aircraft.Aircraft.{Aircraft}
use Rattle.station_report.specs.Text.{right, left, or_dash, address_text, callsign_text, altitude_text, squawk_text, velocity_text, latitude_text, longitude_text, row_text}
use Rattle.table_laws.specs.Ranges.{IsCallsign, IsInRange, IsRate, IsVelocity, IsOnEarth}
use Rattle.table_laws.specs.Columns.{column, IsLaidOut}
use Rattle.table_laws.proofs.WidthLemmas.{length-right, length-left, dash_fits, length-address_text, length-squawk_text, altitude_text_fits, rate_fits, velocity_fits, latitude_fits, longitude_fits, age_fits}

-- ---- parts, one after another

abbrev joined : List (List ℕ) → List ℕ
joined [] = []
joined (part ∷ rest) = part ++ joined rest

abbrev total : List (List ℕ) → ℕ
total [] = 0
total (part ∷ rest) = length part + total rest

length-joined : (parts : List (List ℕ)) → length (joined parts) ≡ total parts
length-joined [] = refl
length-joined (part ∷ rest) = length-append part (joined rest) ∙ ap (λ n. length part + n) (length-joined rest)

drop-joined : (front back : List (List ℕ)) → drop (total front) (joined (front ++ back)) ≡ joined back
drop-joined [] back = refl
drop-joined (part ∷ front) back =
    sym (drop-drop (total front) (length part) (part ++ joined (front ++ back)))
    ∙ ap (drop (total front)) (drop_at part (joined (front ++ back)) (length part) refl)
    ∙ drop-joined front back

after_front : (front : List (List ℕ)) (part : List ℕ) (back : List (List ℕ)) (first last : ℕ) → total front + 1 ≡ first → total front + length part ≡ last
    → column first last (joined (front ++ part ∷ back)) ≡ part
after_front front part back first last begins ends =
    let skipped : first - 1 ≡ total front = omega (arith, begins) in
    let width : length part ≡ last + 1 - first = omega (arith, begins, ends) in
    ap (λ n. take (last + 1 - first) (drop n (joined (front ++ part ∷ back)))) skipped
    ∙ ap (take (last + 1 - first)) (drop-joined front (part ∷ back))
    ∙ take_at part (joined back) (last + 1 - first) width

-- part k, counted from 0, is found by the lengths of those before it
part_at : (parts : List (List ℕ)) (k first last : ℕ) → k < length parts → total (take k parts) + 1 ≡ first → total (take k parts) + length (get_or parts k []) ≡ last
    → column first last (joined parts) ≡ get_or parts k []
part_at parts k first last within begins ends =
    let split : parts ≡ take k parts ++ get_or parts k [] ∷ drop (k + 1) parts = sym (take-append-drop k parts) ∙ ap (λ rest. take k parts ++ rest) (drop_more parts k [] within) in
    ap (λ ps. column first last (joined ps)) split ∙ after_front (take k parts) (get_or parts k []) (drop (k + 1) parts) first last begins ends

-- ---- nine texts

record Texts : Type 0 where
  address : List ℕ
  callsign : List ℕ
  altitude : List ℕ
  squawk : List ℕ
  velocity : List ℕ
  vertical : List ℕ
  latitude : List ℕ
  longitude : List ℕ
  age : List ℕ

record FitColumns (t : Texts) : Type 0 where
  address : length t.address ≡ 6
  callsign : length t.callsign ≡ 8
  altitude : length t.altitude ≡ 6
  squawk : length t.squawk ≡ 4
  velocity : length t.velocity ≡ 12
  vertical : length t.vertical ≡ 6
  latitude : length t.latitude ≡ 10
  longitude : length t.longitude ≡ 10
  age : length t.age ≡ 3

abbrev line : Texts → List ℕ
line t = t.address ++ 32 ∷ [] ++ t.callsign ++ 32 ∷ [] ++ t.altitude ++ 32 ∷ [] ++ t.squawk ++ 32 ∷ [] ++ t.velocity ++ 32 ∷ [] ++ t.vertical
    ++ 32 ∷ [] ++ t.latitude ++ 32 ∷ [] ++ t.longitude ++ 32 ∷ [] ++ t.age ++ 10 ∷ []

abbrev parts : Texts → List (List ℕ)
parts t = t.address ∷ (32 ∷ []) ∷ t.callsign ∷ (32 ∷ []) ∷ t.altitude ∷ (32 ∷ []) ∷ t.squawk ∷ (32 ∷ []) ∷ t.velocity ∷ (32 ∷ []) ∷ t.vertical
    ∷ (32 ∷ []) ∷ t.latitude ∷ (32 ∷ []) ∷ t.longitude ∷ (32 ∷ []) ∷ t.age ∷ (10 ∷ []) ∷ []

module _ (t : Texts) (w : FitColumns t) where
  regrouped : line t ≡ joined (parts t)
  regrouped = simp append_assoc

  size_is : length (line t) ≡ 74
  size_is = ap length regrouped ∙ length-joined (parts t) ∙ omega arith

  at : (k first last : ℕ) → k < 18 → total (take k (parts t)) + 1 ≡ first → total (take k (parts t)) + length (get_or (parts t) k []) ≡ last
      → column first last (line t) ≡ get_or (parts t) k []
  at k first last within begins ends = ap (column first last) regrouped ∙ part_at (parts t) k first last within begins ends

-- ---- the line of a row

right_address : (a : ℕ) → right 6 (address_text a) ≡ address_text a
unfolding address_text
right_address a = refl

abbrev texts_of : ℕ → Aircraft → Texts
texts_of now row = record {
  address = right 6 (address_text row.address);
  callsign = left 8 (or_dash callsign_text row.callsign);
  altitude = right 6 (altitude_text row.on_ground row.altitude);
  squawk = right 4 (or_dash squawk_text row.squawk);
  velocity = right 12 (or_dash velocity_text row.velocity);
  vertical = right 6 (or_dash signed_decimal row.vertical);
  latitude = right 10 (or_dash latitude_text row.position);
  longitude = right 10 (or_dash longitude_text row.position);
  age = right 3 (decimal ((now - row.heard) / 1000));
}

module _ (now : ℕ) (row : Aircraft) (h : IsInRange now row) where
  they_fit : FitColumns (texts_of now row)
  they_fit = record {
    address = length-right 6 (address_text row.address) (omega (arith, length-address_text row.address));
    callsign = length-left 8 (or_dash callsign_text row.callsign) (dash_fits IsCallsign callsign_text 8 (omega arith) (λ text is. is.most) row.callsign h.callsign);
    altitude = length-right 6 (altitude_text row.on_ground row.altitude) (altitude_text_fits row.on_ground row.altitude h.altitude);
    squawk = length-right 4 (or_dash squawk_text row.squawk) (dash_fits (λ code. code < 4096) squawk_text 4 (omega arith) (λ code small. omega (arith, length-squawk_text code)) row.squawk h.squawk);
    velocity = length-right 12 (or_dash velocity_text row.velocity) (dash_fits IsVelocity velocity_text 12 (omega arith) velocity_fits row.velocity h.velocity);
    vertical = length-right 6 (or_dash signed_decimal row.vertical) (dash_fits IsRate signed_decimal 6 (omega arith) rate_fits row.vertical h.vertical);
    latitude = length-right 10 (or_dash latitude_text row.position) (dash_fits IsOnEarth latitude_text 10 (omega arith) latitude_fits row.position h.position);
    longitude = length-right 10 (or_dash longitude_text row.position) (dash_fits IsOnEarth longitude_text 10 (omega arith) longitude_fits row.position h.position);
    age = length-right 3 (decimal ((now - row.heard) / 1000)) (age_fits (now - row.heard) h.recent);
  }

-- each field is in its columns
pub laid_out : (now : ℕ) (row : Aircraft) → IsInRange now row → IsLaidOut now row (row_text now row)
unfolding row_text
laid_out now row h =
    let t = texts_of now row in
    let w = they_fit now row h in
    record {
      size = size_is t w;
      address = at t w 0 1 6 (omega arith) (omega arith) (omega arith) ∙ right_address row.address;
      space_7 = at t w 1 7 7 (omega arith) (omega arith) (omega arith);
      callsign = at t w 2 8 15 (omega arith) (omega arith) (omega arith);
      space_16 = at t w 3 16 16 (omega arith) (omega arith) (omega arith);
      altitude = at t w 4 17 22 (omega arith) (omega arith) (omega arith);
      space_23 = at t w 5 23 23 (omega arith) (omega arith) (omega arith);
      squawk = at t w 6 24 27 (omega arith) (omega arith) (omega arith);
      space_28 = at t w 7 28 28 (omega arith) (omega arith) (omega arith);
      velocity = at t w 8 29 40 (omega arith) (omega arith) (omega arith);
      space_41 = at t w 9 41 41 (omega arith) (omega arith) (omega arith);
      vertical = at t w 10 42 47 (omega arith) (omega arith) (omega arith);
      space_48 = at t w 11 48 48 (omega arith) (omega arith) (omega arith);
      latitude = at t w 12 49 58 (omega arith) (omega arith) (omega arith);
      space_59 = at t w 13 59 59 (omega arith) (omega arith) (omega arith);
      longitude = at t w 14 60 69 (omega arith) (omega arith) (omega arith);
      space_70 = at t w 15 70 70 (omega arith) (omega arith) (omega arith);
      age = at t w 16 71 73 (omega arith) (omega arith) (omega arith);
      line_feed = at t w 17 74 74 (omega arith) (omega arith) (omega arith);
    }
