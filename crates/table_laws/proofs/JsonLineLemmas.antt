-- The JSON of a table is a line that the grammar reads as its value.
use Rattle.std.proofs.Common.{◌≡◌, ℕ, ◌+◌, ◌-◌, ◌%◌, ◌/◌, ◌^◌, ◌<◌, ◌≤◌, Bool, true, false, cond, List, [], ◌∷◌, ◌++◌, codes, Option, Some, None, IfSome, decimal, refl, sym, ap, ◌∙◌, arith, append_assoc, append-nil, flat_map, map, zip}
use Rattle.std.specs.List.{AllByRecursion}
use Rattle.std.proofs.lemmas.Bool.Decides.{nat_tests}
use Rattle.std.proofs.lemmas.List.Elements.{recursion_from_All}
use Rattle.json.specs.Token.{Token, end_object}
use Rattle.json.specs.Json.{Json, number, string, array, document, max_depth}
use Rattle.json.specs.Print.{escape_byte, print_from, print}
use Rattle.json.specs.Tree.{json_tokens, items_tokens, members_tokens, depth, items_depth, HasNumbers, ItemsHaveNumbers}
use Rattle.json.specs.Strict.{HasUniqueKeys, ItemsHaveUniqueKeys}
use Rattle.json.proofs.Printed.Decimals.{IsNumber-decimal}
use Rattle.json.proofs.Printed.Trees.{document-print}
use Rattle.modes_fields.specs.declared.emergency.Emergency.{Emergency}
use Rattle.station_journal.specs.declared.aircraft.Aircraft.{Aircraft}
use Rattle.station_journal.proofs.Common.{IsLegal, Log, clock_of, table_of, placed_of}
use Rattle.station_report.specs.Json.{if_known, low_hex_digit, low_address, flight, shown_altitude, moving, rate, squawk, place, category, emergency, unknown_level, seconds, object, with_commas, head, json}
use Rattle.table_laws.specs.Ranges.{IsCallsign, IsCategory, IsRate, IsVelocity, IsOnEarth, IsInRange}
use Rattle.table_laws.specs.JsonValue.{Pairs, members_of, items_of, flight_pair, velocity_pairs, rate_pairs, squawk_pair, place_pairs, category_pair, emergency_pair, field_pairs, last_pairs, aircraft_value, table_value}
use Rattle.table_laws.specs.JsonLine.{IsJsonLine}
use Rattle.table_laws.proofs.RowLemmas.{rows_in_range}
use Rattle.table_laws.proofs.JsonTextLemmas.{ArePlain, print_pair, print_pairs, pairs_depth, pairs_numbers}
use Rattle.table_laws.proofs.JsonNumberLemmas.{IsNumber-seconds, IsNumber-level, IsPlainByte, plain_text}
use Rattle.table_laws.proofs.JsonKeyLemmas.{ranked_distinct, ranked_aircraft, ranked_table, pairs_unique}
use Rattle.table_laws.proofs.JsonFieldLemmas.{AreWritten, written_append, if_written, flight_written, altitude_written, velocity_written, rate_written, squawk_written, place_written, category_written, emergency_written}

-- ---- addresses

plain_hex : (d : ℕ) → d < 16 → IsPlainByte (low_hex_digit d)
plain_hex d small = (λ e. grind (arith, nat_tests), (λ e. grind (arith, nat_tests)), grind (arith, nat_tests))

plain_address : (a : ℕ) → AllByRecursion IsPlainByte (low_address a)
unfolding low_address
plain_address a = (
  plain_hex (a / 1048576 % 16) (omega arith),
  (
    plain_hex (a / 65536 % 16) (omega arith),
    (
      plain_hex (a / 4096 % 16) (omega arith),
      (plain_hex (a / 256 % 16) (omega arith), (plain_hex (a / 16 % 16) (omega arith), (plain_hex (a % 16) (omega arith), tt))),
    ),
  ),
)

-- ---- an aircraft

abbrev IsAnyEmergency : Emergency → Type 0
IsAnyEmergency e = Unit {0}

any_emergency : (o : Option Emergency) → IfSome o IsAnyEmergency
any_emergency None = tt
any_emergency (Some e) = tt

regrouped : (a h q f1 f2 f3 f4 f5 f6 f7 f8 u s t e p : List ℕ)
    → (a ++ (h ++ q)) ++ (((f1 ++ f2 ++ f3 ++ f4 ++ f5 ++ f6 ++ f7 ++ f8) ++ (u ++ ((s ++ t) ++ []))) ++ (e ++ p))
    ≡ (a ++ h ++ q ++ f1 ++ f2 ++ f3 ++ f4 ++ f5 ++ f6 ++ f7 ++ f8 ++ u ++ s ++ t ++ e) ++ p
regrouped a h q f1 f2 f3 f4 f5 f6 f7 f8 u s t e p = simp (append_assoc, append-nil)

module _ (now : ℕ) (small : now < 2 ^ 64) (a : Aircraft) (placed : Option ℕ) (is : IsInRange now a) where
  fields_text : List ℕ
  fields_text =
      if_known flight a.callsign ++ shown_altitude a.on_ground a.altitude ++ if_known moving a.velocity ++ if_known (rate a.rate_source) a.vertical
      ++ if_known squawk a.squawk ++ if_known (place now placed) a.position ++ if_known category a.category ++ if_known emergency a.emergency

  fields_written : AreWritten (field_pairs now a placed) fields_text
  unfolding fields_text
  fields_written =
      written_append _ _ _ _ (written_append _ _ _ _ (written_append _ _ _ _ (written_append _ _ _ _ (written_append _ _ _ _ (written_append _ _ _ _ (written_append _ _ _ _
      (if_written IsCallsign flight_pair flight flight_written a.callsign is.callsign)
      (altitude_written a.on_ground a.altitude is.altitude))
      (if_written IsVelocity velocity_pairs moving velocity_written a.velocity is.velocity))
      (if_written IsRate (rate_pairs a.rate_source) (rate a.rate_source) (rate_written a.rate_source) a.vertical is.vertical))
      (if_written (λ code. code < 4096) squawk_pair squawk (λ code few. squawk_written code) a.squawk is.squawk))
      (if_written IsOnEarth (place_pairs now placed) (place now placed) (place_written now placed small) a.position is.position))
      (if_written IsCategory category_pair category category_written a.category is.category))
      (if_written IsAnyEmergency emergency_pair emergency (λ e any. emergency_written e) a.emergency (any_emergency a.emergency))

  last_text : List ℕ
  last_text = unknown_level ++ ((codes ",\"seen\":" ++ seconds (now - a.heard)) ++ [])

  last_written : AreWritten (last_pairs now a) last_text
  unfolding last_text unknown_level escape_byte
  last_written = record { plain = ((refl, IsNumber-level), ((refl, IsNumber-seconds (now - a.heard) (omega arith)), tt)); text_is = refl }

  both_written : AreWritten (field_pairs now a placed ++ last_pairs now a) (fields_text ++ last_text)
  both_written = written_append (field_pairs now a placed) (last_pairs now a) fields_text last_text fields_written last_written

  all_plain : ArePlain ((codes "hex", string (low_address a.address)) ∷ (field_pairs now a placed ++ last_pairs now a))
  unfolding escape_byte
  all_plain = ((refl, plain_text (low_address a.address) (plain_address a.address)), both_written.plain)

  aircraft_depth : depth (aircraft_value now (a, placed)) ≤ 1
  aircraft_depth = omega (arith, pairs_depth ((codes "hex", string (low_address a.address)) ∷ (field_pairs now a placed ++ last_pairs now a)) all_plain)

  aircraft_numbers : HasNumbers (aircraft_value now (a, placed))
  aircraft_numbers = pairs_numbers ((codes "hex", string (low_address a.address)) ∷ (field_pairs now a placed ++ last_pairs now a)) all_plain

  aircraft_unique : HasUniqueKeys (aircraft_value now (a, placed))
  aircraft_unique = (
    ranked_distinct 0 21 ((codes "hex", string (low_address a.address)) ∷ (field_pairs now a placed ++ last_pairs now a)) (ranked_aircraft now a placed (string (low_address a.address))),
    pairs_unique ((codes "hex", string (low_address a.address)) ∷ (field_pairs now a placed ++ last_pairs now a)) all_plain,
  )

  inside : (ts : List Token)
      → print_from false (Token.key (codes "hex") ∷ (json_tokens (string (low_address a.address)) ++ (members_tokens (members_of (field_pairs now a placed ++ last_pairs now a)) ++ ts)))
      ≡ (34 ∷ (codes "hex" ++ 34 ∷ 58 ∷ 34 ∷ (low_address a.address ++ 34 ∷ []))) ++ ((fields_text ++ last_text) ++ 125 ∷ print_from true ts)
  inside ts =
      print_pair false (codes "hex") (string (low_address a.address)) (members_tokens (members_of (field_pairs now a placed ++ last_pairs now a)) ++ ts) all_plain.0
      ∙ ap (λ l. (34 ∷ (codes "hex" ++ 34 ∷ 58 ∷ 34 ∷ (low_address a.address ++ 34 ∷ []))) ++ l)
      (print_pairs (field_pairs now a placed ++ last_pairs now a) ts both_written.plain ∙ ap (λ l. l ++ 125 ∷ print_from true ts) both_written.text_is)

  object_is : (p : List ℕ) → 123 ∷ ((34 ∷ (codes "hex" ++ 34 ∷ 58 ∷ 34 ∷ (low_address a.address ++ 34 ∷ []))) ++ ((fields_text ++ last_text) ++ 125 ∷ p)) ≡ object now (a, placed) ++ p
  unfolding object fields_text last_text
  object_is p =
      regrouped (codes "{\"hex\":\"") (low_address a.address) (codes "\"") (if_known flight a.callsign) (shown_altitude a.on_ground a.altitude) (if_known moving a.velocity)
      (if_known (rate a.rate_source) a.vertical) (if_known squawk a.squawk) (if_known (place now placed) a.position) (if_known category a.category)
      (if_known emergency a.emergency) unknown_level (codes ",\"seen\":") (seconds (now - a.heard)) (codes "}") p

  pub print_aircraft : (c : Bool) (ts : List Token) → print_from c (json_tokens (aircraft_value now (a, placed)) ++ ts) ≡ cond c (44 ∷ []) [] ++ (object now (a, placed) ++ print_from true ts)
  unfolding print_from
  print_aircraft true ts = ap (λ l. 44 ∷ 123 ∷ l) (inside ts) ∙ ap (λ l. 44 ∷ l) (object_is (print_from true ts))
  print_aircraft false ts = ap (λ l. 123 ∷ l) (inside ts) ∙ object_is (print_from true ts)

-- ---- all aircraft

abbrev Placed : Type 0
Placed = Aircraft × Option ℕ

module _ (now : ℕ) (small : now < 2 ^ 64) where
  abbrev AreRows : List Placed → Type 0
  AreRows = AllByRecursion (λ (p : Placed). IsInRange now p.0)

  more_aircraft : (rows : List Placed) (ts : List Token) → AreRows rows
      → print_from true (items_tokens (items_of (map (aircraft_value now) rows)) ++ ts) ≡ flat_map (λ p. codes "," ++ object now p) rows ++ 93 ∷ print_from true ts
  unfolding print_from
  more_aircraft [] ts h = refl
  more_aircraft ((a, placed) ∷ rows) ts h =
      let rest = items_tokens (items_of (map (aircraft_value now) rows)) in
      ap (print_from true) (append_assoc (json_tokens (aircraft_value now (a, placed))) rest ts)
      ∙ print_aircraft now small a placed h.0 true (rest ++ ts)
      ∙ ap (λ l. 44 ∷ (object now (a, placed) ++ l)) (more_aircraft rows ts h.1)
      ∙ ap (λ l. 44 ∷ l) (sym (append_assoc (object now (a, placed)) (flat_map (λ p. codes "," ++ object now p) rows) (93 ∷ print_from true ts)))

  print_all : (rows : List Placed) (ts : List Token) → AreRows rows
      → print_from false (items_tokens (items_of (map (aircraft_value now) rows)) ++ ts) ≡ with_commas (object now) rows ++ 93 ∷ print_from true ts
  unfolding print_from
  print_all [] ts h = refl
  print_all ((a, placed) ∷ rows) ts h =
      let rest = items_tokens (items_of (map (aircraft_value now) rows)) in
      ap (print_from false) (append_assoc (json_tokens (aircraft_value now (a, placed))) rest ts)
      ∙ print_aircraft now small a placed h.0 false (rest ++ ts)
      ∙ ap (λ l. object now (a, placed) ++ l) (more_aircraft rows ts h.1)
      ∙ sym (append_assoc (object now (a, placed)) (flat_map (λ p. codes "," ++ object now p) rows) (93 ∷ print_from true ts))

  rows_depth : (rows : List Placed) → AreRows rows → items_depth (items_of (map (aircraft_value now) rows)) ≤ 1
  rows_depth [] h = omega arith
  rows_depth ((a, placed) ∷ rows) h = omega (arith, aircraft_depth now small a placed h.0, rows_depth rows h.1)

  rows_numbers : (rows : List Placed) → AreRows rows → ItemsHaveNumbers (items_of (map (aircraft_value now) rows))
  rows_numbers [] h = tt
  rows_numbers ((a, placed) ∷ rows) h = (aircraft_numbers now small a placed h.0, rows_numbers rows h.1)

  rows_unique : (rows : List Placed) → AreRows rows → ItemsHaveUniqueKeys (items_of (map (aircraft_value now) rows))
  rows_unique [] h = tt
  rows_unique ((a, placed) ∷ rows) h = (aircraft_unique now small a placed h.0, rows_unique rows h.1)

zipped : (now : ℕ) (rows : List Aircraft) (moments : List (Option ℕ)) → AllByRecursion (IsInRange now) rows → AllByRecursion (λ (p : Placed). IsInRange now p.0) (zip rows moments)
zipped now [] moments h = tt
zipped now (a ∷ rows) [] h = tt
zipped now (a ∷ rows) (placed ∷ moments) h = (h.0, zipped now rows moments h.1)

-- ---- the line

line_regrouped : (a n b m c rows e : List ℕ) → (a ++ n) ++ ((b ++ m) ++ (c ++ (rows ++ e))) ≡ a ++ n ++ b ++ m ++ c ++ rows ++ e
line_regrouped a n b m c rows e = simp append_assoc

module _ (now origin entries : ℕ) (small : now < 2 ^ 64) (early : origin < 2 ^ 64) (few : entries < 2 ^ 64) (rows : List Aircraft) (moments : List (Option ℕ)) (is : AllByRecursion (IsInRange now) rows) where
  abbrev value : Json
  value = table_value rows moments now origin entries

  abbrev line : List ℕ
  line = head origin now entries ++ with_commas (object now) (zip rows moments) ++ codes "]}"

  printed : print (json_tokens value) ≡ line
  unfolding print_from escape_byte head
  printed =
      let pairs = zip rows moments in
      let all = print_all now small pairs (end_object ∷ []) (zipped now rows moments is) in
      ap (λ l. (codes "{\"now\":" ++ seconds (origin + now)) ++ ((codes ",\"messages\":" ++ decimal entries) ++ (codes ",\"aircraft\":[" ++ l))) all
      ∙ line_regrouped (codes "{\"now\":") (seconds (origin + now)) (codes ",\"messages\":") (decimal entries) (codes ",\"aircraft\":[") (with_commas (object now) pairs) (codes "]}")

  numbers : HasNumbers value
  numbers = (IsNumber-seconds (origin + now) (omega arith), (IsNumber-decimal entries few, (rows_numbers now small (zip rows moments) (zipped now rows moments is), tt)))

  shallow : depth value ≤ max_depth
  shallow = omega (arith, rows_depth now small (zip rows moments) (zipped now rows moments is))

  unique : HasUniqueKeys value
  unique =
      let now_value = number (seconds (origin + now)) in
      let messages = number (decimal entries) in
      let aircraft = array (items_of (map (aircraft_value now) (zip rows moments))) in
      let pairs : Pairs = (codes "now", now_value) ∷ (codes "messages", messages) ∷ (codes "aircraft", aircraft) ∷ [] in
      (ranked_distinct 21 24 pairs (ranked_table now_value messages aircraft), (tt, (tt, (rows_unique now small (zip rows moments) (zipped now rows moments is), tt))))

  pub line_is : IsJsonLine (json rows moments now origin entries) value
  line_is = record {
    line = line;
    ends = sym (append_assoc (head origin now entries ++ with_commas (object now) (zip rows moments)) (codes "]}") (10 ∷ []));
    reads = ap document (sym printed) ∙ document-print value numbers shallow;
    unique = unique;
  }

-- the JSON of the table of a legal journal
pub table_is_json : (log : Log) (origin entries : ℕ) → IsLegal log → clock_of log < 2 ^ 64 → origin < 2 ^ 64 → entries < 2 ^ 64
    → IsJsonLine (json (table_of log) (placed_of log) (clock_of log) origin entries) (table_value (table_of log) (placed_of log) (clock_of log) origin entries)
table_is_json log origin entries legal small early few =
    line_is (clock_of log) origin entries small early few (table_of log) (placed_of log) (recursion_from_All (IsInRange (clock_of log)) (table_of log) (rows_in_range log legal))
