use Rattle.std.proofs.Common.{◌≡◌, ℕ, ◌-◌, List, [], ◌∷◌, ◌++◌, length, replicate, length-append, append_assoc, Option, Some, None, MatchOption, codes, refl, arith}
use Rattle.std.proofs.lemmas.List.{length-replicate}
use Rattle.std.specs.Fmt.{signed_decimal}
use Rattle.station_report.specs.Text.{row_text, left, right, or_dash, callsign_text, squawk_text, velocity_text, latitude_text, longitude_text}
use Rattle.station_report.proofs.lines.row_line.Goals as goal

-- a text with spaces after it up to the width needs none before it
filled : (width : ℕ) (text : List ℕ) → right width (left width text) ≡ left width text
filled width text =
    let long : width - length (left width text) ≡ 0 = omega (arith, length-append text (replicate (width - length text) 32), length-replicate {A = ℕ} (width - length text) 32) in
    rw long refl

-- the field of a value, or a dash
dashed : {V : Type 0} (text : V → List ℕ) (items : List ℕ) (value : Option V) → MatchOption value (items ≡ codes "-") (λ x. items ≡ text x) → items ≡ or_dash text value
dashed text items None is = is
dashed text items (Some x) is = is

columns : (a b c d e f g h i : List ℕ) → (((((((((a ++ 32 ∷ []) ++ (b ++ 32 ∷ [])) ++ (c ++ 32 ∷ [])) ++ (d ++ 32 ∷ [])) ++ (e ++ 32 ∷ [])) ++ (f ++ 32 ∷ [])) ++ (g ++ 32 ∷ [])) ++ (h ++ 32 ∷ [])) ++ (i ++ 10 ∷ [])) ≡ a ++ 32 ∷ [] ++ b ++ 32 ∷ [] ++ c ++ 32 ∷ [] ++ d ++ 32 ∷ [] ++ e ++ 32 ∷ [] ++ f ++ 32 ∷ [] ++ g ++ 32 ∷ [] ++ h ++ 32 ∷ [] ++ i ++ 10 ∷ []
columns a b c d e f g h i = simp append_assoc

pub returns : goal.returns
unfolding row_text
returns c =
    rw (
      c.push_column-9.ensures.items,
      c.decimal_field.ensures,
      c.push_column-8.ensures.items,
      dashed longitude_text _ c.args.aircraft.position c.or_dash-5.ensures,
      c.push_column-7.ensures.items,
      dashed latitude_text _ c.args.aircraft.position c.or_dash-4.ensures,
      c.push_column-6.ensures.items,
      dashed signed_decimal _ c.args.aircraft.vertical c.or_dash-3.ensures,
      c.push_column-5.ensures.items,
      dashed velocity_text _ c.args.aircraft.velocity c.or_dash-2.ensures,
      c.push_column-4.ensures.items,
      dashed squawk_text _ c.args.aircraft.squawk c.or_dash.ensures,
      c.push_column-3.ensures.items,
      c.altitude_field.ensures,
      c.push_column-2.ensures.items,
      c.callsign_field.ensures,
      filled 8 (or_dash callsign_text _),
      c.push_column.ensures.items,
      c.address_field.ensures,
      c.new-line.ensures,
    ) (columns _ _ _ _ _ _ _ _ _)
