-- A line of digits says its frame, and ends at its line feed.
use Rattle.std.proofs.Common.{◌≡◌, ◌≢◌, ℕ, zero, suc, ◌-◌, ◌<◌, ◌≤◌, ◌⊎◌, ◌==◌, nat_le, nat_lt, inl, inr, true, false, cond, List, [], ◌∷◌, ◌++◌, Option, Some, None, Ok, length, length-append, append_assoc, take, get_or, refl, ap, sym, ◌∙◌, arith, rules, tests, eq-eqb, IfSome, take_all}
use Rattle.std.specs.List.{AllPass, suffix_len}
use Rattle.std.proofs.lemmas.Bool.{cases_lt}
use Rattle.std.proofs.lemmas.List.Sums.{suffix_len-take_no}
use Rattle.std.proofs.Math.ListN.{get_or-append}
use Rattle.std.proofs.Math.Seq.{get_or-append_seam, take-append_seam, take-length}
use Rattle.hex.specs.Hex.{decode_pairs, is_hex_digit}
use Rattle.hex.proofs.HexLemmas.{decode_pairs-ok}
use Rattle.modes_frame.proofs.Common.{Cut, Whole, df_of, IsFrame, ended_cuts, pending, lengthened_cut, is_blank, front_trimmed, back_trimmed, trimmed_line, reading_of, line_reading, said_by, fits_length, digits_of, body_of}
use Rattle.modes_frame.specs.declared.line.Line.TheVariants.{Frame}
use Rattle.modes_frame.specs.declared.plain.PlainLine.{PlainLine}
use Rattle.modes_frame.specs.Plain.{IsFrameLine, EndsFrame}
use Rattle.modes_frame.proofs.LineLemmas.{HasNone, pending-lengthened_cut, ended-lengthened_cut, pending-push, ended-push}
use Rattle.modes_frame.proofs.RuleLemmas.{ends-at, ended-test}

-- ---- what the line says

abbrev line_with : List ℕ → List ℕ
line_with digits = 42 ∷ digits ++ 59 ∷ []

no-blank : (digits : List ℕ) → trimmed_line (line_with digits) ≡ line_with digits
unfolding front_trimmed back_trimmed
no-blank digits =
    let line = line_with digits in
    let some : 0 < length line = omega arith in
    let none : suffix_len is_blank line ≡ 0 =
    ap (suffix_len is_blank) (sym (take-length line)) ∙ suffix_len-take_no is_blank line (length line) 0 some (omega arith) (ap is_blank (ends-at (42 ∷ digits) 59)) in
    ap (λ n. take (length line - n) line) none ∙ take_all (length line - 0) line (omega arith)

-- a line feed is no digit
no-digit : (c : ℕ) → is_hex_digit c ≡ true → c ≢ 10
no-digit c h e = let f : is_hex_digit 10 ≡ true = ap is_hex_digit (sym e) ∙ h in cc

no-end : (c : ℕ) → c ≡ 59 → c ≢ 10
no-end c h e = cc

none-in : (digits : List ℕ) → AllPass is_hex_digit digits → (k : ℕ) → k < length (digits ++ 59 ∷ []) → get_or (digits ++ 59 ∷ []) k 0 ≢ 10
none-in digits all k within e =
    let more = length-append digits (59 ∷ []) in
    elim (cases_lt k (length digits)) [
      | inl below ↦ no-digit (get_or digits k 0) (all k 0 below) (sym (get_or-append digits (59 ∷ []) 0 k below) ∙ e)
      | inr rest ↦
          let last : k ≡ length digits = omega arith in
          no-end (get_or (digits ++ 59 ∷ []) k 0) (ap (λ n. get_or (digits ++ 59 ∷ []) n 0) last ∙ get_or-append_seam digits 59 [] 0) e
    ]

none-inside : (digits : List ℕ) → AllPass is_hex_digit digits → HasNone (line_with digits)
none-inside digits all zero within e = cc
none-inside digits all (suc k) within e = none-in digits all k (omega arith) e

module _ (digits frame : List ℕ) (few : (length digits ≡ 14) ⊎ (length digits ≡ 28)) (decoded : decode_pairs 0 digits ≡ Ok frame) (is : IsFrame frame) where
  bytes-said : said_by frame ≡ Ok (Frame frame)
  bytes-said =
      let twice = (decode_pairs-ok 0 digits frame decoded).1 in
      let more : (length frame == 2) ≡ false = elim few [ inl h ↦ search (arith, rules, tests) | inr h ↦ search (arith, rules, tests) ] in
      let fits : (length frame == cond (nat_lt (df_of frame) 16) 7 14) ≡ true = eq-eqb (length frame) (cond (nat_lt (df_of frame) 16) 7 14) is in
      rw (more, fits) refl

  digits-said : digits_of 42 digits ≡ Ok (Frame frame)
  digits-said =
      let fits : fits_length 42 (length digits) ≡ true = elim few [ inl h ↦ rw h refl | inr h ↦ rw h refl ] in
      rw (fits, decoded) bytes-said

  body-said : body_of 42 (digits ++ 59 ∷ []) ≡ Ok (Frame frame)
  body-said =
      let less : length (digits ++ 59 ∷ []) - 1 ≡ length digits = omega (arith, length-append digits (59 ∷ [])) in
      let front : take (length (digits ++ 59 ∷ []) - 1) (digits ++ 59 ∷ []) ≡ digits = ap (λ n. take n (digits ++ 59 ∷ [])) less ∙ take-append_seam digits (59 ∷ []) in
      rw (ended-test digits, front) digits-said

  short-line : length (line_with digits) ≤ 64
  short-line =
      let more = length-append digits (59 ∷ []) in
      elim few [ inl h ↦ omega arith | inr h ↦ omega arith ]

  line-said : reading_of (line_with digits) ≡ Ok (Frame frame)
  line-said =
      let short = short-line in
      let no : nat_lt 64 (length (line_with digits)) ≡ false = search (rules, tests) in
      rw no (ap line_reading (no-blank digits) ∙ body-said)

  pub frame-line : (bytes : List ℕ) → bytes ≡ line_with digits ++ 10 ∷ [] → IsFrameLine bytes frame
  frame-line bytes parts = record {
    line = line_with digits;
    parts = parts;
    no_line_feed = none-inside digits (decode_pairs-ok 0 digits frame decoded).0;
    short = short-line;
    says = line-said;
  }

-- ---- its cut

module _ (held : Cut) (bytes frame : List ℕ) (none : held ≡ pending []) (line : IsFrameLine bytes frame) (before : List ℕ) (h : held ≡ pending before) where
  grown : before ++ bytes ≡ (before ++ line.line) ++ 10 ∷ []
  grown = ap (λ b. before ++ b) line.parts ∙ sym (append_assoc before line.line (10 ∷ []))

  whole : pending (before ++ line.line) ≡ Whole line.line
  whole =
      let fits = line.short in
      let yes : nat_le (length line.line) 64 ≡ true = search (rules, tests) in
      sym (pending-lengthened_cut before line.line line.no_line_feed) ∙ ap (λ c. lengthened_cut c line.line) (sym h ∙ none) ∙ rw yes refl

  ended-frame : ended_cuts (before ++ bytes) ≡ ended_cuts before ++ Whole line.line ∷ []
  ended-frame =
      ap ended_cuts grown ∙ ended-push (before ++ line.line) 10
      ∙ ap (λ ls. ls ++ pending (before ++ line.line) ∷ []) (ended-lengthened_cut before line.line line.no_line_feed)
      ∙ ap (λ c. ended_cuts before ++ c ∷ []) whole

  left-frame : held ≡ pending (before ++ bytes)
  left-frame = none ∙ pending-push (before ++ line.line) 10 ∙ ap pending (sym grown)

ends-frame : (held : Cut) (bytes frame : List ℕ) → held ≡ pending [] → IsFrameLine bytes frame → EndsFrame held bytes frame
ends-frame held bytes frame none line = record {
  line = line.line;
  says = line.says;
  ended = λ before h. ended-frame held bytes frame none line before h;
  left = λ before h. left-frame held bytes frame none line before h;
}

pub ends-some : (held : Cut) (bytes : List ℕ) (seen : Option PlainLine) → held ≡ pending []
    → IfSome seen (λ (line : PlainLine). IsFrameLine (take line.length bytes) line.frame)
    → IfSome seen (λ (line : PlainLine). EndsFrame held (take line.length bytes) line.frame)
ends-some held bytes None none h = tt
ends-some held bytes (Some line) none h = ends-frame held (take line.length bytes) line.frame none h
