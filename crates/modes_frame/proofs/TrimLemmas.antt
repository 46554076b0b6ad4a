-- A line without the blanks at its ends.
use Rattle.std.proofs.Common.{◌≡◌, ℕ, suc, ◌+◌, ◌-◌, ◌<◌, ◌≤◌, false, List, [], ◌∷◌, ◌++◌, length, length-append, reverse, take, drop, take-append-drop, get_or, ap, sym, ◌∙◌, arith}
use Rattle.std.specs.List.{All, prefix_len, suffix_len}
use Rattle.std.proofs.lemmas.List.{length-take-le, length-drop, length-reverse, get_or-take, get_or-drop, get_or-reverse}
use Rattle.std.proofs.lemmas.List.Sums.{prefix_len_passes, prefix_len_stops, prefix_len-le-length, suffix_len-le-length}
use Rattle.std.proofs.lemmas.List.Elements.{All-from_get_or}
use Rattle.std.proofs.Math.Seq.{get_or-append_seam}
use Rattle.modes_frame.proofs.Common.{is_blank, front_trimmed, back_trimmed, trimmed_line, IsBlank, IsTrimmed}

-- the number of blanks at the front, what follows them, the number of blanks at the back of that, and what is left
abbrev ahead : List ℕ → ℕ
ahead line = prefix_len is_blank line

abbrev rest : List ℕ → List ℕ
rest line = drop (ahead line) line

abbrev behind : List ℕ → ℕ
behind line = suffix_len is_blank (rest line)

abbrev kept : List ℕ → ℕ
kept line = length (rest line) - behind line

no_blank : (c : ℕ) → is_blank c ≡ false → ¬ IsBlank c
no_blank c e h = cc

module _ (line : List ℕ) where
  blank_ahead : All IsBlank (take (ahead line) line)
  blank_ahead = All-from_get_or IsBlank (take (ahead line) line) 0 (λ i h.
      let few : length (take (ahead line) line) ≡ ahead line = length-take-le (ahead line) line (prefix_len-le-length is_blank line) in
      let within : i < ahead line = omega arith in
      ap is_blank (get_or-take (ahead line) line i 0 within) ∙ prefix_len_passes is_blank line i 0 within)

  -- a place of the rest, counted from its end
  from_end : (k : ℕ) → k < length (rest line) → get_or (reverse (rest line)) k 0 ≡ get_or (rest line) (length (rest line) - 1 - k) 0
  from_end k h = get_or-reverse (rest line) k 0 h

  most_behind : behind line ≤ length (rest line)
  most_behind = suffix_len-le-length is_blank (rest line)

  blank_behind : All IsBlank (drop (kept line) (rest line))
  blank_behind = All-from_get_or IsBlank (drop (kept line) (rest line)) 0 (λ i h.
      let few : length (drop (kept line) (rest line)) ≡ length (rest line) - kept line = length-drop (kept line) (rest line) in
      let most = most_behind in
      let k = length (rest line) - 1 - (kept line + i) in
      let within : k < behind line = omega arith in
      let place : kept line + i ≡ length (rest line) - 1 - k = omega arith in
      ap is_blank (get_or-drop (kept line) (rest line) i 0 ∙ ap (λ n. get_or (rest line) n 0) place ∙ sym (from_end k (omega arith)))
      ∙ prefix_len_passes is_blank (reverse (rest line)) k 0 within)

  parts : line ≡ take (ahead line) line ++ (take (kept line) (rest line) ++ drop (kept line) (rest line))
  parts = sym (take-append-drop (ahead line) line) ∙ ap (λ l. take (ahead line) line ++ l) (sym (take-append-drop (kept line) (rest line)))

  -- the first that is left is no blank
  first_kept : (c : ℕ) (cs : List ℕ) → take (kept line) (rest line) ≡ c ∷ cs → ¬ IsBlank c
  first_kept c cs e =
      let count : length (take (kept line) (rest line)) ≡ suc (length cs) = ap length e in
      let whole : length (take (kept line) (rest line)) ≡ kept line = length-take-le (kept line) (rest line) (omega arith) in
      let some : 0 < kept line = omega arith in
      let left : length (rest line) ≡ length line - ahead line = length-drop (ahead line) line in
      let is : get_or line (ahead line) 0 ≡ c =
      ap (λ n. get_or line n 0) (let z : ahead line ≡ ahead line + 0 = omega arith in z) ∙ sym (get_or-drop (ahead line) line 0 0)
      ∙ sym (get_or-take (kept line) (rest line) 0 0 some) ∙ ap (λ l. get_or l 0 0) e in
      no_blank c (ap is_blank (sym is) ∙ prefix_len_stops is_blank line 0 (omega arith))

  -- and neither is the last
  last_kept : (c : ℕ) (cs : List ℕ) → take (kept line) (rest line) ≡ cs ++ c ∷ [] → ¬ IsBlank c
  last_kept c cs e =
      let count : length (take (kept line) (rest line)) ≡ length cs + 1 = ap length e ∙ length-append cs (c ∷ []) in
      let whole : length (take (kept line) (rest line)) ≡ kept line = length-take-le (kept line) (rest line) (omega arith) in
      let most = most_behind in
      let turned : length (reverse (rest line)) ≡ length (rest line) = length-reverse (rest line) in
      let place : length (rest line) - 1 - behind line ≡ length cs = omega arith in
      let is : get_or (reverse (rest line)) (behind line) 0 ≡ c =
      from_end (behind line) (omega arith) ∙ ap (λ n. get_or (rest line) n 0) place
      ∙ sym (get_or-take (kept line) (rest line) (length cs) 0 (omega arith)) ∙ ap (λ l. get_or l (length cs) 0) e ∙ get_or-append_seam cs c [] 0 in
      no_blank c (ap is_blank (sym is) ∙ prefix_len_stops is_blank (reverse (rest line)) 0 (omega arith))

pub trimmed_line-is : (line : List ℕ) → IsTrimmed line (trimmed_line line)
unfolding front_trimmed back_trimmed
trimmed_line-is line = record {
  front = take (ahead line) line;
  back = drop (kept line) (rest line);
  parts = parts line;
  blank_front = blank_ahead line;
  blank_back = blank_behind line;
  first = first_kept line;
  last = last_kept line;
}
