-- Where the blanks at the ends of a line stop.
use Rattle.std.proofs.Common.{◌≡◌, ℕ, ◌-◌, List, length, take, drop, ap, sym, ◌∙◌, length-drop}
use Rattle.std.specs.List.{prefix_len, suffix_len}
use Rattle.std.proofs.Math.Seq.{take-length}
use Rattle.modes_frame.specs.Reading.{is_blank, front_trimmed, back_trimmed}

-- what `&line[i..]` is
pub rest-is : (xs : List ℕ) (i : ℕ) → take (length xs - i) (drop i xs) ≡ drop i xs
rest-is xs i = ap (λ n. take n (drop i xs)) (sym (length-drop i xs)) ∙ take-length (drop i xs)

pub front-is : (line : List ℕ) (start : ℕ) → prefix_len is_blank line ≡ start → take (length line - start) (drop start line) ≡ front_trimmed line
unfolding front_trimmed
front-is line start e = rest-is line start ∙ ap (λ n. drop n line) (sym e)

pub back-is : (line : List ℕ) (end : ℕ) → end ≡ length line - suffix_len is_blank line → take end line ≡ back_trimmed line
unfolding back_trimmed
back-is line end e = ap (λ n. take n line) e
