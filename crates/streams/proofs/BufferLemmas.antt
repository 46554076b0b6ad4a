-- The bytes in the buffer of a reader.
use Rattle.std.proofs.Common.{◌≡◌, ℕ, ◌≤◌, Bool, true, false, cond, List, ◌++◌, length, take, drop, Option, Some, None, sym, ap, ◌∙◌, take-append-drop}
use Rattle.std.proofs.lemmas.List.{take-append-le}
use Rattle.std.specs.Io.KnownBytes.{Consumes, prepend_known}
use Rattle.std.specs.Io.BufRead.{DropsConsumable}

-- the first bytes of a buffer are the first of what is left
pub held_first : (none : Bool) (xs : List ℕ) (rest new : Option (List ℕ)) (n : ℕ) (got : List ℕ) → n ≤ length xs → got ≡ take n xs
    → DropsConsumable (cond none None (prepend_known xs rest)) new (Some (length xs)) n → Consumes (cond none None (prepend_known xs rest)) new got
held_first true xs rest new n got within is drops = tt
held_first false xs None new n got within is drops = tt
held_first false xs (Some ys) new n got within is drops =
    rw (drops within, is) (sym (take-append-drop n (xs ++ ys)) ∙ ap (λ l. l ++ drop n (xs ++ ys)) (take-append-le n xs ys within))
