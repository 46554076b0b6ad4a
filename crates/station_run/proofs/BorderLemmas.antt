-- Bytes that end between two lines.
use Rattle.std.proofs.Common.{◌∷◌, ◌++◌, ℕ, List, [], All, ap, arith, inl, inr, is_some, length, map}
use Rattle.std.proofs.lemmas.List.Elements.{All-cons, All-nil}
use Rattle.streams.specs.Source.{IsBorder}
use Rattle.station_portions.specs.Giving.{left_of, state_of, taken_messages, ungiven_bytes}
use Rattle.station_portions.specs.declared.portions.Portions.{Portions}
use Rattle.station_portions.proofs.GivingLemmas.{border_given}
use Rattle.station_paths.proofs.Common.{FailsBetweenLines}

-- the bytes after the first ones
border_tail : (x : ℕ) (xs : List ℕ) → IsBorder (x ∷ xs) → IsBorder xs
border_tail x xs (inl none) = absurd (omega (arith, ap length none))
border_tail x xs (inr ([], is)) = inl (cc (is))
border_tail x xs (inr (y ∷ front, is)) = inr (front, cc (is))

pub border_rest : (front rest : List ℕ) → IsBorder (front ++ rest) → IsBorder rest
border_rest [] rest border = border
border_rest (x ∷ front) rest border = border_rest front rest (border_tail x (front ++ rest) border)

-- a source of portions whose read failed
fails_between : {R : Type 0} (portions : Portions R) → FailsBetweenLines (state_of portions)
fails_between portions = λ some.
    let failed = portions.failed some in
    (ap left_of failed, border_given (taken_messages portions) (ungiven_bytes portions) (portions.over (ap is_some failed)))

pub all_fail_between : {R : Type 0} (inputs : List (Portions R)) → All FailsBetweenLines (map state_of inputs)
all_fail_between [] = All-nil FailsBetweenLines
all_fail_between (input ∷ inputs) = All-cons FailsBetweenLines (state_of input) (map state_of inputs) (fails_between input) (all_fail_between inputs)
