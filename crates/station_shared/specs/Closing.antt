-- What the seats given at a close say of the journal.
use Rattle.std.specs.Prelude.{◌≡◌, ℕ, zero, suc, ◌+◌, ◌<◌, ◌≤◌, eqb, cond, fold, List, [], ◌∷◌, ◌++◌, length, count_by, sum, sum_by}
use Rattle.std.specs.List.{AllByRecursion}
use mathlib.Core.List.{IsPrefix}
use Rattle.station_journal.specs.declared.entry.Entry.{Entry}
use Rattle.station_journal.specs.Log.{IsLegal}
use Rattle.station_history.specs.Start.{Start, log_of}
use Rattle.station_shared.specs.Seats.{Seated, own_entries, count_of_seat}

-- the numbers of the seats are those below n, each once
pub record EachOnce (n : ℕ) (seats : List Seated) : Type 0 where
  pub as_many : length seats ≡ n
  pub below : AllByRecursion (λ (s : Seated). s.number < n) seats
  pub once : (k : ℕ) → k < n → count_by (λ s. eqb k s.number) seats ≡ 1

-- what the seat has seen is a prefix of the entries, which contain at least its accepted calls
abbrev pub Backed : Start → List Entry → Seated → Type 0
Backed start es s = IsPrefix s.seen es × (s.accepted ≤ count_of_seat s.number (own_entries start es))

-- the accepted calls of the last seat with this number
abbrev pub accepted_at : ℕ → List Seated → ℕ
accepted_at k seats = fold (λ d s. cond (eqb k s.number) s.accepted d) 0 seats

-- the accepted calls by seat number
abbrev pub accepted_by : ℕ → List Seated → List ℕ
accepted_by zero seats = []
accepted_by (suc n) seats = accepted_by n seats ++ accepted_at n seats ∷ []

-- how many entries each seat number below n has
abbrev pub counts_below : ℕ → List Entry → List ℕ
counts_below zero es = []
counts_below (suc n) es = counts_below n es ++ count_of_seat n es ∷ []

-- the journal of a closed station:
-- it is legal, and what each seat has seen is a prefix of it;
-- it contains the entries that it was resumed from, then one for each accepted call, and no other;
-- it has as many own entries of each number as that seat has accepted calls
pub record Closes (start : Start) (n : ℕ) (es : List Entry) (seats : List Seated) : Type 0 where
  pub legal : IsLegal (log_of start es)
  pub seen : AllByRecursion (λ (s : Seated). IsPrefix s.seen es) seats
  pub total : start.resumed + sum_by (λ s. s.accepted) seats ≡ length es
  pub each : AllByRecursion (λ (s : Seated). count_of_seat s.number (own_entries start es) ≡ s.accepted) seats
  pub by_number : accepted_by n seats ≡ counts_below n (own_entries start es)
  pub all : start.resumed + sum (accepted_by n seats) ≡ length es
