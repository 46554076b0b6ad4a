-- What contracts see of seats, receipts and looks, and what a call does to them.
use Rattle.std.specs.Prelude.{◌≡◌, ℕ, zero, suc, ◌+◌, ◌⊎◌, eqb, Bool, true, not, nat_lt, List, [], ◌∷◌, ◌++◌, None, count_by, drop}
use mathlib.Core.List.{IsPrefix}
use Rattle.station_journal.specs.declared.entry.Entry.{Entry}
use Rattle.station_journal.specs.declared.entry.Entry.TheVariants.{Tick, Heard}
use Rattle.station_journal.specs.declared.refusal.Refusal.{Refusal}
use Rattle.station_journal.specs.Log.{IsLegal, refusal_of, verdict_behind}
use Rattle.station_history.specs.History.{Known}
use Rattle.station_history.specs.Start.{Start, log_of}

-- the entries of a station's own calls: those after the entries that it was resumed from
abbrev pub own_entries : Start → List Entry → List Entry
own_entries start entries = drop start.resumed entries

-- the number of the seat whose entry it is
abbrev pub seat_of : Entry → ℕ
seat_of (Tick seat at) = seat
seat_of (Heard seat frame) = seat

-- how many entries a seat has
abbrev pub count_of_seat : ℕ → List Entry → ℕ
count_of_seat seat entries = count_by (λ e. eqb (seat_of e) seat) entries

-- a seat: its number, how many of its calls were accepted, whether it has a place among the readers, and what it has seen
-- of the journal
pub record Seated : Type 0 where
  pub number : ℕ
  pub accepted : ℕ
  pub can_look : Bool
  pub seen : List Entry

-- what a seat keeps whether it looks or not
pub record Account : Type 0 where
  pub number : ℕ
  pub accepted : ℕ
  pub seen : List Entry

-- the seat that keeps this, with a place or without one
abbrev pub seat_over : Account → Bool → Seated
seat_over s can_look = record { number = s.number; accepted = s.accepted; can_look = can_look; seen = s.seen }

-- what this seat keeps
abbrev pub account_of : Seated → Account
account_of s = record { number = s.number; accepted = s.accepted; seen = s.seen }

-- the entry was accepted after all that the seat had seen, as one more of its calls; the seat and the receipt know the
-- list up to it
pub record Accepted (start : Start) (old new : Seated) (e : Entry) (receipt : Known) : Type 0 where
  pub mid : List Entry
  pub seen : new.seen ≡ mid ++ e ∷ []
  pub legal : IsLegal (log_of start mid)
  pub later : IsPrefix old.seen mid
  pub verdict : refusal_of (log_of start mid) e ≡ None
  pub list : receipt.entries ≡ new.seen
  pub accepted : new.accepted ≡ old.accepted + 1
  pub number : new.number ≡ old.number
  pub place : new.can_look ≡ old.can_look

-- the refusal is that of a journal which begins with all that the seat had seen; out of memory is the answer only where
-- the verdict accepts there
pub record Refused (start : Start) (old new : Seated) (e : Entry) (refusal : Refusal) : Type 0 where
  pub later : IsPrefix old.seen new.seen
  pub legal : IsLegal (log_of start new.seen)
  pub verdict : refusal_of (log_of start new.seen) e ≡ verdict_behind refusal
  pub accepted : new.accepted ≡ old.accepted
  pub number : new.number ≡ old.number
  pub place : new.can_look ≡ old.can_look

-- the same seat, which has now seen the longer of two lists: what it had seen, and this one
pub record HasLearned (old new : Seated) (list : List Entry) : Type 0 where
  pub later : IsPrefix old.seen new.seen
  pub told : IsPrefix list new.seen
  pub one : (new.seen ≡ old.seen) ⊎ (new.seen ≡ list)
  pub accepted : new.accepted ≡ old.accepted
  pub number : new.number ≡ old.number
  pub place : new.can_look ≡ old.can_look

-- the same seat, which has a place among the readers, and has seen as much or more; what it has seen is legal
pub record Looks (start : Start) (old new : Seated) : Type 0 where
  pub later : IsPrefix old.seen new.seen
  pub legal : IsLegal (log_of start new.seen)
  pub accepted : new.accepted ≡ old.accepted
  pub number : new.number ≡ old.number
  pub had_place : old.can_look ≡ true
  pub has_place : new.can_look ≡ true

-- a seat that has seen no more than the entries that its station began with
abbrev pub new_seat : List Entry → Bool → ℕ → Seated
new_seat entries can_look n = record { number = n; accepted = 0; can_look = can_look; seen = entries }

-- such seats, numbered from 0: those with the numbers below `blind` have no place among the readers, and the others have
abbrev pub new_seats : List Entry → ℕ → ℕ → List Seated
new_seats entries blind zero = []
new_seats entries blind (suc n) = new_seats entries blind n ++ new_seat entries (not (nat_lt n blind)) n ∷ []

-- such a seat with a place
abbrev pub newcomer : List Entry → ℕ → Seated
newcomer entries n = new_seat entries true n

-- such seats without places, numbered from 0
abbrev pub newcomers : List Entry → ℕ → List Seated
newcomers entries n = new_seats entries n n
