-- One history of a station as a merge of what its seats did.
use Rattle.std.specs.Prelude.{◌≡◌, ◌⊎◌, ℕ, eqb, List, [], ◌∷◌, ◌++◌, Option, None, Result, Ok, Err}
use Rattle.std.specs.List.{filter}
use mathlib.Core.List.{IsPrefix}
use Rattle.station_journal.specs.declared.entry.Entry.{Entry}
use Rattle.station_journal.specs.declared.refusal.Refusal.{Refusal}
use Rattle.station_journal.specs.Log.{IsLegal, refusal_of, verdict_behind}
use Rattle.station_history.specs.Start.{Start, log_of}
use Rattle.station_history.specs.History.{Known}
use Rattle.station_shared.specs.Seats.{Accepted, HasLearned, Looks, Refused, Seated, own_entries, seat_of}

-- what a seat did: a call, by the entry that it asks for, with its answer; or it saw the journal up to some entry, by these entries
pub data Deed : Type 0 where
  Called : Entry → Result (Unit {0}) Refusal → Deed
  Saw : List Entry → Deed

-- a seat sees what it had seen or more: it looks, or it learns what another seat has seen
abbrev pub Sees : Start → Seated → Seated → Type 0
Sees start old new = Looks start old new ⊎ ((list : List Entry) × HasLearned old new list)

-- a seat did this, one after another
abbrev pub Did : Start → Seated → List Deed → Seated → Type 0
Did start old [] new = new ≡ old
Did start old (Saw seen ∷ deeds) new = (mid : Seated) × Sees start old mid × (mid.seen ≡ seen) × Did start mid deeds new
Did start old (Called entry (Ok taken) ∷ deeds) new =
    (mid : Seated) × (receipt : Known) × Accepted start old mid entry receipt × (seat_of entry ≡ old.number) × Did start mid deeds new
Did start old (Called entry (Err refusal) ∷ deeds) new =
    (mid : Seated) × Refused start old mid entry refusal × (seat_of entry ≡ old.number) × Did start mid deeds new

-- what a call adds to the history: its entry, if it is accepted
abbrev pub entry_added : Entry → Result (Unit {0}) Refusal → List Entry
entry_added entry (Ok taken) = entry ∷ []
entry_added entry (Err refusal) = []

-- the entries of the accepted calls, in their order
abbrev pub accepted_in : List Deed → List Entry
accepted_in [] = []
accepted_in (Called entry answer ∷ deeds) = entry_added entry answer ++ accepted_in deeds
accepted_in (Saw seen ∷ deeds) = accepted_in deeds

-- what the plain search says of a call with this answer; out of memory is answered only where it accepts
abbrev pub verdict_on : Result (Unit {0}) Refusal → Option Refusal
verdict_on (Ok taken) = None
verdict_on (Err refusal) = verdict_behind refusal

-- the entries of a seat, in their order
abbrev pub entries_of_seat : ℕ → List Entry → List Entry
entries_of_seat seat entries = filter (λ e. eqb (seat_of e) seat) entries

-- a beginning of the history with all that a seat had seen. Of the seat's calls it has those accepted before, and no other
pub record IsReached (start : Start) (history : List Entry) (seat : ℕ) (before seen at : List Entry) : Type 0 where
  pub begins : IsPrefix at history
  pub later : IsPrefix seen at
  pub its_own : entries_of_seat seat (own_entries start at) ≡ before

-- what a seat did, in its order: it saw such a beginning, or the plain search there decided its call. An accepted
-- call's entry is the next in the history
abbrev pub DoesIn : Start → (history : List Entry) → (seat : ℕ) → (before seen : List Entry) → List Deed → Type 0
DoesIn start history seat before seen [] = IsPrefix seen history
DoesIn start history seat before seen (Saw at ∷ deeds) = IsReached start history seat before seen at × DoesIn start history seat before at deeds
DoesIn start history seat before seen (Called entry answer ∷ deeds) =
    (at : List Entry) × IsReached start history seat before seen at × (refusal_of (log_of start at) entry ≡ verdict_on answer)
    × DoesIn start history seat (before ++ entry_added entry answer) (at ++ entry_added entry answer) deeds

-- the history of a station is a merge of what its seats did, each by its number
pub record IsMerge (start : Start) (entries history : List Entry) (did : ℕ → List Deed) : Type 0 where
  -- it is legal, and begins with the entries that the station was begun with
  pub legal : IsLegal (log_of start history)
  pub begins : history ≡ entries ++ own_entries start history
  -- the entries of each seat after them are its accepted calls, in their order: none is lost, and none is there twice
  pub each : (seat : ℕ) → entries_of_seat seat (own_entries start history) ≡ accepted_in (did seat)
  -- each seat did it at beginnings of the history that have all that it had seen
  pub decided : (seat : ℕ) → DoesIn start history seat [] entries (did seat)
