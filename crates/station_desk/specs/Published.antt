-- What readers look at, and the rule over it.
use Rattle.std.specs.Prelude.{◌≡◌, ℕ, ◌≤◌, ◌⊎◌, List, length, Option, Some, None, IfSome, option_map}
use mathlib.Core.List.{IsPrefix}
use mathlib.Core.Option.{some}
use lib.ListN.{get_elem?}
use Rattle.station_journal.specs.declared.entry.Entry.{Entry}
use Rattle.station_journal.specs.Log.{IsLegal}
use Rattle.station_book.specs.State.{BookState}
use Rattle.station_book.specs.Matching.{Matches}
use Rattle.station_history.specs.History.{Known, Name, base_of}
use Rattle.station_history.specs.Start.{Start, log_of}
use Rattle.station_desk.specs.declared.published.Mark.{Mark}
use Rattle.station_desk.specs.declared.published.Origin.{Origin}
use Rattle.station_desk.specs.declared.published.PublishedTable.{PublishedTable}

-- what is published: a book, the beginning of the history that it matches, and the origin of the station, once there is one
pub record Sheet : Type 0 where
  pub book : BookState
  pub front : Known
  pub origin : Option Origin

abbrev pub sheet : BookState → Known → Option Origin → Sheet
sheet book front origin = record { book = book; front = front; origin = origin }

-- a copy as what is published
abbrev pub sheet_of : {n : ℕ} → PublishedTable n → Sheet
sheet_of copy = sheet copy.book copy.front copy.origin

-- what is published of a station beside its history
abbrev pub origin_of : Start → Origin
origin_of start = record { limits = start.limits; resumed = start.resumed }

-- how the station of this history began
abbrev pub start_at : Name → Origin → Start
start_at history origin = record { history = history; limits = origin.limits; resumed = origin.resumed }

-- the entries are legal for the station, where there is one
abbrev pub LegalUnder : Name → Option Origin → List Entry → Type 0
LegalUnder history origin entries = IfSome origin (λ o. IsLegal (log_of (start_at history o) entries))

-- the book, of at most n aircraft, matches its beginning of the history, which is legal, and has the site of the station
pub record IsRight (n : ℕ) (s : Sheet) : Type 0 where
  pub matched : Matches n (base_of s.front.name) s.book s.front.entries
  pub legal : LegalUnder s.front.name s.origin s.front.entries
  pub site : IfSome s.origin (λ o. s.book.site ≡ o.limits.site)

-- what is known is a beginning of the published history, and its origin
pub record IsOfSheet (s : Sheet) (k : Mark) : Type 0 where
  pub name : k.front.name ≡ s.front.name
  pub origin : s.origin ≡ Some k.origin
  pub begins : IsPrefix k.front.entries s.front.entries

-- what is published is right, and each view that knows a station knows this one
pub record IsPublished (n : ℕ) (s : Sheet) (all : List (Option Mark)) : Type 0 where
  pub right : IsRight n s
  pub views : (seat : ℕ) (k : Mark) → get_elem? all seat ≡ some (Some k) → IsOfSheet s k

-- what is known once what is published was seen: nothing before there is a station
abbrev pub mark_of : Known → Option Origin → Option Mark
mark_of front origin = option_map (λ o. record { front = front; origin = o }) origin

-- what a step shows of what is published after it
pub record SawPublished (n : ℕ) (old : Option Mark) (s : Sheet) (new : Option Mark) : Type 0 where
  pub knows : new ≡ mark_of s.front s.origin
  pub right : IsRight n s
  pub known : IfSome old (IsOfSheet s)

-- the same station, whose history only grows
pub record GoesOn (old new : Sheet) : Type 0 where
  pub origin : new.origin ≡ old.origin
  pub name : new.front.name ≡ old.front.name
  pub begins : IsPrefix old.front.entries new.front.entries

-- the new may be published after the old: it is right if the old is, and a station that was there goes on
pub record Follows (n : ℕ) (old new : Sheet) : Type 0 where
  pub right : IsRight n old → IsRight n new
  pub same : (old.origin ≡ None) ⊎ GoesOn old new

-- the origin of a station of at most n aircraft that begins with the entries
pub record BeginsWith (n : ℕ) (origin : Origin) (entries : List Entry) : Type 0 where
  pub aircraft : origin.limits.aircraft ≡ n
  pub room : length entries ≤ origin.limits.entries
  pub resumed : origin.resumed ≡ length entries

-- the view knows the station that began so
pub record IsOf (start : Start) (view : Option Mark) : Type 0 where
  pub mark : Mark
  pub is : view ≡ Some mark
  pub name : mark.front.name ≡ start.history
  pub origin : mark.origin ≡ origin_of start

-- a publishing end with its reader places: the name of its history, the number of places, and the book that is published
pub record Prepared : Type 0 where
  pub history : Name
  pub places : ℕ
  pub shown : BookState
