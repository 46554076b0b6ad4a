-- What the looks of a station have seen: each list begins with the one before it.
use Rattle.std.proofs.Common.{◌≡◌, inl, inr, ℕ, Bool, true, false, List, [], ◌∷◌, ◌++◌, ◌||◌, Option, Some, None, length, refl, sym, ap, subst, IfSome, cond, map, unwrap_or, All, flat_map}
use mathlib.Core.List.{IsPrefix}
use Rattle.std.proofs.lemmas.List.Elements.{All-cons, All-head, All-nil, All-tail}
use Rattle.station_journal.specs.declared.entry.Entry.{Entry}
use Rattle.station_journal.specs.Log.{IsLegal}
use Rattle.station_report.specs.declared.formats.Format.TheVariants.{Text}
use Rattle.station_history.specs.Start.{Start, log_of}
use Rattle.station_shared.specs.Seats.{Seated, Looks, newcomer}
use Rattle.station_record.specs.Record.{Grows, RecordedLook, last_after, seen_lists, shown_lists}
use Rattle.station_reporter.proofs.PrefixLemmas.{begins-same, begins-trans}
use Rattle.station_reporter.proofs.Common.{seen_by, IsLater, MayHandOver, Showing, Showings, Ticks, is_shown, looks_of, recorded_by, recorded_look, seat_after, text_of, texts}
use Rattle.station_reporter.specs.declared.duties.Duties.{Duties}
use Rattle.station_reporter.specs.declared.schedule.Due.{Due}
use Rattle.station_run.proofs.Common.{LastLook, LearnsFrom, Shows, Station}

-- ---- prefixes

grows-from : (a b : List Entry) (lists : List (List Entry)) → IsPrefix a b → Grows b lists → Grows a lists
grows-from a b [] p grows = tt
grows-from a b (seen ∷ later) p grows = (begins-trans a b seen p grows.0, grows.1)

last-from : (a b c : List Entry) (lists : List (List Entry)) → IsPrefix a b → IsPrefix (last_after b lists) c → IsPrefix (last_after a lists) c
last-from a b c [] p last = begins-trans a b c p last
last-from a b c (seen ∷ later) p last = last

pub grows-last : (front : List Entry) (lists : List (List Entry)) → Grows front lists → IsPrefix front (last_after front lists)
grows-last front [] grows = begins-same front front refl
grows-last front (seen ∷ later) grows = begins-trans front seen (last_after seen later) grows.0 (grows-last seen later grows.1)

-- ---- what the looks of a station have seen

abbrev pub Legal : Start → List Entry → Type 0
Legal start seen = IsLegal (log_of start seen)

-- lists that each look of a seat has seen, from its first entries to its last
pub record Grown (start : Start) (front end : List Entry) (lists : List (List Entry)) : Type 0 where
  pub grows : Grows front lists
  pub last : IsPrefix (last_after front lists) end
  pub legal : All (Legal start) lists

ticked : (start : Start) (old : Seated) (at : ℕ) (new : Seated) → Ticks start old at new → IsPrefix old.seen new.seen
ticked start old at new (inl accepted) =
    let is = accepted.1 in
    begins-trans old.seen is.mid new.seen is.later (_, sym is.seen)
ticked start old at new (inr refused) = refused.1.later

last-grown : (start : Start) (mid closing : Seated) (failed : Bool) (looks : List (Option Seated)) → LastLook start mid closing failed looks → Grown start mid.seen closing.seen (seen_by looks)
last-grown start mid closing true looks is =
    subst (λ (ls : List (Option Seated)). Grown start mid.seen closing.seen (seen_by ls)) (sym is.0)
    (record { grows = tt; last = begins-same mid.seen closing.seen (ap (λ (s : Seated). s.seen) (sym is.1)); legal = All-nil (Legal start) })
last-grown start mid closing false looks is = subst (λ (ls : List (Option Seated)). Grown start mid.seen closing.seen (seen_by ls)) (sym is.1) (by-look is.0 is.2 is.3)
  where
    by-look : (look : Option Seated) → unwrap_or look mid ≡ closing → IfSome look (λ l. Looks start mid l) → Grown start mid.seen closing.seen (seen_by (look ∷ []))
    by-look None same looked = record { grows = tt; last = begins-same mid.seen closing.seen (ap (λ (s : Seated). s.seen) same); legal = All-nil (Legal start) }
    by-look (Some l) same looked = record {
      grows = (looked.later, tt);
      last = begins-same l.seen closing.seen (ap (λ (s : Seated). s.seen) same);
      legal = All-cons (Legal start) l.seen [] looked.legal (All-nil (Legal start));
    }

more-grown : (start : Start) (old mid : Seated) (end : List Entry) (look : Option Seated) (looks : List (Option Seated)) → IsPrefix old.seen mid.seen → IfSome look (λ l. Looks start mid l)
    → Grown start (unwrap_or look mid).seen end (seen_by looks) → Grown start old.seen end (seen_by (look ∷ looks))
more-grown start old mid end None looks ticks looked rest = record {
  grows = grows-from old.seen mid.seen (seen_by looks) ticks rest.grows;
  last = last-from old.seen mid.seen end (seen_by looks) ticks rest.last;
  legal = rest.legal;
}
more-grown start old mid end (Some l) looks ticks looked rest = record {
  grows = (begins-trans old.seen mid.seen l.seen ticks looked.later, rest.grows);
  last = rest.last;
  legal = All-cons (Legal start) l.seen (seen_by looks) looked.legal rest.legal;
}

later-prefix : (start : Start) (old new : Seated) → IsLater start old new → IsPrefix old.seen new.seen
later-prefix start old new (inl same) = begins-same old.seen new.seen (ap (λ (s : Seated). s.seen) (sym same))
later-prefix start old new (inr looks) = looks.later

hand-over-prefix : (start : Start) (duties : Duties) (asked_at : Option ℕ) (due next : Due) (old new : Seated) (failed : Bool) → MayHandOver start duties asked_at due next old new failed → IsPrefix old.seen new.seen
hand-over-prefix start duties None due next old new failed is = begins-same old.seen new.seen (ap (λ (s : Seated). s.seen) (sym is.0))
hand-over-prefix start duties (Some at) due next old new failed is = ticked start old at new is.ticks

pub learned-prefix : (old : Seated) (seats : List Seated) (new : Seated) → LearnsFrom old seats new → IsPrefix old.seen new.seen
learned-prefix old [] new same = begins-same old.seen new.seen (ap (λ (s : Seated). s.seen) (sym same))
learned-prefix old (seat ∷ seats) new (mid, learned, rest) = begins-trans old.seen mid.seen new.seen learned.later (learned-prefix mid seats new rest)

-- all looks, those that are shown and those that aren't
abbrev all_looks : List Showing → List (Option Seated)
all_looks showings = map (λ (showing : Showing). showing.look) showings

-- the showings, and looks after them from a seat that has seen as much or more
grown : (start : Start) (old : Seated) (showings : List Showing) (shown mid : Seated) (end : List Entry) (last : List (Option Seated)) → Showings start old showings shown → IsPrefix shown.seen mid.seen
    → Grown start mid.seen end (seen_by last) → Grown start old.seen end (seen_by (all_looks showings ++ last))
grown start old [] shown mid end last walk to is = subst (λ (s : Seated). Grown start s.seen end (seen_by last)) walk (more-grown start shown mid end None last to tt is)
grown start old (s ∷ rest) shown mid end last walk to is =
    more-grown start old s.ticked end s.look (all_looks rest ++ last) (ticked start old s.acting.at s.ticked walk.0.ticks) walk.0.looks
    (grown start (seat_after s) rest shown mid end last walk.1 to is)

-- ---- the looks of a station as they are recorded

abbrev pub recorded_last : List (Option Seated) → List RecordedLook
recorded_last last = flat_map (recorded_look true) last

last-recorded : (last : List (Option Seated)) → seen_lists (recorded_last last) ≡ seen_by last
last-recorded [] = refl
last-recorded (None ∷ looks) = last-recorded looks
last-recorded (Some l ∷ looks) = ap (λ (lists : List (List Entry)). l.seen ∷ lists) (last-recorded looks)

all-recorded : (showings : List Showing) (last : List (Option Seated)) → seen_lists (recorded_by showings ++ recorded_last last) ≡ seen_by (all_looks showings ++ last)
all-recorded [] last = last-recorded last
all-recorded (s ∷ rest) last = by-look (all-recorded rest last) (is_shown s) s.look
  where
    by-look : seen_lists (recorded_by rest ++ recorded_last last) ≡ seen_by (all_looks rest ++ last)
        → (shown : Bool) (look : Option Seated) → seen_lists ((recorded_look shown look ++ recorded_by rest) ++ recorded_last last) ≡ seen_by (look ∷ (all_looks rest ++ last))
    by-look on shown None = on
    by-look on shown (Some l) = ap (λ (lists : List (List Entry)). l.seen ∷ lists) on

last-shown : (last : List (Option Seated)) → shown_lists (recorded_last last) ≡ seen_by last
last-shown [] = refl
last-shown (None ∷ looks) = last-shown looks
last-shown (Some l ∷ looks) = ap (λ (lists : List (List Entry)). l.seen ∷ lists) (last-shown looks)

-- those that are shown are the tables
pub shown-recorded : (showings : List Showing) (last : List (Option Seated)) → shown_lists (recorded_by showings ++ recorded_last last) ≡ seen_by (looks_of showings ++ last)
shown-recorded [] last = last-shown last
shown-recorded (s ∷ rest) last = by-look (shown-recorded rest last) (is_shown s) s.look
  where
    by-look : shown_lists (recorded_by rest ++ recorded_last last) ≡ seen_by (looks_of rest ++ last)
        → (shown : Bool) (look : Option Seated) → shown_lists ((recorded_look shown look ++ recorded_by rest) ++ recorded_last last) ≡ seen_by (cond shown look None ∷ (looks_of rest ++ last))
    by-look on true None = on
    by-look on true (Some l) = ap (λ (lists : List (List Entry)). l.seen ∷ lists) on
    by-look on false None = on
    by-look on false (Some l) = on

-- all looks of a station
pub looks-grow : (station : Station) (shows : Shows station) → Grown station.left.start station.begun.given.entries station.left.closing.reporter.seen (seen_lists (recorded_by shows.showings ++ recorded_last shows.last))
looks-grow station shows =
    let start = station.left.start in
    let none = station.left.hands_over || shows.broken_before in
    let first = newcomer station.begun.given.entries (length station.begun.sources) in
    let to_ended = begins-trans shows.shown.seen shows.looked.seen shows.ended.seen (later-prefix start shows.shown shows.looked shows.later)
    (hand-over-prefix start station.begun.duties shows.asked_at _ station.left.due shows.looked shows.ended shows.broken_before shows.asks) in
    let to = begins-trans shows.shown.seen shows.ended.seen shows.mid.seen to_ended (learned-prefix shows.ended station.left.closing.receivers shows.mid shows.learns) in
    subst (Grown start station.begun.given.entries station.left.closing.reporter.seen) (sym (all-recorded shows.showings shows.last))
    (grown start first shows.showings shows.shown shows.mid station.left.closing.reporter.seen shows.last shows.keeps.walk to
    (last-grown start shows.mid station.left.closing.reporter none shows.last shows.looks))

-- those that are shown grow where all do
shown-grow : (start : Start) (front end : List Entry) (looks : List RecordedLook) → Grown start front end (seen_lists looks) → Grown start front end (shown_lists looks)
shown-grow start front end [] is = is
shown-grow start front end (look ∷ later) is =
    by-look (shown-grow start look.seen end later (record { grows = is.grows.1; last = is.last; legal = All-tail (Legal start) look.seen (seen_lists later) is.legal })) look.is_shown
  where
    by-look : Grown start look.seen end (shown_lists later) → (shown : Bool) → Grown start front end (cond shown (look.seen ∷ shown_lists later) (shown_lists later))
    by-look rest true = record {
      grows = (is.grows.0, rest.grows);
      last = rest.last;
      legal = All-cons (Legal start) look.seen (shown_lists later) (All-head (Legal start) look.seen (seen_lists later) is.legal) rest.legal;
    }
    by-look rest false = record {
      grows = grows-from front look.seen (shown_lists later) is.grows.0 rest.grows;
      last = last-from front look.seen end (shown_lists later) is.grows.0 rest.last;
      legal = rest.legal;
    }

-- the tables of a station
pub tables-grow : (station : Station) (shows : Shows station) → Grown station.left.start station.begun.given.entries station.left.closing.reporter.seen (seen_by (looks_of shows.showings ++ shows.last))
tables-grow station shows =
    subst (Grown station.left.start station.begun.given.entries station.left.closing.reporter.seen) (shown-recorded shows.showings shows.last)
    (shown-grow station.left.start station.begun.given.entries station.left.closing.reporter.seen (recorded_by shows.showings ++ recorded_last shows.last) (looks-grow station shows))

-- what holds of each list between the first and the last
module _ (start : Start) (least end : List Entry) (P : List Entry → Type 0) (holds : (seen : List Entry) → IsPrefix least seen → IsPrefix seen end → Legal start seen → P seen) where
  pub all-so : (front : List Entry) (lists : List (List Entry)) → IsPrefix least front → Grows front lists → IsPrefix (last_after front lists) end → All (Legal start) lists → All P lists
  all-so front [] begins grows last legal = All-nil P
  all-so front (seen ∷ later) begins grows last legal =
      let from = begins-trans least front seen begins grows.0 in
      let to = begins-trans seen (last_after seen later) end (grows-last seen later grows.1) last in
      All-cons P seen later (holds seen from to (All-head (Legal start) seen later legal)) (all-so seen later from grows.1 last (All-tail (Legal start) seen later legal))

-- the table of these entries, as text
abbrev pub text_table : Start → List Entry → List ℕ
text_table start seen = text_of Text start seen

pub texts-seen : (start : Start) (looks : List (Option Seated)) → texts Text start looks ≡ flat_map (text_table start) (seen_by looks)
texts-seen start [] = refl
texts-seen start (None ∷ looks) = texts-seen start looks
texts-seen start (Some look ∷ looks) = ap (λ (bs : List ℕ). text_table start look.seen ++ bs) (texts-seen start looks)
