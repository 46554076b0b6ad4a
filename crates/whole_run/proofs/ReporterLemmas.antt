-- What the reporter of a station did, and what its last table shows.
use Rattle.std.proofs.Common.{◌≡◌, ◌∙◌, ◌||◌, inl, inr, ℕ, Bool, true, false, List, [], ◌∷◌, ◌++◌, All, IfSome, Option, Some, None, ap, length, map, refl, subst, sym, unwrap_or}
use Rattle.std.proofs.lemmas.List.Elements.{All-cons, All-nil}
use mathlib.Core.List.{IsPrefix}
use Rattle.station_journal.specs.declared.entry.Entry.{Entry}
use Rattle.station_history.specs.Start.{Start}
use Rattle.station_shared.specs.Seats.{Seated, Looks, newcomer}
use Rattle.station_reporter.proofs.PrefixLemmas.{begins-same, begins-trans}
use Rattle.station_reporter.proofs.Common.{IsLater, MayHandOver, Showing, Showings, seat_after, seen_by}
use Rattle.station_reporter.specs.Reporter.{Acting}
use Rattle.station_reporter.specs.declared.duties.Duties.{Duties}
use Rattle.station_reporter.specs.declared.schedule.Due.{Due}
use Rattle.station_run.proofs.Common.{LastLook, LearnsFrom, Shows, Station}
use Rattle.shown_again.proofs.LookLemmas.{learned-prefix}
use Rattle.whole_run.specs.Accounted.{asked_time, tick_times}
use Rattle.whole_run.proofs.DeedLemmas.{TicksAt, learns-still, looks-still, ticks-none, ticks-once, ticks-still, ticks-then}

-- ---- its ticks

after-look : (start : Start) (old ticked : Seated) (times : List ℕ) (look : Option Seated) → TicksAt start old times ticked → IfSome look (λ l. Looks start ticked l) → TicksAt start old times (unwrap_or look ticked)
after-look start old ticked times None ticks looks = ticks
after-look start old ticked times (Some l) ticks looks = ticks-still start old ticked l times ticks (looks-still start ticked l looks)

shown-ticks : (start : Start) (old : Seated) (showings : List Showing) (new : Seated) → Showings start old showings new → TicksAt start old (map (λ (showing : Showing). showing.acting.at) showings) new
shown-ticks start old [] new walk = ticks-none start old new walk
shown-ticks start old (showing ∷ showings) new walk =
    let at = showing.acting.at in
    ticks-then start old (seat_after showing) new (at ∷ []) (map (λ (s : Showing). s.acting.at) showings)
    (after-look start old showing.ticked (at ∷ []) showing.look (ticks-once start old showing.ticked at walk.0.ticks) walk.0.looks)
    (shown-ticks start (seat_after showing) showings new walk.1)

later-still : (start : Start) (old new : Seated) → IsLater start old new → TicksAt start old [] new
later-still start old new (inl same) = ticks-none start old new same
later-still start old new (inr looks) = looks-still start old new looks

hand-over-ticks : (start : Start) (duties : Duties) (asked_at : Option ℕ) (due next : Due) (old new : Seated) (failed : Bool) → MayHandOver start duties asked_at due next old new failed → TicksAt start old (asked_time asked_at) new
hand-over-ticks start duties None due next old new failed is = ticks-none start old new is.0
hand-over-ticks start duties (Some at) due next old new failed is = ticks-once start old new at is.ticks

learned-still : (start : Start) (old : Seated) (seats : List Seated) (new : Seated) → LearnsFrom old seats new → TicksAt start old [] new
learned-still start old [] new same = ticks-none start old new same
learned-still start old (seat ∷ seats) new (mid, learned, rest) =
    ticks-still start old mid new [] (learns-still start old mid seat.seen learned) (learned-still start mid seats new rest)

last-still : (start : Start) (mid closing : Seated) (none : Bool) (looks : List (Option Seated)) → LastLook start mid closing none looks → TicksAt start mid [] closing
last-still start mid closing true looks is = ticks-none start mid closing is.1
last-still start mid closing false looks is =
    subst (λ (s : Seated). TicksAt start mid [] s) is.2 (after-look start mid mid [] is.0 (ticks-none start mid mid refl) is.3)

acting-times : (showings : List Showing) → map (λ (showing : Showing). showing.acting.at) showings ≡ map (λ (acting : Acting). acting.at) (map (λ (showing : Showing). showing.acting) showings)
acting-times [] = refl
acting-times (showing ∷ showings) = ap (λ (ts : List ℕ). showing.acting.at ∷ ts) (acting-times showings)

pub reporter-ticks : (station : Station) (shows : Shows station) → TicksAt station.left.start (newcomer station.begun.given.entries (length station.begun.sources)) (tick_times station shows) station.left.closing.reporter
reporter-ticks station shows =
    let start = station.left.start in
    let first = newcomer station.begun.given.entries (length station.begun.sources) in
    let none = station.left.hands_over || shows.broken_before in
    let times = map (λ (showing : Showing). showing.acting.at) shows.showings in
    let shown = shown-ticks start first shows.showings shows.shown shows.keeps.walk in
    let looked = ticks-still start first shows.shown shows.looked times shown (later-still start shows.shown shows.looked shows.later) in
    let asked = ticks-then start first shows.looked shows.ended times (asked_time shows.asked_at) looked
    (hand-over-ticks start station.begun.duties shows.asked_at _ station.left.due shows.looked shows.ended shows.broken_before shows.asks) in
    let all = times ++ asked_time shows.asked_at in
    let learned = ticks-still start first shows.ended shows.mid all asked (learned-still start shows.ended station.left.closing.receivers shows.mid shows.learns) in
    let last = ticks-still start first shows.mid station.left.closing.reporter all learned (last-still start shows.mid station.left.closing.reporter none shows.last shows.looks) in
    let same = acting-times shows.showings ∙ ap (map (λ (acting : Acting). acting.at)) shows.keeps.acts in
    subst (λ (ts : List ℕ). TicksAt start first (ts ++ asked_time shows.asked_at) station.left.closing.reporter) same last

-- ---- its last table

-- it has seen what each of the seats had seen
told-all : (old : Seated) (seats : List Seated) (new : Seated) → LearnsFrom old seats new → All (λ (s : Seated). IsPrefix s.seen new.seen) seats
told-all old [] new same = All-nil (λ (s : Seated). IsPrefix s.seen new.seen)
told-all old (seat ∷ seats) new (mid, learned, rest) =
    All-cons (λ (s : Seated). IsPrefix s.seen new.seen) seat seats (begins-trans seat.seen mid.seen new.seen learned.told (learned-prefix mid seats new rest)) (told-all mid seats new rest)

last-prefix : (start : Start) (mid closing : Seated) (none : Bool) (looks : List (Option Seated)) → LastLook start mid closing none looks → IsPrefix mid.seen closing.seen
last-prefix start mid closing true looks is = begins-same mid.seen closing.seen (ap (λ (s : Seated). s.seen) (sym is.1))
last-prefix start mid closing false looks is = by-look is.0 is.2 is.3
  where
    by-look : (look : Option Seated) → unwrap_or look mid ≡ closing → IfSome look (λ l. Looks start mid l) → IsPrefix mid.seen closing.seen
    by-look None same looked = begins-same mid.seen closing.seen (ap (λ (s : Seated). s.seen) same)
    by-look (Some l) same looked = subst (λ (s : Seated). IsPrefix mid.seen s.seen) same looked.later

-- at the close the reporter has seen all that each seat has seen
pub reporter-told : (station : Station) (shows : Shows station) → All (λ (s : Seated). IsPrefix s.seen station.left.closing.reporter.seen) (station.left.closing.reporter ∷ station.left.closing.receivers)
reporter-told station shows =
    let reporter = station.left.closing.reporter in
    let receivers = station.left.closing.receivers in
    let none = station.left.hands_over || shows.broken_before in
    let to = last-prefix station.left.start shows.mid reporter none shows.last shows.looks in
    All-cons (λ (s : Seated). IsPrefix s.seen reporter.seen) reporter receivers (begins-same reporter.seen reporter.seen refl)
    (later-all receivers (told-all shows.ended receivers shows.mid shows.learns) to)
  where
    later-all : (seats : List Seated) → All (λ (s : Seated). IsPrefix s.seen shows.mid.seen) seats → IsPrefix shows.mid.seen station.left.closing.reporter.seen → All (λ (s : Seated). IsPrefix s.seen station.left.closing.reporter.seen) seats
    later-all seats told to = λ k d inside. begins-trans _ shows.mid.seen station.left.closing.reporter.seen (told k d inside) to

-- a last look has seen what the reporter has seen at the close
pub last-seen : (start : Start) (mid closing : Seated) (none : Bool) (looks : List (Option Seated)) → LastLook start mid closing none looks → All (λ (seen : List Entry). seen ≡ closing.seen) (seen_by looks)
last-seen start mid closing true looks is = subst (λ (ls : List (Option Seated)). All (λ (seen : List Entry). seen ≡ closing.seen) (seen_by ls)) (sym is.0) (All-nil (λ (seen : List Entry). seen ≡ closing.seen))
last-seen start mid closing false looks is = subst (λ (ls : List (Option Seated)). All (λ (seen : List Entry). seen ≡ closing.seen) (seen_by ls)) (sym is.1) (by-look is.0 is.2)
  where
    by-look : (look : Option Seated) → unwrap_or look mid ≡ closing → All (λ (seen : List Entry). seen ≡ closing.seen) (seen_by (look ∷ []))
    by-look None same = All-nil (λ (seen : List Entry). seen ≡ closing.seen)
    by-look (Some l) same = All-cons (λ (seen : List Entry). seen ≡ closing.seen) l.seen [] (ap (λ (s : Seated). s.seen) same) (All-nil (λ (seen : List Entry). seen ≡ closing.seen))
