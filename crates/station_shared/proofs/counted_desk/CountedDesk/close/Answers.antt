use Rattle.std.proofs.Common.{◌≡◌, ◌+◌, ◌≤◌, List, [], ◌∷◌, ◌++◌, length, arith, append_assoc, append-nil, refl, sym, ap, subst, ◌∙◌, vec_len, sum_by}
use Rattle.std.specs.List.{AllByRecursion}
use Rattle.std.proofs.lemmas.List.{nil_from_length}
use Rattle.std.proofs.lemmas.List.Sums.{sum_by-cons}
use mathlib.Core.List.{IsPrefix}
use Rattle.station_journal.specs.declared.entry.Entry.{Entry}
use Rattle.station_journal.specs.Log.{Log, IsLegal}
use Rattle.station_shared.proofs.Common.{Backed, Closes, Seated, Account, account_of, count_of_seat, own_entries}
use Rattle.station_desk.proofs.Common.{PublishedState}
use Rattle.station_history.proofs.Common.{log_of}
use Rattle.station_shared.proofs.CountLemmas.{count_own}
use Rattle.station_shared.proofs.CloseLemmas.{closes}
use Rattle.station_shared.proofs.counted_desk.CountedDesk.close.Goals as goal

pub covers-requires : goal.covers-requires
covers-requires g c = (omega arith, c.into_parts-share.ensures.front.0 ∙ sym (ap (λ (s : PublishedState). s.history) c.loop-seat.invariant.5 ∙ c.self.invariant.2))

pub loop-seat-init : goal.loop-seat-init
loop-seat-init g c = ([], sym (append-nil c.args.seats.items), tt, c.self.invariant.3, c.self.invariant.4, refl)

pub loop-seat-preserved : goal.loop-seat-preserved
loop-seat-preserved g c =
    let i = c.loop-seat.invariant in
    let seat = c.in-Some.seat in
    let es = c.covers.new.self.log.entries in
    let is : c.into_account-account.result ≡ account_of seat = c.into_account-account.ensures in
    let parts = c.into_parts-share.ensures in
    let same = c.covers.ensures.same in
    let seen : IsPrefix seat.seen es = subst (λ (l : List Entry). IsPrefix l es) (parts.front.1 ∙ ap (λ (s : Account). s.seen) is) c.covers.ensures.begins in
    let counted : seat.accepted ≤ count_of_seat seat.number (own_entries g.L.StationName.start seat.seen) = subst (λ (s : Account). s.accepted ≤ count_of_seat s.number (own_entries g.L.StationName.start s.seen)) is parts.counted in
    let amount = parts.share.1 ∙ ap (λ (s : Account). s.accepted) is in
    let items : c.args.seats.items ≡ c.pop.new.self.items ++ (seat ∷ i.0) = i.1 ∙ (ap (λ (l : List Seated). l ++ i.0) c.in-Some.ensures.items ∙ append_assoc c.pop.new.self.items (seat ∷ []) i.0) in (
      seat ∷ i.0,
      items,
      ((seen, omega (arith, counted, count_own g.L.StationName.start seat.number seat.seen es seen)), subst (λ (s : PublishedState). AllByRecursion (Backed g.L.StationName.start s.log.entries) i.0) (sym same) i.2),
      omega (arith, c.merge.ensures.parts, parts.share.0, i.3),
      omega (arith, c.merge.ensures.amount, amount, i.4, sum_by-cons (λ (s : Seated). s.accepted) seat i.0),
      same ∙ i.5,
    )

pub returns : goal.returns
returns g c =
    let i = c.loop-seat.invariant in
    let log = c.self.inside.desk.log in
    let es = log.entries in
    let same : c.loop-seat.desk ≡ c.self.inside.desk = i.5 in
    let none : vec_len c.loop-seat.seats ≡ 0 = c.in_default.ensures.cases.0 in
    let empty : c.loop-seat.seats.items ≡ [] = nil_from_length c.loop-seat.seats.items (omega (arith, none, c.loop-seat.seats.ok.0)) in
    let all : c.args.seats.items ≡ i.0 = i.1 ∙ ap (λ (l : List Seated). l ++ i.0) empty in
    let backed : AllByRecursion (Backed g.L.StationName.start es) c.args.seats.items = subst (λ (s : PublishedState). AllByRecursion (Backed g.L.StationName.start s.log.entries) c.args.seats.items) same (subst (λ (l : List Seated). AllByRecursion (Backed g.L.StationName.start c.loop-seat.desk.log.entries) l) (sym all) i.2) in
    let parts : c.loop-seat.rest.parts ≡ g.L.Ledger.parts = i.3 ∙ (ap (λ (l : List Seated). length l) (sym all) ∙ (c.requires.as_many ∙ sym c.self.invariant.5)) in
    let sum : sum_by (λ (s : Seated). s.accepted) c.args.seats.items ≡ c.self.inside.total.total = ap (λ (l : List Seated). sum_by (λ (s : Seated). s.accepted) l) all ∙ (sym i.4 ∙ c.audit.ensures.whole parts) in
    let total : g.L.StationName.start.resumed + sum_by (λ (s : Seated). s.accepted) c.args.seats.items ≡ length es = ap (λ k. g.L.StationName.start.resumed + k) sum ∙ c.self.invariant.0 in
    let under : log ≡ log_of g.L.StationName.start es = c.self.invariant.1 in
    let legal : IsLegal (log_of g.L.StationName.start es) = subst (λ (l : Log). IsLegal l) under c.front-known.ensures.legal in
    let given : c.end.result.log ≡ log = c.end.ensures ∙ ap (λ (s : PublishedState). s.log) same in
    record {
      log = given ∙ (under ∙ ap (λ (l : Log). log_of g.L.StationName.start l.entries) (sym given));
      closes = subst (λ (l : Log). Closes g.L.StationName.start g.L.StationName.seats l.entries c.args.seats.items) (sym given) (closes g.L.StationName.start es g.L.StationName.seats c.args.seats.items legal c.requires backed total);
    }
