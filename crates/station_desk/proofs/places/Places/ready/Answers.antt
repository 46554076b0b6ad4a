use Rattle.std.proofs.Common.{◌≡◌, List, [], ◌∷◌, Option, length, rules, sym, ap, ◌∙◌, subst, arith}
use Rattle.std.specs.List.{AllByRecursion}
use Rattle.left_right.specs.Sides.{view}
use Rattle.station_journal.specs.Follow.{IsFirstUnsound}
use Rattle.station_book.specs.Matching.{Matches}
use Rattle.station_history.proofs.Common.{base_of, Start}
use Rattle.station_desk.proofs.Common.{IsOf, Prepared, Mark}
use Rattle.station_desk.proofs.RoomLemmas.{copy_fits}
use Rattle.station_desk.proofs.StartLemmas.{sound_at, unsound_at}
use Rattle.station_desk.proofs.places.Places.ready.Goals as goal

-- what holds of one view holds of all that are equal to it
all_of : {X : Type 0} (P : Option Mark → Type 0) (see : X → Option Mark) (known : Option Mark) (xs : List X) → P known → AllByRecursion (λ x. see x ≡ known) xs → AllByRecursion (λ x. P (see x)) xs
all_of P see known [] p all = tt
all_of P see known (x ∷ xs) p all = (subst P (sym all.0) p, all_of P see known xs p all.1)

pub returns-in-Err-clause-err : goal.returns-in-Err-clause-err
returns-in-Err-clause-err g c =
    let base : c.self.inside.base ≡ base_of c.args.self.history = sym c.self.invariant.4 ∙ ap (λ (p : Prepared). base_of p.history) c.self.view_is in
    let out : IsFirstUnsound g.row.N (base_of c.args.self.history) c.args.entries.now c.in-Err.place = subst (λ k. IsFirstUnsound g.row.N k c.args.entries.now c.in-Err.place) base c.in-Err.ensures.err in
    (c.requires.few.0, unsound_at c.args.limits g.row.N (base_of c.args.self.history) c.in-Err.place c.args.entries.now c.requires.aircraft c.requires.few.0 out)

pub returns-in-Ok-with_places-clause-places : goal.returns-in-Ok-with_places-clause-places
returns-in-Ok-with_places-clause-places g c =
    let start : Start = record { history = c.args.self.history; limits = c.args.limits; resumed = length c.args.entries.now } in
    let of : IsOf start (view c.in-Ok.publisher.desk.place) = search rules in
    let made = c.in-Ok-with_places.ensures.places in
    (made.0 ∙ (c.len-count.ensures ∙ ap (λ (p : Prepared). p.places) c.self.view_is), all_of (IsOf start) (λ p. view p.place) _ c.in-Ok-with_places.places.items of made.1)

pub returns-in-Err-with_places-clause-err : goal.returns-in-Err-with_places-clause-err
returns-in-Err-with_places-clause-err g c =
    let base : c.self.inside.base ≡ base_of c.args.self.history = sym c.self.invariant.4 ∙ ap (λ (p : Prepared). base_of p.history) c.self.view_is in
    let matched : Matches g.row.N (base_of c.args.self.history) c.in-Ok.publisher.desk.shown.value.book c.args.entries.now = subst (λ k. Matches g.row.N k c.in-Ok.publisher.desk.shown.value.book c.args.entries.now) base c.in-Ok.ensures.matched in
    sound_at c.args.limits g.row.N (base_of c.args.self.history) c.args.entries.now c.requires.aircraft c.requires.few.0 matched.sound

pub begin-requires : goal.begin-requires
begin-requires g c = (copy_fits g.row.N (omega (arith, c.self.inside.small)), search rules)

pub with_places-requires : goal.with_places-requires
with_places-requires g c = (copy_fits g.row.N (omega (arith, c.self.inside.small)), search rules)
