use Rattle.std.proofs.Common.{◌≡◌, ◌∙◌, arith, inl, inr, is_some, refl, subst, sym, true}
use Rattle.messages.proofs.Common.{Tells, fault_line, told_of}
use Rattle.station_run.proofs.Common.{Streams, left_of, streams_of}
use Rattle.station_run.proofs.StationLemmas.{ends_well, over, round_over}
use Rattle.station_run.proofs.next_station.end_round.Goals as goal

pub returns-then-rounds_left-eq0-clause-end : goal.returns-then-rounds_left-eq0-clause-end
returns-then-rounds_left-eq0-clause-end g c = λ plan start reporter receivers counted named known displays stop log.
    let left = left_of c.args.closed start reporter receivers counted in
    let old : Streams = streams_of c.args.closed.out c.args.closed.beside.record (told_of g.E.Write.contents c.args.err.now) in
    let round = round_over plan left _ _ (is_some c.stopped-stopped.result) _ _ _ _ _ c.requires.over (λ yes. subst (λ s. is_some s ≡ true) (sym stop) (c.stopped-stopped.ensures yes)) named known (rw c.is_broken.ensures at c.tell_end-told.ensures.told) (rw c.is_broken.ensures at c.tell_end-told.ensures.value) c.tell_ends-status.ensures.ends in
    over plan left old _ _ _ _ _ _ _ round.0 (inl (inl (omega (arith, c.if-rounds_left-eq0.true)), refl, refl)) (rw (sym displays) at c.end_run.ensures.closes)

pub returns-then-status-gt0-clause-end : goal.returns-then-status-gt0-clause-end
returns-then-status-gt0-clause-end g c = λ plan start reporter receivers counted named known displays stop log.
    let left = left_of c.args.closed start reporter receivers counted in
    let old : Streams = streams_of c.args.closed.out c.args.closed.beside.record (told_of g.E.Write.contents c.args.err.now) in
    let round = round_over plan left _ _ (is_some c.stopped-stopped.result) _ _ _ _ _ c.requires.over (λ yes. subst (λ s. is_some s ≡ true) (sym stop) (c.stopped-stopped.ensures yes)) named known (rw c.is_broken.ensures at c.tell_end-told.ensures.told) (rw c.is_broken.ensures at c.tell_end-told.ensures.value) c.tell_ends-status.ensures.ends in
    over plan left old _ _ _ _ _ _ _ round.0 (inl (inr (inl (omega (arith, c.tell_ends-status.ensures.most, c.if-status-gt0.true))), refl, refl)) (rw (sym displays) at c.end_run-then-status-gt0.ensures.closes)

pub returns-then-is_some-clause-end : goal.returns-then-is_some-clause-end
returns-then-is_some-clause-end g c = λ plan start reporter receivers counted named known displays stop log.
    let left = left_of c.args.closed start reporter receivers counted in
    let old : Streams = streams_of c.args.closed.out c.args.closed.beside.record (told_of g.E.Write.contents c.args.err.now) in
    let round = round_over plan left _ _ (is_some c.stopped-stopped.result) _ _ _ _ _ c.requires.over (λ yes. subst (λ s. is_some s ≡ true) (sym stop) (c.stopped-stopped.ensures yes)) named known (rw c.is_broken.ensures at c.tell_end-told.ensures.told) (rw c.is_broken.ensures at c.tell_end-told.ensures.value) c.tell_ends-status.ensures.ends in
    over plan left old _ _ _ _ _ _ _ round.0 (inl (inr (inr (round.1 ∙ sym c.is_some.ensures ∙ c.if-is_some.true)), refl, refl)) (rw (sym displays) at c.end_run-then-is_some.ensures.closes)

pub returns-in-Err-clause-end : goal.returns-in-Err-clause-end
returns-in-Err-clause-end g c = λ plan start reporter receivers counted named known displays stop log.
    let left = left_of c.args.closed start reporter receivers counted in
    let old : Streams = streams_of c.args.closed.out c.args.closed.beside.record (told_of g.E.Write.contents c.args.err.now) in
    let round = round_over plan left _ _ (is_some c.stopped-stopped.result) _ _ _ _ _ c.requires.over (λ yes. subst (λ s. is_some s ≡ true) (sym stop) (c.stopped-stopped.ensures yes)) named known (rw c.is_broken.ensures at c.tell_end-told.ensures.told) (rw c.is_broken.ensures at c.tell_end-told.ensures.value) c.tell_ends-status.ensures.ends in
    over plan left old _ _ _ _ _ _ _ round.0
    (inr (omega (arith, c.if-status-gt0.false), subst (λ f. Tells (told_of g.E.Write.contents c.tell_ends-status.new.err) (told_of g.E.Write.contents c.tell-status.new.err) (fault_line f)) c.in-Err.ensures.no_memory c.tell-status.ensures.told, c.tell-status.ensures.status))
    (rw (c.in-Err.ensures.same, sym displays) at c.end_run-in-Err.ensures.closes)

pub returns-clause-end : goal.returns-clause-end
returns-clause-end g c = λ plan start reporter receivers counted named known displays stop log.
    let left = left_of c.args.closed start reporter receivers counted in
    let old : Streams = streams_of c.args.closed.out c.args.closed.beside.record (told_of g.E.Write.contents c.args.err.now) in
    let round = round_over plan left _ _ (is_some c.stopped-stopped.result) _ _ _ _ _ c.requires.over (λ yes. subst (λ s. is_some s ≡ true) (sym stop) (c.stopped-stopped.ensures yes)) named known (rw c.is_broken.ensures at c.tell_end-told.ensures.told) (rw c.is_broken.ensures at c.tell_end-told.ensures.value) c.tell_ends-status.ensures.ends in
    let none : c.tell_ends-status.result ≡ 0 = omega (arith, c.if-status-gt0.false) in
    (omega (arith, c.if-rounds_left-eq0.false), ends_well plan left _ _ _ none round.0 (round.1 ∙ sym c.is_some.ensures ∙ c.if-is_some.false), c.in-Ok.ensures.kept start log, refl)
