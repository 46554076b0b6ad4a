use Rattle.std.proofs.Common.{rules, ◌≡◌, ◌∷◌, [], ◌++◌, ⊎_elim, ap, arith, length, map, sym}
use Rattle.std.specs.Vec.Iter.{into_iter_items}
use Rattle.station_portions.specs.Giving.{state_of}
use Rattle.station_paths.proofs.FedLemmas.{no_items}
use Rattle.station_run.proofs.PartLemmas.{all_done, all_sums, one_more, one_more_sum, rest_answered}
use Rattle.station_run.proofs.stage.ending.part.Goals as goal

pub loop-receiver-preserved-in_ok-push-4 : goal.loop-receiver-preserved-in_ok-push-4
loop-receiver-preserved-in_ok-push-4 g c =
    let was = c.loop-receiver.invariant in
    let split : into_iter_items c.loop-receiver.receiver-iterator.a ≡ c.in-Some.receiver ∷ into_iter_items c.next.new.self.a = search rules in
    let split_before : into_iter_items c.loop-receiver.receiver-iterator.b ≡ c.in-Some.before ∷ into_iter_items c.next.new.self.b = search rules in
    let seat_pushed : c.push-in-loop-receiver.new.self.items ≡ c.loop-receiver.seats.items ++ c.in-Some.receiver.seat ∷ [] = search rules in
    let input_pushed : c.push-in-loop-receiver-2.new.self.items ≡ c.loop-receiver.inputs.items ++ c.in-Some.receiver.source ∷ [] = search rules in
    let sum_pushed : c.push-in-loop-receiver-3.new.self.items ≡ c.loop-receiver.answers.items ++ c.added.result ∷ [] = search rules in
    record {
      seats = one_more (λ r. r.seat) _ _ _ c.in-Some.receiver _ _ split seat_pushed was.seats;
      inputs = one_more (λ r. r.source) _ _ _ c.in-Some.receiver _ _ split input_pushed was.inputs;
      many = omega (arith, ap length split, ap length split_before, was.many);
      answered = rest_answered (λ r. r.answer) _ _ c.in-Some.receiver split was.answered;
      sums = one_more_sum (λ r. r.answer) _ _ _ _ c.in-Some.before _ _ c.in-Some.receiver c.in-Some-answer.answer c.added.result _ _ split_before split c.in-Some-answer.is c.added.ensures sum_pushed was.sums;
    }

pub loop-receiver-preserved : goal.loop-receiver-preserved
loop-receiver-preserved g c =
    let was = c.loop-receiver.invariant in
    let split : into_iter_items c.loop-receiver.receiver-iterator.a ≡ c.in-Some.receiver ∷ into_iter_items c.next.new.self.a = search rules in
    let split_before : into_iter_items c.loop-receiver.receiver-iterator.b ≡ c.in-Some.before ∷ into_iter_items c.next.new.self.b = search rules in
    let seat_pushed : c.push-in-loop-receiver.new.self.items ≡ c.loop-receiver.seats.items ++ c.in-Some.receiver.seat ∷ [] = search rules in
    let input_pushed : c.push-in-loop-receiver-2.new.self.items ≡ c.loop-receiver.inputs.items ++ c.in-Some.receiver.source ∷ [] = search rules in
    let sum_pushed : c.push-in-loop-receiver-3.new.self.items ≡ c.loop-receiver.answers.items ++ c.added.result ∷ [] = search rules in
    record {
      seats = one_more (λ r. r.seat) _ _ _ c.in-Some.receiver _ _ split seat_pushed was.seats;
      inputs = one_more (λ r. r.source) _ _ _ c.in-Some.receiver _ _ split input_pushed was.inputs;
      many = omega (arith, ap length split, ap length split_before, was.many);
      answered = rest_answered (λ r. r.answer) _ _ c.in-Some.receiver split was.answered;
      sums = one_more_sum (λ r. r.answer) _ _ _ _ c.in-Some.before _ _ c.in-Some.receiver c.in-Some-answer.answer c.added.result _ _ split_before split c.in-Some-answer.is c.added.ensures sum_pushed was.sums;
    }

pub returns-clause-seats : goal.returns-clause-seats
returns-clause-seats g c =
    let a = into_iter_items c.loop-receiver.receiver-iterator.a in
    let b = into_iter_items c.loop-receiver.receiver-iterator.b in
    let none : into_iter_items c.loop-receiver.receiver-iterator.a ≡ [] =
    ⊎_elim (λ p. no_items a (omega (arith, p.1.0)))
    (λ p. no_items a (omega (arith, c.loop-receiver.invariant.many, p.1.0)))
    c.in-None.ensures.steps in
    all_done (λ r. r.seat) _ _ (into_iter_items c.loop-receiver.receiver-iterator.a) none c.loop-receiver.invariant.seats

pub returns-clause-inputs : goal.returns-clause-inputs
returns-clause-inputs g c =
    let a = into_iter_items c.loop-receiver.receiver-iterator.a in
    let b = into_iter_items c.loop-receiver.receiver-iterator.b in
    let none : into_iter_items c.loop-receiver.receiver-iterator.a ≡ [] =
    ⊎_elim (λ p. no_items a (omega (arith, p.1.0)))
    (λ p. no_items a (omega (arith, c.loop-receiver.invariant.many, p.1.0)))
    c.in-None.ensures.steps in
    ap (map state_of) (all_done (λ r. r.source) _ _ (into_iter_items c.loop-receiver.receiver-iterator.a) none c.loop-receiver.invariant.inputs)

pub returns-clause-sums : goal.returns-clause-sums
returns-clause-sums g c =
    let a = into_iter_items c.loop-receiver.receiver-iterator.a in
    let b = into_iter_items c.loop-receiver.receiver-iterator.b in
    let none : into_iter_items c.loop-receiver.receiver-iterator.a ≡ [] =
    ⊎_elim (λ p. no_items a (omega (arith, p.1.0)))
    (λ p. no_items a (omega (arith, c.loop-receiver.invariant.many, p.1.0)))
    c.in-None.ensures.steps in
    all_sums (λ r. r.answer) _ _ _ (into_iter_items c.loop-receiver.receiver-iterator.b) (into_iter_items c.loop-receiver.receiver-iterator.a) (no_items _ (omega (arith, sym c.loop-receiver.invariant.many, ap length none))) none c.loop-receiver.invariant.sums
