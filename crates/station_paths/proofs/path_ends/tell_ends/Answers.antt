use Rattle.std.proofs.Common.{rules, ◌≡◌, ◌∙◌, ◌∷◌, [], ⊎_elim, ap, arith, is_some, length, map, max, string_bytes, sym}
use Rattle.std.specs.Vec.Iter.{into_iter_items}
use Rattle.std.proofs.lemmas.Grind.{common_steps}
use Rattle.std.proofs.lemmas.List.{length-map}
use Rattle.station_portions.specs.Giving.{state_of}
use Rattle.station_paths.proofs.FedLemmas.{first_take, no_items, take_length}
use Rattle.station_paths.proofs.PathEndLemmas.{ends-all, ends-more, ends-none}
use Rattle.station_paths.proofs.path_ends.tell_ends.Goals as goal

pub tell_end_of-requires : goal.tell_end_of-requires
tell_end_of-requires g c =
    let split : into_iter_items c.loop-input.input-iterator.a ≡ c.in-Some.input ∷ into_iter_items c.next.new.self.a = search rules in
    let threads_split : into_iter_items c.loop-input.input-iterator.b ≡ c.in-Some.thread ∷ into_iter_items c.next.new.self.b = search rules in
    record { take = (first_take (λ t. t.handle.promise) _ _ c.in-Some.thread _ _ c.in-Some.input threads_split split c.loop-input.invariant.take).0 }

pub loop-input-init : goal.loop-input-init
loop-input-init g c =
    let inputs_are : into_iter_items c.into_iter-input-iterator.result.a ≡ c.args.inputs.items = search rules in
    let threads_are : into_iter_items c.into_iter-input-iterator.result.b ≡ c.args.threads.items = search rules in
    record {
      take = rw (inputs_are, threads_are) c.requires.take;
      most = c.requires.before;
      so_far = rw (inputs_are, threads_are) (ends-none _ _ _ _ _ _ _);
    }

pub loop-input-preserved : goal.loop-input-preserved
loop-input-preserved g c =
    let was = c.loop-input.invariant in
    let split : into_iter_items c.loop-input.input-iterator.a ≡ c.in-Some.input ∷ into_iter_items c.next.new.self.a = search rules in
    let threads_split : into_iter_items c.loop-input.input-iterator.b ≡ c.in-Some.thread ∷ into_iter_items c.next.new.self.b = search rules in
    let one = c.tell_end_of.ensures in
    let new_is : c.max-status.result ≡ max c.loop-input.status c.tell_end_of.result = grind (arith, common_steps) in
    record {
      take = (first_take (λ t. t.handle.promise) _ _ c.in-Some.thread _ _ c.in-Some.input threads_split split was.take).1;
      most = omega (arith, new_is, was.most, one.most);
      so_far = ends-more (is_some c.args.stopped) (λ t. string_bytes t.path.now) (λ t. g.I.Read.remaining t.handle.promise.from.value) _ _ _ c.in-Some.thread _ _ _ c.in-Some.input _ _ _ _ _ _ _ threads_split split c.requires.before one.most one.whole one.unfinished one.told new_is was.so_far;
    }

pub returns-clause-ends : goal.returns-clause-ends
returns-clause-ends g c =
    let a = into_iter_items c.loop-input.input-iterator.a in
    let b = into_iter_items c.loop-input.input-iterator.b in
    let so_far = c.loop-input.invariant.so_far in
    let many : length b ≡ length a = sym (length-map b (λ t. t.handle.promise)) ∙ take_length (map (λ t. t.handle.promise) b) (map state_of a) c.loop-input.invariant.take ∙ length-map a state_of in
    let none : into_iter_items c.loop-input.input-iterator.a ≡ [] =
    ⊎_elim (λ p. no_items a (omega (arith, p.1.0))) (λ p. no_items a (omega (arith, many, p.1.0))) c.in-None.ensures.steps in
    (so_far.unfinished, ends-all _ _ _ _ b _ a _ _ _ _ (no_items b (omega (arith, many, ap length none))) none so_far, so_far.told, so_far.status_is)
