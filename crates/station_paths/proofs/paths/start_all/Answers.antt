use Rattle.std.proofs.Common.{rules, ◌≡◌, ◌∷◌, [], ◌++◌, Ok, append-nil, ap, arith, length, map, string_bytes, subst, sym, All}
use Rattle.std.specs.Vec.Iter.{into_iter_items}
use Rattle.std.proofs.lemmas.List.{length_push}
use Rattle.std.proofs.lemmas.List.Elements.{All-push}
use Rattle.station_portions.specs.Giving.{state_of}
use Rattle.station_paths.proofs.Common.{AreFed, path_of, HasNoLines}
use Rattle.station_paths.proofs.FedLemmas.{all_named, no_items, one_more_fed, one_more_named}
use Rattle.station_paths.proofs.paths.start_all.Goals as goal

pub loop-file-preserved : goal.loop-file-preserved
loop-file-preserved g c =
    let was = c.loop-file.invariant in
    let split : into_iter_items c.loop-file.file-iterator ≡ c.in-Some.file ∷ into_iter_items c.next.new.self = search rules in
    let thread_pushed : c.push.new.self.items ≡ c.loop-file.threads.items ++ c.in_ok-thread.thread ∷ [] = search rules in
    let input_pushed : c.push-else-is_err-2.new.self.items ≡ c.loop-file.inputs.items ++ c.in_ok-thread.input ∷ [] = search rules in
    let answer_pushed : c.push-else-is_err-3.new.self.items ≡ c.loop-file.answers.items ++ Ok c.new.result ∷ [] = search rules in
    let nothing : HasNoLines (Ok c.new.result) = search rules in
    record {
      inputs = omega (arith, was.inputs, ap length split, ap length input_pushed, length_push c.loop-file.inputs.items c.in_ok-thread.input);
      fed = one_more_fed (λ f. path_of f.opened) (λ t. t.handle.promise) _ _ _ _ _ c.in-Some.file _ _ c.in_ok-thread.thread c.in_ok-thread.input split thread_pushed input_pushed c.in_ok-thread.ensures.fed was.fed;
      named = one_more_named (λ f. string_bytes f.path.now) (λ t. string_bytes t.path.now) _ _ _ c.in-Some.file _ _ c.in_ok-thread.thread split thread_pushed (ap string_bytes c.in_ok-thread.ensures.named) was.named;
      answers = omega (arith, was.answers, ap length answer_pushed, ap length input_pushed, length_push c.loop-file.inputs.items c.in_ok-thread.input, length_push c.loop-file.answers.items (Ok c.new.result));
      none = subst (All HasNoLines) (sym answer_pushed) (All-push HasNoLines c.loop-file.answers.items (Ok c.new.result) was.none nothing);
    }

pub returns-clause-fed : goal.returns-clause-fed
returns-clause-fed g c =
    let none : into_iter_items c.loop-file.file-iterator ≡ [] = no_items _ (omega (arith, c.in-None.ensures.steps.0)) in
    let nothing : AreFed [] [] [] = tt in
    subst (λ ps. AreFed (map (λ f. path_of f.opened) c.args.files.items) ps (map state_of c.loop-file.inputs.items)) (append-nil (map (λ t. t.handle.promise) c.loop-file.threads.items))
    (subst (AreFed (map (λ f. path_of f.opened) c.args.files.items) (map (λ t. t.handle.promise) c.loop-file.threads.items ++ [])) (append-nil (map state_of c.loop-file.inputs.items))
    (c.loop-file.invariant.fed [] [] (subst (λ fs. AreFed (map (λ f. path_of f.opened) fs) [] []) (sym none) nothing)))

pub returns-clause-named : goal.returns-clause-named
returns-clause-named g c =
    let none : into_iter_items c.loop-file.file-iterator ≡ [] = no_items _ (omega (arith, c.in-None.ensures.steps.0)) in
    all_named (λ f. string_bytes f.path.now) (λ t. string_bytes t.path.now) _ _ (into_iter_items c.loop-file.file-iterator) none c.loop-file.invariant.named
