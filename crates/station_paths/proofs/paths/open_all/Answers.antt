use Rattle.std.proofs.Common.{rules, ◌≡◌, ◌+◌, ◌<◌, ◌∙◌, ◌∷◌, [], ◌++◌, List, ℕ, ap, ap₂, arith, get_or, length, map, sym, Contains, string_bytes}
use Rattle.std.proofs.lemmas.List.{get_or-map, length-map, length_push, map_more, map_push}
use Rattle.std.proofs.lemmas.Result.{err_from_is_err_and}
use Rattle.station_paths.specs.Inputs.{path_of}
use Rattle.station_paths.proofs.paths.open_all.Goals as goal

pub returns-in_err-file-clause-unopened : goal.returns-in_err-file-clause-unopened
returns-in_err-file-clause-unopened g c =
    let paths = c.args.paths.now.items in
    let i = c.loop-path.path-index in
    let path = c.path-item.result in
    let inside : i < length paths = omega (arith, ap length c.deref-path-items.ensures.value) in
    let at : path ≡ get_or paths i path = cc in
    let there : Contains (map string_bytes paths) (string_bytes path) =
    (i, omega (arith, inside, length-map paths string_bytes), get_or-map string_bytes paths i path (string_bytes path) inside ∙ ap string_bytes (sym at)) in
    let gone = err_from_is_err_and c.from_residual.result c.from_residual.ensures.1 in
    rw (gone.1, gone.2) (c.in_err-file.ensures.unopened (map string_bytes paths) there)

pub loop-path-preserved : goal.loop-path-preserved
loop-path-preserved g c =
    let paths = c.args.paths.now.items in
    let before = c.loop-path.files.items in
    let file = c.in_ok-file.file in
    let i = c.loop-path.path-index in
    let path = c.path-item.result in
    let inside : i < length paths = omega (arith, ap length c.deref-path-items.ensures.value) in
    let at : path ≡ get_or paths i path = cc in
    let pushed : c.push.new.self.items ≡ before ++ file ∷ [] = search rules in
    record {
      opened = ap (map (λ f. path_of f.opened)) pushed ∙ map_push (λ f. path_of f.opened) before file ∙ ap₂ (λ (l : List (List ℕ)) (p : List ℕ). l ++ p ∷ []) c.loop-path.invariant.opened (c.in_ok-file.ensures.path ∙ ap string_bytes at) ∙ sym (map_more string_bytes paths i path inside);
      named = ap (map (λ f. string_bytes f.path.now)) pushed ∙ map_push (λ f. string_bytes f.path.now) before file ∙ ap₂ (λ (l : List (List ℕ)) (p : List ℕ). l ++ p ∷ []) c.loop-path.invariant.named (ap string_bytes (c.in_ok-file.ensures.named ∙ at)) ∙ sym (map_more string_bytes paths i path inside);
      many = ap length pushed ∙ length_push before file ∙ ap (λ n. n + 1) c.loop-path.invariant.many;
    }
