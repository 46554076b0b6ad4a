-- Sources that are fed by threads, one by one.
use Rattle.std.proofs.Common.{ℕ, ◌≡◌, ◌∙◌, ◌∷◌, ◌++◌, List, [], Option, None, Some, append_assoc, append-nil, arith, ap, length, map, refl, suc, subst, sym, All}
use Rattle.std.proofs.lemmas.List.{map_push}
use Rattle.std.proofs.lemmas.List.Elements.{All-cons, All-nil}
use Rattle.station_portions.specs.Giving.{state_of}
use Rattle.streams.specs.Source.{SourceState}
use Rattle.station_portions.specs.declared.portions.Portions.{Portions}
use Rattle.station_portions.specs.declared.finished_path.WholePath.{WholePath}
use Rattle.station_paths.proofs.Common.{AllTakeFrom, AreFed, IsFedBy, TakesFrom, unknown}
use Rattle.station_paths.specs.declared.opened.Opened.{Opened}

pub no_items : {A : Type 0} (items : List A) → length items ≡ 0 → items ≡ []
no_items [] none = refl
no_items (x ∷ items) none = absurd (omega (arith, none))

-- one more source, of a file whose others are to come
pub one_more_fed : {F R T : Type 0} (path : F → List ℕ) (promise : T → WholePath Opened) (files : List F) (threads_done threads_new : List T) (done new : List (Portions R)) (file : F) (items rest : List F) (thread : T) (input : Portions R)
    → items ≡ file ∷ rest → threads_new ≡ threads_done ++ thread ∷ [] → new ≡ done ++ input ∷ []
    → IsFedBy (path file) (promise thread) (state_of input)
    → ((later_promises : List (WholePath Opened)) (later : List SourceState) → AreFed (map path items) later_promises later → AreFed (map path files) (map promise threads_done ++ later_promises) (map state_of done ++ later))
    → (later_promises : List (WholePath Opened)) (later : List SourceState) → AreFed (map path rest) later_promises later → AreFed (map path files) (map promise threads_new ++ later_promises) (map state_of new ++ later)
one_more_fed path promise files threads_done threads_new done new file items rest thread input split thread_pushed pushed fed so_far later_promises later later_fed =
    let here : AreFed (map path (file ∷ rest)) (promise thread ∷ later_promises) (state_of input ∷ later) = (fed, later_fed) in
    let all = so_far (promise thread ∷ later_promises) (state_of input ∷ later) (subst (λ (fs : List _). AreFed (map path fs) (promise thread ∷ later_promises) (state_of input ∷ later)) (sym split) here) in
    let parts : map state_of new ++ later ≡ map state_of done ++ (state_of input ∷ later) =
    ap (λ (l : List (Portions _)). map state_of l ++ later) pushed ∙ ap (λ (l : List SourceState). l ++ later) (map_push state_of done input) ∙ append_assoc (map state_of done) (state_of input ∷ []) later in
    let promises : map promise threads_new ++ later_promises ≡ map promise threads_done ++ (promise thread ∷ later_promises) =
    ap (λ l. map promise l ++ later_promises) thread_pushed ∙ ap (λ (l : List (WholePath Opened)). l ++ later_promises) (map_push promise threads_done thread) ∙ append_assoc (map promise threads_done) (promise thread ∷ []) later_promises in
    subst (λ (ps : List (WholePath Opened)). AreFed (map path files) ps (map state_of new ++ later)) (sym promises)
    (subst (AreFed (map path files) (map promise threads_done ++ (promise thread ∷ later_promises))) (sym parts) all)

-- one more name of a list, by an item that has the same
pub one_more_named : {F T : Type 0} (of_file : F → List ℕ) (of_thread : T → List ℕ) (done new : List T) (files : List (List ℕ)) (file : F) (items rest : List F) (thread : T)
    → items ≡ file ∷ rest → new ≡ done ++ thread ∷ [] → of_thread thread ≡ of_file file
    → map of_thread done ++ map of_file items ≡ files → map of_thread new ++ map of_file rest ≡ files
one_more_named of_file of_thread done new files file items rest thread split pushed same so_far =
    ap (λ l. map of_thread l ++ map of_file rest) pushed ∙ ap (λ l. l ++ map of_file rest) (map_push of_thread done thread) ∙ append_assoc (map of_thread done) (of_thread thread ∷ []) (map of_file rest)
    ∙ ap (λ (n : List ℕ). map of_thread done ++ n ∷ map of_file rest) same ∙ ap (λ l. map of_thread done ++ map of_file l) (sym split) ∙ so_far

pub all_named : {F T : Type 0} (of_file : F → List ℕ) (of_thread : T → List ℕ) (done : List T) (files : List (List ℕ)) (items : List F) → items ≡ [] → map of_thread done ++ map of_file items ≡ files → map of_thread done ≡ files
all_named of_file of_thread done files items none so_far = sym (append-nil (map of_thread done)) ∙ ap (λ l. map of_thread done ++ map of_file l) (sym none) ∙ so_far

-- what is fed takes from its thread
pub fed_take : (paths : List (List ℕ)) (promises : List (WholePath Opened)) (sources : List SourceState) → AreFed paths promises sources → AllTakeFrom promises sources
fed_take [] [] [] fed = tt
fed_take (path ∷ paths) (promise ∷ promises) (source ∷ sources) fed = (fed.0.takes, fed_take paths promises sources fed.1)
fed_take [] [] (source ∷ sources) fed = absurd fed
fed_take [] (promise ∷ promises) sources fed = absurd fed
fed_take (path ∷ paths) [] sources fed = absurd fed
fed_take (path ∷ paths) (promise ∷ promises) [] fed = absurd fed

-- as many threads as sources
pub take_length : {I : Type 0} (promises : List (WholePath I)) (sources : List SourceState) → AllTakeFrom promises sources → length promises ≡ length sources
take_length [] [] take = refl
take_length (promise ∷ promises) (source ∷ sources) take = ap suc (take_length promises sources take.1)
take_length [] (source ∷ sources) take = absurd take
take_length (promise ∷ promises) [] take = absurd take

-- the first of them, and the others
pub first_take : {I T R : Type 0} (promise : T → WholePath I) (threads threads_rest : List T) (thread : T) (inputs rest : List (Portions R)) (input : Portions R) → threads ≡ thread ∷ threads_rest → inputs ≡ input ∷ rest
    → AllTakeFrom (map promise threads) (map state_of inputs) → TakesFrom (promise thread) (state_of input) × AllTakeFrom (map promise threads_rest) (map state_of rest)
first_take promise threads threads_rest thread inputs rest input threads_split split take =
    subst (λ ts. AllTakeFrom (map promise ts) (map state_of (input ∷ rest))) threads_split (subst (λ is. AllTakeFrom (map promise threads) (map state_of is)) split take)

-- a source that is fed has given nothing
pub fed_unread : (paths : List (List ℕ)) (promises : List (WholePath Opened)) (sources : List SourceState) → AreFed paths promises sources → All (λ (source : SourceState). source.given ≡ Some []) sources
fed_unread [] [] [] fed = All-nil (λ (source : SourceState). source.given ≡ Some [])
fed_unread (path ∷ paths) (promise ∷ promises) (source ∷ sources) fed = All-cons (λ (s : SourceState). s.given ≡ Some []) source sources fed.0.unread (fed_unread paths promises sources fed.1)
fed_unread [] [] (source ∷ sources) fed = absurd fed
fed_unread [] (promise ∷ promises) sources fed = absurd fed
fed_unread (path ∷ paths) [] sources fed = absurd fed
fed_unread (path ∷ paths) (promise ∷ promises) [] fed = absurd fed

-- nothing is known of as many paths
pub unknown_is : {T : Type 0} (paths : List (List ℕ)) (threads : List T) → length threads ≡ length paths → unknown paths ≡ map (λ t. None) threads
unknown_is [] [] many = refl
unknown_is (path ∷ paths) (thread ∷ threads) many = ap (λ (l : List (Option (List ℕ))). None ∷ l) (unknown_is paths threads (omega (arith, many)))
unknown_is [] (thread ∷ threads) many = absurd (omega (arith, many))
unknown_is (path ∷ paths) [] many = absurd (omega (arith, many))
