-- The lines that a job tells, and the status that they give.
use Rattle.std.proofs.Common.{◌≡◌, ◌∙◌, ℕ, zero, suc, ◌≤◌, Bool, true, false, List, [], ◌∷◌, ◌++◌, Result, Ok, Err, append-nil, arith, cond, flat_map, fold, max, nat_eq, refl, sym, ap, subst}
use Rattle.std.proofs.KnownBytes.{Appends-nil}
use Rattle.std.proofs.lemmas.Bool.Decides.{nat_tests}
use Rattle.std.proofs.lemmas.List.Concat.{flat_map-append}
use Rattle.station_lines.specs.declared.pumping.PumpFault.{PumpFault}
use Rattle.station_lines.specs.declared.pumping.PumpFault.TheVariants as pump
use Rattle.station_lines.specs.declared.tally.Tally.{Tally}
use Rattle.station_replay.specs.declared.replaying.ReplayFault.{ReplayFault}
use Rattle.station_replay.specs.declared.replaying.ReplayFault.TheVariants as replay
use Rattle.messages.proofs.Common.{Tells, Told, fault_line, fault_status, pump_lines, replay_lines, status_of, telling_line, unfinished_lines}
use Rattle.messages.proofs.TellLemmas.{tells_both}
use Rattle.messages.specs.Telling.{fault_words, output_lines, tally_line, unfinished_words}
use Rattle.messages.specs.declared.faults.Fault.{Fault}
use Rattle.messages.specs.declared.faults.Fault.TheVariants as fault
use Rattle.station_paths.proofs.Common.{unfinished_status}
use Rattle.station_run.proofs.Common.{EndsRound, Left, RunPlan}
use Rattle.station_main.specs.Statuses.{StatusByLines, TellsLines, ToldLine, told_line, worst_line}

-- ---- lines

pub no-lines : (a : Told) → TellsLines a a []
no-lines a = record { told = λ well. (well, Appends-nil a.taken) }

pub lines-then : (a b c : Told) (first second : List ToldLine) → TellsLines a b first → TellsLines b c second → TellsLines a c (first ++ second)
lines-then a b c first second p q = subst (Tells a c) (sym (flat_map-append told_line first second)) (tells_both a b c (flat_map told_line first) (flat_map told_line second) p q)

pub worst-most : (lines : List ToldLine) → worst_line lines ≤ 1
worst-most [] = omega arith
worst-most (Ok tally ∷ lines) = worst-most lines
worst-most (Err words ∷ lines) = omega arith

pub worst-then : (first second : List ToldLine) → worst_line (first ++ second) ≡ max (worst_line first) (worst_line second)
worst-then [] second = omega arith
worst-then (Ok tally ∷ first) second = worst-then first second
worst-then (Err words ∷ first) second = let most = worst-most second in omega arith

pub fault-told : (a b : Told) (f : Fault) → Tells a b (fault_line f) → TellsLines a b (Err (fault_words f) ∷ [])
fault-told a b f told = subst (Tells a b) (sym (append-nil (fault_line f))) told

-- ---- what was counted of paths

answer_lines : Result Tally PumpFault → List ToldLine
answer_lines (Ok tally) = Ok tally ∷ []
answer_lines (Err (pump.Read tally)) = Ok tally ∷ Err (fault_words fault.Read) ∷ []
answer_lines (Err (pump.TooManyTurns tally)) = Ok tally ∷ Err (fault_words fault.TooManyReads) ∷ []
answer_lines (Err (pump.NoMemory tally)) = Ok tally ∷ Err (fault_words fault.NoMemory) ∷ []

answer-text : (answer : Result Tally PumpFault) → pump_lines answer ≡ flat_map told_line (answer_lines answer)
unfolding answer_lines
answer-text (Ok tally) = sym (append-nil (tally_line tally))
answer-text (Err (pump.Read tally)) = ap (λ (l : List ℕ). tally_line tally ++ l) (sym (append-nil (fault_line fault.Read)))
answer-text (Err (pump.TooManyTurns tally)) = ap (λ (l : List ℕ). tally_line tally ++ l) (sym (append-nil (fault_line fault.TooManyReads)))
answer-text (Err (pump.NoMemory tally)) = ap (λ (l : List ℕ). tally_line tally ++ l) (sym (append-nil (fault_line fault.NoMemory)))

answer-worst : (answer : Result Tally PumpFault) → status_of answer ≡ worst_line (answer_lines answer)
unfolding answer_lines
answer-worst (Ok tally) = refl
answer-worst (Err (pump.Read tally)) = refl
answer-worst (Err (pump.TooManyTurns tally)) = refl
answer-worst (Err (pump.NoMemory tally)) = refl

counted_lines : List (Result Tally PumpFault) → List ToldLine
counted_lines [] = []
counted_lines (answer ∷ answers) = answer_lines answer ++ counted_lines answers

counted-text : (answers : List (Result Tally PumpFault)) → flat_map pump_lines answers ≡ flat_map told_line (counted_lines answers)
unfolding counted_lines
counted-text [] = refl
counted-text (answer ∷ answers) =
    ap (λ (l : List ℕ). l ++ flat_map pump_lines answers) (answer-text answer)
    ∙ ap (λ (l : List ℕ). flat_map told_line (answer_lines answer) ++ l) (counted-text answers)
    ∙ sym (flat_map-append told_line (answer_lines answer) (counted_lines answers))

counted-worst : (worst : ℕ) (answers : List (Result Tally PumpFault)) → fold (λ most answer. max most (status_of answer)) worst answers ≡ max worst (worst_line (counted_lines answers))
unfolding counted_lines
counted-worst worst [] = omega arith
counted-worst worst (answer ∷ answers) =
    let rest = counted-worst (max worst (status_of answer)) answers in
    let both = worst-then (answer_lines answer) (counted_lines answers) in
    let one = answer-worst answer in
    omega (arith, rest, both, one)

-- ---- a failed output, and paths that weren't read to their ends

pub output_line : Bool → List ToldLine
output_line false = []
output_line true = Err (fault_words fault.Write) ∷ []

pub output-text : (has_failed : Bool) → output_lines has_failed ≡ flat_map told_line (output_line has_failed)
unfolding output_line
output-text false = refl
output-text true = sym (append-nil (fault_line fault.Write))

pub output-worst : (has_failed : Bool) → fault_status has_failed ≡ worst_line (output_line has_failed)
unfolding output_line
output-worst false = refl
output-worst true = refl

path_lines : List (List ℕ) → List ToldLine
path_lines [] = []
path_lines (path ∷ paths) = Err (unfinished_words path) ∷ path_lines paths

paths-text : (paths : List (List ℕ)) → flat_map (λ (path : List ℕ). telling_line (unfinished_words path)) paths ≡ flat_map told_line (path_lines paths)
unfolding path_lines
paths-text [] = refl
paths-text (path ∷ paths) = ap (λ (l : List ℕ). telling_line (unfinished_words path) ++ l) (paths-text paths)

paths-worst : (paths : List (List ℕ)) → unfinished_status paths ≡ worst_line (path_lines paths)
unfolding path_lines
paths-worst [] = refl
paths-worst (path ∷ paths) = refl

-- unless another fault was told
rest_lines : ℕ → List (List ℕ) → List ToldLine
rest_lines zero paths = path_lines paths
rest_lines (suc worst) paths = []

not-zero : (n : ℕ) → nat_eq (suc n) 0 ≡ false
not-zero n = grind (arith, nat_tests)

rest-text : (worst : ℕ) (paths : List (List ℕ)) → unfinished_lines worst paths ≡ flat_map told_line (rest_lines worst paths)
unfolding rest_lines
rest-text zero paths = paths-text paths
rest-text (suc worst) paths = ap (λ (b : Bool). cond b (flat_map (λ (path : List ℕ). telling_line (unfinished_words path)) paths) []) (not-zero worst)

rest-worst : (worst : ℕ) (paths : List (List ℕ)) → worst ≤ 1 → max worst (unfinished_status paths) ≡ max worst (worst_line (rest_lines worst paths))
unfolding rest_lines
rest-worst zero paths few = let is = paths-worst paths in omega (arith, is)
rest-worst (suc worst) paths few =
    let is = paths-worst paths in
    let most = worst-most (path_lines paths) in
    omega (arith, is, most, few)

-- ---- the end of a round

pub round-told : (asked : RunPlan) (left : Left) (err_old err_new : Told) (status : ℕ) → EndsRound asked left err_old err_new status → StatusByLines err_old err_new status
round-told asked left err_old err_new status round =
    let answers = counted_lines left.answers in
    let output = output_line left.is_broken in
    let rest = rest_lines round.told round.unfinished in
    let text : flat_map pump_lines left.answers ++ output_lines left.is_broken ≡ flat_map told_line (answers ++ output) =
    ap (λ (l : List ℕ). l ++ output_lines left.is_broken) (counted-text left.answers) ∙ ap (λ (l : List ℕ). flat_map told_line answers ++ l) (output-text left.is_broken)
    ∙ sym (flat_map-append told_line answers output) in
    let first : TellsLines err_old round.err_mid (answers ++ output) = subst (Tells err_old round.err_mid) text round.counts in
    let second : TellsLines round.err_mid err_new rest = subst (Tells round.err_mid err_new) (rest-text round.told round.unfinished) round.told_too in
    let counted = counted-worst 0 left.answers in
    let broken = output-worst left.is_broken in
    let both = worst-then answers output in
    let most = worst-most (answers ++ output) in
    let worst : round.told ≡ worst_line (answers ++ output) = round.told_is ∙ omega (arith, counted, broken, both) in
    let all = worst-then (answers ++ output) rest in
    let unfinished = rest-worst round.told round.unfinished (omega (arith, worst, most)) in
    record {
      lines = (answers ++ output) ++ rest;
      told = lines-then err_old round.err_mid err_new (answers ++ output) rest first second;
      status_is = round.status_is ∙ omega (arith, all, unfinished, worst);
    }

-- ---- a replay

replay_told : Result Tally ReplayFault → Bool → List ToldLine
replay_told (Ok tally) has_failed = Ok tally ∷ output_line has_failed
replay_told (Err (replay.Read tally)) has_failed = Ok tally ∷ Err (fault_words fault.Read) ∷ []
replay_told (Err (replay.Write tally)) has_failed = Ok tally ∷ Err (fault_words fault.Write) ∷ []
replay_told (Err (replay.TooManyTurns tally)) has_failed = Ok tally ∷ Err (fault_words fault.TooManyReads) ∷ []
replay_told (Err (replay.NoMemory tally)) has_failed = Ok tally ∷ Err (fault_words fault.NoMemory) ∷ []

replay-text : (answer : Result Tally ReplayFault) (has_failed : Bool) → replay_lines answer has_failed ≡ flat_map told_line (replay_told answer has_failed)
unfolding replay_told
replay-text (Ok tally) has_failed = ap (λ (l : List ℕ). tally_line tally ++ l) (output-text has_failed)
replay-text (Err (replay.Read tally)) has_failed = ap (λ (l : List ℕ). tally_line tally ++ l) (sym (append-nil (fault_line fault.Read)))
replay-text (Err (replay.Write tally)) has_failed = ap (λ (l : List ℕ). tally_line tally ++ l) (sym (append-nil (fault_line fault.Write)))
replay-text (Err (replay.TooManyTurns tally)) has_failed = ap (λ (l : List ℕ). tally_line tally ++ l) (sym (append-nil (fault_line fault.TooManyReads)))
replay-text (Err (replay.NoMemory tally)) has_failed = ap (λ (l : List ℕ). tally_line tally ++ l) (sym (append-nil (fault_line fault.NoMemory)))

max-one : (has_failed : Bool) → max 1 (fault_status has_failed) ≡ 1
max-one false = refl
max-one true = refl

replay-worst : (answer : Result Tally ReplayFault) (has_failed : Bool) → max (status_of answer) (fault_status has_failed) ≡ worst_line (replay_told answer has_failed)
unfolding replay_told
replay-worst (Ok tally) has_failed = let is = output-worst has_failed in omega (arith, is)
replay-worst (Err (replay.Read tally)) has_failed = max-one has_failed
replay-worst (Err (replay.Write tally)) has_failed = max-one has_failed
replay-worst (Err (replay.TooManyTurns tally)) has_failed = max-one has_failed
replay-worst (Err (replay.NoMemory tally)) has_failed = max-one has_failed

pub replay-told : (answer : Result Tally ReplayFault) (has_failed : Bool) (err_old err_new : Told) (status : ℕ) → Tells err_old err_new (replay_lines answer has_failed) → status ≡ max (status_of answer) (fault_status has_failed)
    → StatusByLines err_old err_new status
replay-told answer has_failed err_old err_new status told is = record {
  lines = replay_told answer has_failed;
  told = subst (Tells err_old err_new) (replay-text answer has_failed) told;
  status_is = is ∙ replay-worst answer has_failed;
}

-- one fault, with status 1
pub fault-by-lines : (err_old err_new : Told) (status : ℕ) (f : Fault) → Tells err_old err_new (fault_line f) → status ≡ 1 → StatusByLines err_old err_new status
fault-by-lines err_old err_new status f told is = record { lines = Err (fault_words f) ∷ []; told = fault-told err_old err_new f told; status_is = is }
