-- What the receivers of a run took of each path.
use Rattle.std.proofs.Common.{rules, ◌≡◌, ◌∙◌, ◌∷◌, ◌++◌, ◌<◌, ◌⊎◌, ◌&&◌, ◌||◌, ℕ, zero, suc, Bool, true, false, not, List, [], Contains, IfSome, Option, Some, None, Ok, Err, Result, append_assoc, append-nil, ap, arith, fold, get_or, inl, inr, length, max, refl, subst, sym}
use Rattle.std.specs.Io.KnownBytes.{Appends}
use Rattle.std.specs.List.{list_any}
use Rattle.modes_frame.specs.declared.cutter.Cut.{Cut}
use Rattle.modes_frame.specs.Lines.{cuts}
use Rattle.station_history.specs.Start.{Start}
use Rattle.station_shared.specs.Seats.{new_seat}
use Rattle.streams.specs.Source.{IsBorder, SourceState}
use Rattle.station_lines.specs.declared.pumping.PumpFault.{PumpFault}
use Rattle.station_lines.specs.declared.pumping.PumpFault.TheVariants as pump
use Rattle.station_lines.specs.declared.tally.Tally.{Tally}
use Rattle.station_portions.proofs.SendingLemmas.{cuts_border, cuts_portions}
use Rattle.station_portions.proofs.WholeLemmas.{given_lines}
use Rattle.station_portions.specs.Whole.{GivesPath}
use Rattle.station_portions.specs.declared.message.PathEnd.{PathEnd}
use Rattle.station_portions.specs.declared.message.PathEnd.TheVariants.{AtEnd}
use Rattle.station_shared.specs.Seats.{Seated}
use Rattle.station_shared.specs.Workers.{Works}
use Rattle.messages.specs.Sums.{AddsEach, HasSameFault, first_fault}
use Rattle.station_run.specs.Taken.{AreLinesOf, Portion, TakeInEach, TakesEachPath, TakesPath, TakesPortion, all_bytes, all_lines, so_far_after}
use Rattle.messages.proofs.Common.{Told, status_of}
use Rattle.station_run.proofs.Common.{BeginsRound, Begun, EndsRound, HandsOver, IsFirst, RunEnd, RunPlan, Runs, RunsOn, RunsStation, Station, Streams, ends_run, most_reads}
use Rattle.station_paths.proofs.Common.{FailsBetweenLines, GaveAll, GaveAllBut, IsFinished, IsUnfinished, unfinished_status}
use Rattle.station_run.proofs.BorderLemmas.{border_rest}
use Rattle.std.proofs.lemmas.Option.{none-some, same_Some}

-- ---- what a source has given

-- known bytes that grow
appends-known : (old new : Option (List ℕ)) (known bytes : List ℕ) → old ≡ Some known → Appends old new bytes → new ≡ Some (known ++ bytes)
appends-known None new known bytes is grown = absurd (none-some known is)
appends-known (Some x) None known bytes is grown = absurd grown
appends-known (Some x) (Some y) known bytes is grown = ap Some (grown ∙ ap (λ (l : List ℕ). l ++ bytes) (same_Some x known is))

border-known : (given : Option (List ℕ)) (known : List ℕ) → given ≡ Some known → IfSome given IsBorder → IsBorder known
border-known given known is border = subst (λ (o : Option (List ℕ)). IfSome o IsBorder) is border

-- ---- the lines that one receiver took

-- a receiver whose answer doesn't end the run took all lines of what its source gave, which ends between two lines
whole-portion : (known : List ℕ) (start : Start) (a b : Seated) (old new : SourceState) (turns : ℕ) (answer : Result Tally PumpFault) → (work : Works start a b old new turns answer)
    → old.given ≡ Some known → FailsBetweenLines new → ends_run answer ≡ false
    → (work.pumps.lines ≡ cuts work.pumps.draws.given) × IsBorder (known ++ work.pumps.draws.given)
whole-portion known start a b old new turns (Ok tally) work is fails goes_on =
    let draws = work.pumps.draws in (
      sym (append-nil work.pumps.lines) ∙ ap (λ l. work.pumps.lines ++ l) (sym draws.ends.0) ∙ sym draws.front,
      border-known new.given (known ++ draws.given) (appends-known old.given new.given known draws.given is draws.bytes.1) draws.ends.2.1,
    )
whole-portion known start a b old new turns (Err (pump.Read tally)) work is fails goes_on =
    let draws = work.pumps.draws in
    let some : 0 < new.failures = omega (arith, draws.failures) in
    let border = border-known new.given (known ++ draws.given) (appends-known old.given new.given known draws.given is draws.bytes.1) (fails some).1 in
    (draws.ends.0 ∙ sym (cuts_border draws.given (border_rest known draws.given border)), border)
whole-portion known start a b old new turns (Err (pump.TooManyTurns tally)) work is fails goes_on = absurd (search rules)
whole-portion known start a b old new turns (Err (pump.NoMemory tally)) work is fails goes_on = absurd (search rules)

-- the lines that the last receiver took, and those that it left out
last-lines : (ends : Bool) (given : List ℕ) (lines left_out : List Cut) → cuts given ≡ lines ++ left_out → (ends ≡ false → lines ≡ cuts given)
    → (out : List Cut) × (cuts given ≡ lines ++ out) × (ends ≡ false → out ≡ [])
last-lines true given lines left_out front whole = (left_out, front, λ no. absurd (search rules))
last-lines false given lines left_out front whole = ([], sym (whole refl) ∙ sym (append-nil lines), λ no. refl)

-- ---- a station that hands over has no answer that ends the run

not-first : (a b : Bool) → (not a && b) ≡ true → a ≡ false
not-first true b e = absurd (search rules)
not-first false b e = refl

neither : (a b : Bool) → (a || b) ≡ false → (a ≡ false) × (b ≡ false)
neither true b e = absurd (search rules)
neither false b e = (refl, e)

none-ends : (answers : List (Result Tally PumpFault)) (place : ℕ) (d : Result Tally PumpFault) → list_any ends_run answers ≡ false → place < length answers → ends_run (get_or answers place d) ≡ false
none-ends [] place d none inside = absurd (omega (arith, inside))
none-ends (answer ∷ answers) zero d none inside = (neither (ends_run answer) (list_any ends_run answers) none).0
none-ends (answer ∷ answers) (suc place) d none inside =
    none-ends answers place d (neither (ends_run answer) (list_any ends_run answers) none).1 (omega (arith, inside))

-- ---- how a path ended

later-one : (path : List ℕ) (paths : List (List ℕ)) (other : List ℕ) → Contains paths other → Contains (path ∷ paths) other
later-one path paths other (k, inside, is) = (suc k, omega (arith, inside), is)

-- a path was read to its end, or goes on in a run that is stopped, or is one of the unfinished
ended-at : (stopped : Bool) (paths : List (List ℕ)) (lefts : List (Option (List ℕ))) (sources : List SourceState) (unfinished : List (List ℕ)) (place : ℕ) (path : List ℕ) (left : Option (List ℕ)) (source : SourceState)
    → GaveAllBut stopped paths lefts sources unfinished → place < length paths
    → IsFinished stopped (get_or lefts place left) (get_or sources place source) ⊎ (Contains unfinished (get_or paths place path) × IsUnfinished (get_or lefts place left) (get_or sources place source))
ended-at stopped [] [] [] unfinished place path left source all inside = absurd (omega (arith, inside))
ended-at stopped [] [] (s ∷ sources) unfinished place path left source all inside = absurd all
ended-at stopped [] (l ∷ lefts) sources unfinished place path left source all inside = absurd all
ended-at stopped (p ∷ paths) [] sources unfinished place path left source all inside = absurd all
ended-at stopped (p ∷ paths) (l ∷ lefts) [] unfinished place path left source all inside = absurd all
ended-at stopped (p ∷ paths) (l ∷ lefts) (s ∷ sources) unfinished zero path left source (inl (finished, others)) inside = inl finished
ended-at stopped (p ∷ paths) (l ∷ lefts) (s ∷ sources) unfinished zero path left source (inr (others, is, why, rest)) inside =
    inr (subst (λ (l : List (List ℕ)). Contains l p) (sym is) (zero, omega arith, refl), why)
ended-at stopped (p ∷ paths) (l ∷ lefts) (s ∷ sources) unfinished (suc place) path left source (inl (finished, others)) inside =
    ended-at stopped paths lefts sources unfinished place path left source others (omega (arith, inside))
ended-at stopped (p ∷ paths) (l ∷ lefts) (s ∷ sources) unfinished (suc place) path left source (inr (others, is, why, rest)) inside =
    elim (ended-at stopped paths lefts sources others place path left source rest (omega (arith, inside))) [
      | inl finished ↦ inl finished
      | inr found ↦ inr (subst (λ (l : List (List ℕ)). Contains l (get_or paths place path)) (sym is) (later-one p others (get_or paths place path) found.0), found.1)
    ]

-- where the bytes of a path are known that was read to its end
known-lines : (left : Option (List ℕ)) (end : PathEnd) (given : List ℕ) → GivesPath left end given → end ≡ AtEnd → IfSome left (λ (bytes : List ℕ). cuts given ≡ cuts bytes)
known-lines None end given path at = tt
known-lines (Some bytes) end given path at = given_lines bytes given (subst (λ e. GivesPath (Some bytes) e given) at path)

-- of a path that is over all lines were taken
lines-over : (end : PathEnd) (left : Option (List ℕ)) (source : SourceState) (bytes : List ℕ) (lines left_out : List Cut) → source.given ≡ Some bytes → cuts bytes ≡ lines ++ left_out → left_out ≡ []
    → GaveAll end left source → AreLinesOf end left lines
lines-over end left source bytes lines left_out given front none all =
    let same : all.given ≡ bytes = same_Some all.given bytes (sym all.given_is ∙ given) in
    let taken : lines ≡ cuts all.given = sym (append-nil lines) ∙ ap (λ (l : List Cut). lines ++ l) (sym none) ∙ sym front ∙ ap cuts (sym same) in
    record {
      left_new = all.path.left_new;
      read = all.path.read;
      given = all.path.taken;
      over = all.path.over;
      lines_are = taken ∙ all.path.lines;
      known = λ at. subst (λ (l : List Cut). IfSome left (λ (bytes : List ℕ). l ≡ cuts bytes)) (sym taken) (known-lines left end all.given all.path at);
    }

-- ---- a round with status 0

-- then no answer is a fault
without-fault : (worst : ℕ) (answer : Result Tally PumpFault) (answers : List (Result Tally PumpFault)) → max worst (status_of answer) ≡ 0
    → ((place : ℕ) (d : Result Tally PumpFault) → place < length answers → status_of (get_or answers place d) ≡ 0)
    → (place : ℕ) (d : Result Tally PumpFault) → place < length (answer ∷ answers) → status_of (get_or (answer ∷ answers) place d) ≡ 0
without-fault worst answer answers none others zero d inside = omega (arith, none)
without-fault worst answer answers none others (suc place) d inside = others place d (omega (arith, inside))

no-fault : (worst : ℕ) (answers : List (Result Tally PumpFault)) → fold (λ worst answer. max worst (status_of answer)) worst answers ≡ 0
    → (worst ≡ 0) × ((place : ℕ) (d : Result Tally PumpFault) → place < length answers → status_of (get_or answers place d) ≡ 0)
no-fault worst [] none = (none, λ place d inside. absurd (omega (arith, inside)))
no-fault worst (answer ∷ answers) none =
    let rest = no-fault (max worst (status_of answer)) answers none in
    (omega (arith, rest.0), without-fault worst answer answers rest.0 rest.1)

since-goes-on : (before since sum : Result Tally PumpFault) → HasSameFault (first_fault before since) sum → status_of sum ≡ 0 → ends_run since ≡ false
since-goes-on before since (Err fault) same none = absurd (omega (arith, none))
since-goes-on (Ok before) (Ok since) (Ok sum) same none = refl
since-goes-on (Ok before) (Err (pump.Read since)) (Ok sum) same none = absurd same
since-goes-on (Ok before) (Err (pump.TooManyTurns since)) (Ok sum) same none = absurd same
since-goes-on (Ok before) (Err (pump.NoMemory since)) (Ok sum) same none = absurd same
since-goes-on (Err (pump.Read before)) since (Ok sum) same none = absurd same
since-goes-on (Err (pump.TooManyTurns before)) since (Ok sum) same none = absurd same
since-goes-on (Err (pump.NoMemory before)) since (Ok sum) same none = absurd same

-- a sum without a fault is of an answer that doesn't end the run
adds-at : (before since sums : List (Result Tally PumpFault)) (place : ℕ) (d : Result Tally PumpFault) → AddsEach before since sums → place < length since
    → ((place : ℕ) (d : Result Tally PumpFault) → place < length sums → status_of (get_or sums place d) ≡ 0) → ends_run (get_or since place d) ≡ false
adds-at [] [] [] place d adds inside none = absurd (omega (arith, inside))
adds-at [] [] (s ∷ sums) place d adds inside none = absurd adds
adds-at [] (x ∷ since) sums place d adds inside none = absurd adds
adds-at (b ∷ before) [] sums place d adds inside none = absurd adds
adds-at (b ∷ before) (x ∷ since) [] place d adds inside none = absurd adds
adds-at (b ∷ before) (x ∷ since) (s ∷ sums) zero d adds inside none = since-goes-on b x s adds.0.fault (none zero s (omega arith))
adds-at (b ∷ before) (x ∷ since) (s ∷ sums) (suc place) d adds inside none =
    adds-at before since sums place d adds.1 (omega (arith, inside)) (λ k e within. none (suc k) e (omega (arith, within)))

none-unfinished : (paths : List (List ℕ)) → unfinished_status paths ≡ 0 → paths ≡ []
none-unfinished [] none = refl
none-unfinished (path ∷ paths) none = absurd (omega (arith, none))

nothing-in : (path : List ℕ) (paths : List (List ℕ)) → paths ≡ [] → Contains paths path → ⊥
nothing-in path paths none (k, inside, is) = omega (arith, inside, ap length none)

-- ---- station after station

all-bytes-more : (portions : List Portion) (portion : Portion) → all_bytes (portions ++ portion ∷ []) ≡ all_bytes portions ++ portion.bytes
all-bytes-more [] portion = append-nil portion.bytes
all-bytes-more (p ∷ portions) portion = ap (λ (l : List ℕ). p.bytes ++ l) (all-bytes-more portions portion) ∙ sym (append_assoc p.bytes (all_bytes portions) portion.bytes)

all-lines-more : (portions : List Portion) (portion : Portion) → all_lines (portions ++ portion ∷ []) ≡ all_lines portions ++ portion.lines
all-lines-more [] portion = append-nil portion.lines
all-lines-more (p ∷ portions) portion = ap (λ (l : List Cut). p.lines ++ l) (all-lines-more portions portion) ∙ sym (append_assoc p.lines (all_lines portions) portion.lines)

second : (a b : Bool) → (a && b) ≡ true → b ≡ true
second true b e = e
second false b e = absurd (search rules)

module _ (asked : RunPlan) (place : ℕ) (path : List ℕ) (left : Option (List ℕ)) (source : SourceState) (seat : Seated) (answer : Result Tally PumpFault) (there : place < length asked.paths) where
  -- a station is begun whose source at this place has given the bytes of these portions, between two lines
  record Ready (so_far : List Portion) (begun : Begun) : Type 0 where
    inside : place < length begun.sources
    given : (get_or begun.sources place source).given ≡ Some (all_bytes so_far)
    lines : cuts (all_bytes so_far) ≡ all_lines so_far
    border : IsBorder (all_bytes so_far)

  -- at the first station of a round it has given none
  ready-first : (begun : Begun) → IsFirst asked begun → Ready [] begun
  ready-first begun first =
      let inside : place < length begun.sources = omega (arith, there, first.many_sources) in
      record { inside = inside; given = first.unread place source inside; lines = refl; border = inl refl }

  module _ (station : Station) (runs : RunsStation station) (so_far : List Portion) (ready : Ready so_far station.begun) where
    abbrev work : Works station.left.start (new_seat station.begun.given.entries false place) (get_or station.left.closing.receivers place seat) (get_or station.begun.sources place source) (get_or station.left.sources place source) most_reads (get_or station.left.counted place answer)
    work = runs.pumped.each place source seat answer ready.inside

    abbrev portion : Portion
    portion = record { bytes = work.pumps.draws.given; lines = work.pumps.lines }

    abbrev portions : List Portion
    portions = so_far ++ portion ∷ []

    still-inside : place < length station.left.sources
    still-inside = let inside = ready.inside in omega (arith, inside, runs.pumped.many_sources)

    answered : place < length station.left.counted
    answered = let inside = ready.inside in omega (arith, inside, runs.pumped.many_answers)

    takes-portion : TakesPortion station place portion
    takes-portion = record { inside = ready.inside; source = source; seat = seat; answer = answer; works = work; bytes_are = refl; lines_are = refl }

    given-after : (get_or station.left.sources place source).given ≡ Some (all_bytes portions)
    given-after = appends-known _ _ (all_bytes so_far) work.pumps.draws.given ready.given work.pumps.draws.bytes.1 ∙ ap Some (sym (all-bytes-more so_far portion))

    lines-by : (out : List Cut) → cuts work.pumps.draws.given ≡ work.pumps.lines ++ out → cuts (all_bytes portions) ≡ all_lines portions ++ out
    lines-by out front =
        ap cuts (all-bytes-more so_far portion) ∙ cuts_portions (all_bytes so_far) work.pumps.draws.given ready.border
        ∙ ap (λ (l : List Cut). l ++ cuts work.pumps.draws.given) ready.lines ∙ ap (λ (l : List Cut). all_lines so_far ++ l) front
        ∙ sym (append_assoc (all_lines so_far) work.pumps.lines out) ∙ ap (λ (l : List Cut). l ++ out) (sym (all-lines-more so_far portion))

    whole : ends_run (get_or station.left.counted place answer) ≡ false → (work.pumps.lines ≡ cuts work.pumps.draws.given) × IsBorder (all_bytes so_far ++ work.pumps.draws.given)
    whole goes_on = whole-portion (all_bytes so_far) station.left.start _ _ _ _ _ (get_or station.left.counted place answer) work ready.given (runs.failed place source still-inside) goes_on

    -- a station that hands over has taken all lines
    goes-on : station.left.hands_over ≡ true → ends_run (get_or station.left.counted place answer) ≡ false
    goes-on hands = none-ends station.left.counted place answer (not-first _ _ (second _ _ (sym runs.shows.hands_over ∙ hands))) answered

    ready-next : (next : Begun) → station.left.hands_over ≡ true → next.sources ≡ station.left.sources → Ready portions next
    ready-next next hands sources =
        let all = whole (goes-on hands) in
        let inside = still-inside in
        record {
          inside = omega (arith, inside, ap length sources);
          given = ap (λ (ss : List SourceState). (get_or ss place source).given) sources ∙ given-after;
          lines = lines-by [] (sym all.0 ∙ sym (append-nil work.pumps.lines)) ∙ append-nil (all_lines portions);
          border = subst IsBorder (sym (all-bytes-more so_far portion)) all.1;
        }

    -- at the end of a round the path is taken
    takes-path : (err_old err_new : Told) (status : ℕ) → (round : EndsRound asked station.left err_old err_new status)
        → TakesPath status round.stopped round.unfinished (get_or asked.paths place path) (get_or asked.known place left) (get_or station.left.sources place source) (get_or station.left.counted place answer) portions
    takes-path err_old err_new status round =
        let own_left = get_or asked.known place left in
        let own_source = get_or station.left.sources place source in
        let own_answer = get_or station.left.counted place answer in
        let now = last-lines (ends_run own_answer) work.pumps.draws.given work.pumps.lines work.pumps.draws.left_out work.pumps.draws.front (λ goes_on. (whole goes_on).0) in
        let lines = lines-by now.0 now.1 in
        let over : (end : PathEnd) → GaveAll end own_left own_source → ends_run own_answer ≡ false → AreLinesOf end own_left (all_lines portions) =
        λ end all goes_on. lines-over end own_left own_source (all_bytes portions) (all_lines portions) now.0 given-after lines (now.2 goes_on) all in
        let ended = ended-at round.stopped asked.paths asked.known station.left.sources round.unfinished place path left source round.whole there in
        record {
          given = given-after;
          left_out = now.0;
          lines = lines;
          all = now.2;
          ended = ended;
          over = over;
          well = λ well.
              let none : round.unfinished ≡ [] = none-unfinished round.unfinished (omega (arith, well, round.status_is)) in
              let told : round.told ≡ 0 = omega (arith, well, round.status_is) in
              let faults = no-fault 0 station.left.answers (omega (arith, told, round.told_is)) in
              let goes_on = adds-at _ station.left.counted station.left.answers place answer runs.sums answered faults.1 in (
                now.2 goes_on,
                elim ended [
                  | inl finished ↦ elim finished [
                    | inl whole ↦ inl (over AtEnd whole goes_on)
                    | inr left_open ↦ inr left_open
                  ]
                  | inr found ↦ absurd (nothing-in (get_or asked.paths place path) round.unfinished none found.0)
                ],
              );
        }

  next-in-each : (so_far : List Portion) (station next : Station) (stations : List Station) → (runs : RunsStation station) → (ready : Ready so_far station.begun)
      → HandsOver station.left next.begun station.new.err next.old.err ⊎ BeginsRound asked station.left next.begun station.new.err next.old.err
      → ((now : List Portion) → Ready now next.begun → TakeInEach asked place path left source answer now (next ∷ stations))
      → TakeInEach asked place path left source answer (so_far_after station.left.hands_over (portions station runs so_far ready)) (next ∷ stations)
  next-in-each so_far station next stations runs ready (inl hands) rest =
      subst (λ (b : Bool). TakeInEach asked place path left source answer (so_far_after b (portions station runs so_far ready)) (next ∷ stations)) (sym hands.goes_on)
      (rest (portions station runs so_far ready) (ready-next station runs so_far ready next.begun hands.goes_on hands.sources))
  next-in-each so_far station next stations runs ready (inr round) rest =
      subst (λ (b : Bool). TakeInEach asked place path left source answer (so_far_after b (portions station runs so_far ready)) (next ∷ stations)) (sym round.over.stays)
      (rest [] (ready-first next.begun round.first))

  in-each : (so_far : List Portion) (station : Station) (stations : List Station) (end : RunEnd) → (runs : RunsStation station) → RunsOn asked station stations end → (ready : Ready so_far station.begun)
      → TakeInEach asked place path left source answer so_far (station ∷ stations)
  in-each so_far station [] end runs on ready = (portion station runs so_far ready, takes-portion station runs so_far ready, takes-path station runs so_far ready, tt)
  in-each so_far station (next ∷ stations) end runs (follows, next_runs, others) ready = (
    portion station runs so_far ready,
    takes-portion station runs so_far ready,
    takes-path station runs so_far ready,
    next-in-each so_far station next stations runs ready follows.how (λ now is_ready. in-each now next stations end next_runs others is_ready),
  )

pub runs-take : (asked : RunPlan) (old : Streams) (stations : List Station) (end : RunEnd) → Runs asked old stations end → TakesEachPath asked stations
runs-take asked old [] end runs = λ place path left source answer there. tt
runs-take asked old (station ∷ stations) end (inl (none, lost)) = absurd (search rules)
runs-take asked old (station ∷ stations) end (inr (begun, given, rounds, first, (begun_is, old_is, runs, others))) = λ place path left source answer there.
    in-each asked place path left source station.left.closing.reporter answer there [] station stations end runs others
    (ready-first asked place path left source station.left.closing.reporter answer there station.begun (subst (IsFirst asked) (sym begun_is) first))
