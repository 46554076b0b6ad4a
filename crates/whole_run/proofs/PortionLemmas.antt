-- The portions that the receivers of each station took of their paths.
use Rattle.std.proofs.Common.{◌≡◌, ◌∙◌, ◌⊎◌, inl, inr, ℕ, ◌<◌, List, [], ◌∷◌, ◌++◌, Option, Result, ap, arith, length, slice_index_or}
use native.Mathlib.Decide.{dec_lt}
use Rattle.clap.specs.Words.{Text}
use Rattle.streams.specs.Source.{SourceState}
use Rattle.station_lines.specs.declared.pumping.PumpFault.{PumpFault}
use Rattle.station_lines.specs.declared.tally.Tally.{Tally}
use Rattle.messages.specs.Telling.{Told}
use Rattle.station_run.specs.Taken.{Portion, TakeInEach, TakesEachPath, TakesPath, TakesPortion, so_far_after}
use Rattle.station_run.proofs.Common.{BeginsRound, Begun, EndsRound, HandsOver, Left, RunEnd, RunPlan, Runs, RunsOn, RunsStation, Station, Streams}
use Rattle.whole_run.specs.Accounted.{TakesPortions}
use Rattle.whole_run.specs.OneHistory.{TakeAll, TakePath}

-- the next station has a source for each path too
many-next : (asked : RunPlan) (left : Left) (next : Begun) (err_old err_new : Told) → length left.sources ≡ length asked.paths → HandsOver left next err_old err_new ⊎ BeginsRound asked left next err_old err_new → length next.sources ≡ length asked.paths
many-next asked left next err_old err_new many (inl hands) = ap length hands.sources ∙ many
many-next asked left next err_old err_new many (inr round) = round.first.many_sources

module _ (asked : RunPlan) (path : Text) (known : Option (List ℕ)) (source : SourceState) (answer : Result Tally PumpFault) where
  -- at each place, what is known of the receivers of these stations
  abbrev Takes : (ℕ → List Portion) → List Station → Type 0
  Takes so_far stations = (place : ℕ) → place < length asked.paths → TakeInEach asked place path known source answer (so_far place) stations

  -- portions of which that is so
  record Took (so_far : ℕ → List Portion) (stations : List Station) : Type 0 where
    pub taken : List (ℕ → Portion)
    pub all : TakeAll stations taken
    pub paths : (place : ℕ) → place < length asked.paths → TakePath asked place path known source answer (so_far place) stations taken

  module _ (so_far : ℕ → List Portion) (station : Station) (stations : List Station) (takes : Takes so_far (station ∷ stations)) where
    abbrev portion-at : (place : ℕ) → Dec (place < length asked.paths) → Portion
    portion-at place (yes inside) = (takes place inside).0
    portion-at place (no outside) = record { bytes = []; lines = [] }

    abbrev portions : ℕ → Portion
    portions place = portion-at place (dec_lt place (length asked.paths))

    abbrev later : ℕ → List Portion
    later place = so_far_after station.left.hands_over (so_far place ++ portions place ∷ [])

    took-at : (place : ℕ) → place < length asked.paths → (d : Dec (place < length asked.paths)) → TakesPortion station place (portion-at place d)
    took-at place below (yes inside) = (takes place inside).1
    took-at place below (no outside) = absurd (outside below)

    next-at : (place : ℕ) → place < length asked.paths → (d : Dec (place < length asked.paths)) → TakeInEach asked place path known source answer (so_far_after station.left.hands_over (so_far place ++ portion-at place d ∷ [])) stations
    next-at place below (yes inside) = (takes place inside).3
    next-at place below (no outside) = absurd (outside below)

    abbrev Rounds : ℕ → Portion → Type 0
    Rounds place portion = (err_old err_new : Told) (status : ℕ) → (round : EndsRound asked station.left err_old err_new status)
        → TakesPath status round.stopped round.unfinished (slice_index_or asked.paths place path) (slice_index_or asked.known place known) (slice_index_or station.left.sources place source)
        (slice_index_or station.left.counted place answer) (so_far place ++ portion ∷ [])

    rounds-at : (place : ℕ) → place < length asked.paths → (d : Dec (place < length asked.paths)) → Rounds place (portion-at place d)
    rounds-at place below (yes inside) = (takes place inside).2
    rounds-at place below (no outside) = absurd (outside below)

    took-here : length station.begun.sources ≡ length asked.paths → TakesPortions station portions
    took-here many = λ place below. took-at place (omega (arith, below, many)) (dec_lt place (length asked.paths))

    took-later : Takes later stations
    took-later = λ place below. next-at place below (dec_lt place (length asked.paths))

    took-more : length station.begun.sources ≡ length asked.paths → Took later stations → Took so_far (station ∷ stations)
    took-more many rest = record {
      taken = portions ∷ rest.taken;
      all = (took-here many, rest.all);
      paths = λ place below. (rounds-at place below (dec_lt place (length asked.paths)), rest.paths place below);
    }

  took : (so_far : ℕ → List Portion) (station : Station) (stations : List Station) (end : RunEnd) → length station.begun.sources ≡ length asked.paths → RunsStation station → RunsOn asked station stations end
      → Takes so_far (station ∷ stations) → Took so_far (station ∷ stations)
  took so_far station [] end many runs on takes = took-more so_far station [] takes many (record { taken = []; all = tt; paths = λ place below. tt })
  took so_far station (next ∷ stations) end many runs (follows, next_runs, on) takes =
      let many_left = runs.pumped.many_sources ∙ many in
      took-more so_far station (next ∷ stations) takes many
      (took (later so_far station (next ∷ stations) takes) next stations end (many-next asked station.left next.begun station.new.err next.old.err many_left follows.how) next_runs on (took-later so_far station (next ∷ stations) takes))

  from-first : (old : Streams) (stations : List Station) (end : RunEnd) → Runs asked old stations end → Takes (λ place. []) stations → Took (λ place. []) stations
  from-first old [] end runs takes = record { taken = []; all = tt; paths = λ place below. tt }
  from-first old (station ∷ stations) end (inl (none, lost)) takes = absurd (cc (none))
  from-first old (station ∷ stations) end (inr (begun, given, rounds, first, (begun_is, old_is, runs, on))) takes =
      took (λ place. []) station stations end (ap (λ (b : Begun). length b.sources) begun_is ∙ first.many_sources) runs on takes

pub run-took : (asked : RunPlan) (old : Streams) (stations : List Station) (end : RunEnd) → Runs asked old stations end → TakesEachPath asked stations
    → (path : Text) (known : Option (List ℕ)) (source : SourceState) (answer : Result Tally PumpFault)
    → (taken : List (ℕ → Portion)) × TakeAll stations taken × ((place : ℕ) → place < length asked.paths → TakePath asked place path known source answer [] stations taken)
run-took asked old stations end runs takes path known source answer =
    let found = from-first asked path known source answer old stations end runs (λ place below. takes place path known source answer below) in
    (found.taken, found.all, found.paths)
