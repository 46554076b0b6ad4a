-- One history of all stations of a run, with what their seats did.
use Rattle.std.proofs.Common.{ℕ, List, [], ◌∷◌}
use Rattle.station_run.specs.Taken.{Portion}
use Rattle.station_run.proofs.Common.{RunEnd, RunPlan, Runs, RunsOn, RunsStation, Station, Streams}
use Rattle.one_journal.specs.Merge.{Deed}
use Rattle.whole_run.specs.OneHistory.{AreOneJournals, IsOneHistory, TakeAll}
use Rattle.whole_run.proofs.AccountedLemmas.{accounted}
use Rattle.whole_run.proofs.WholeLemmas.{AreMerges, first-given, run-merge, run-tables}

-- what the seats of these stations did
record Found (stations : List Station) (taken : List (ℕ → Portion)) : Type 0 where
  pub dids : List (ℕ → List Deed)
  pub journals : AreOneJournals stations taken dids
  pub merges : AreMerges stations dids

found : (asked : RunPlan) (end : RunEnd) (station : Station) (stations : List Station) (taken : List (ℕ → Portion)) → RunsStation station → RunsOn asked station stations end → TakeAll (station ∷ stations) taken → Found (station ∷ stations) taken
found asked end station stations [] runs on takes = absurd takes
found asked end station [] (portions ∷ taken) runs on (takes, others) =
    let here = accounted station runs runs.shows portions takes in
    record { dids = here.0 ∷ []; journals = ((runs.shows, here.1), tt); merges = (here.1.merge, tt) }
found asked end station (next ∷ stations) (portions ∷ taken) runs (follows, next_runs, on) (takes, others) =
    let here = accounted station runs runs.shows portions takes in
    let rest = found asked end next stations taken next_runs on others in
    record { dids = here.0 ∷ rest.dids; journals = ((runs.shows, here.1), rest.journals); merges = (here.1.merge, rest.merges) }

found-all : (asked : RunPlan) (old : Streams) (stations : List Station) (end : RunEnd) (taken : List (ℕ → Portion)) → Runs asked old stations end → TakeAll stations taken → Found stations taken
found-all asked old [] end taken runs takes = record { dids = []; journals = tt; merges = tt }
found-all asked old (station ∷ stations) end taken runs takes =
    let first = first-given asked old station stations end runs in
    found asked end station stations taken first.1 first.2 takes

pub one-history : (asked : RunPlan) (old : Streams) (stations : List Station) (end : RunEnd) → Runs asked old stations end → (taken : List (ℕ → Portion)) → TakeAll stations taken
    → (dids : List (ℕ → List Deed)) × IsOneHistory asked.site stations taken dids
one-history asked old stations end runs taken takes =
    let all = found-all asked old stations end taken runs takes in (
      all.dids,
      record {
        stations_are = all.journals;
        merge = λ n start wider few nothing. run-merge asked old stations end runs all.dids all.merges n wider few start nothing;
        tables = run-tables asked old stations end runs;
      },
    )
