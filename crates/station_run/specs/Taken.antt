-- What the receivers of a run took of each path, over all its rounds and stations.
use Rattle.std.specs.Prelude.{◌≡◌, ◌⊎◌, ◌<◌, ℕ, Bool, false, true, List, [], ◌∷◌, ◌++◌, length, slice_index_or, Contains, IfSome, None, Option, Some, Result, ⊤}
use Rattle.std.specs.Io.KnownBytes.{Consumes, IsAtEnd}
use Rattle.clap.specs.Words.{Text}
use Rattle.modes_frame.specs.declared.cutter.Cut.{Cut}
use Rattle.modes_frame.specs.Lines.{cuts}
use Rattle.streams.specs.Source.{SourceState}
use Rattle.station_lines.specs.declared.pumping.PumpFault.{PumpFault}
use Rattle.station_lines.specs.declared.tally.Tally.{Tally}
use Rattle.station_portions.specs.Sending.{lines_of}
use Rattle.station_portions.specs.declared.message.PathEnd.{PathEnd}
use Rattle.station_portions.specs.declared.message.PathEnd.TheVariants.{AtEnd}
use Rattle.station_shared.specs.Seats.{Seated, new_seat}
use Rattle.station_shared.specs.Workers.{Works}
use Rattle.station_paths.specs.Inputs.{GaveAll, IsFinished, IsUnfinished}
use Rattle.station_run.specs.Limits.{most_reads}
use Rattle.station_run.specs.Stations.{EndsRound, RunPlan, Station}
use Rattle.station_run.specs.Run.{ends_run}
use Rattle.messages.specs.Telling.{Told}

-- what a receiver had of its path in one station: the bytes that its source gave, and the lines that it took of them
pub record Portion : Type 0 where
  pub bytes : List ℕ
  pub lines : List Cut

-- the bytes of portions, one after another
abbrev pub all_bytes : List Portion → List ℕ
all_bytes [] = []
all_bytes (portion ∷ portions) = portion.bytes ++ all_bytes portions

-- the lines of portions, one after another
abbrev pub all_lines : List Portion → List Cut
all_lines [] = []
all_lines (portion ∷ portions) = portion.lines ++ all_lines portions

-- in a station the receiver at this place took this portion: its seat was fed the frames of these lines, and its answer counts them.
-- (`source`, `seat` and `answer` are read beyond the ends of the lists alone, and the place is within them.)
pub record TakesPortion (station : Station) (place : ℕ) (portion : Portion) : Type 0 where
  pub inside : place < length station.begun.sources
  pub source : SourceState
  pub seat : Seated
  pub answer : Result Tally PumpFault
  pub works : Works station.left.start (new_seat station.begun.given.entries false place) (slice_index_or station.left.closing.receivers place seat)
      (slice_index_or station.begun.sources place source) (slice_index_or station.left.sources place source) most_reads (slice_index_or station.left.counted place answer)
  pub bytes_are : portion.bytes ≡ works.pumps.draws.given
  pub lines_are : portion.lines ≡ works.pumps.lines

-- these are the lines of all bytes that reading a path gave, up to its end or to a failed read. What reading it gives is `left`
-- where that is known: of a path that ended these are then its lines
pub record AreLinesOf (end : PathEnd) (left : Option (List ℕ)) (lines : List Cut) : Type 0 where
  pub left_new : Option (List ℕ)
  pub read : List ℕ
  pub given : Consumes left left_new read
  pub over : end ≡ AtEnd → IsAtEnd left_new
  pub lines_are : lines ≡ lines_of end read
  pub known : end ≡ AtEnd → IfSome left (λ bytes. lines ≡ cuts bytes)

-- the receivers of a path took these portions, by how it ended. Their bytes, one after another, are all that its source has given
-- in the end. The lines that were taken are the first lines of these bytes: all of them, unless the last receiver used up its
-- turns or was out of memory
pub record TakesPath (status : ℕ) (stopped : Bool) (unfinished : List Text) (path : Text) (left : Option (List ℕ)) (source : SourceState) (answer : Result Tally PumpFault) (portions : List Portion) : Type 0 where
  pub given : source.given ≡ Some (all_bytes portions)
  pub left_out : List Cut
  pub lines : cuts (all_bytes portions) ≡ all_lines portions ++ left_out
  pub all : ends_run answer ≡ false → left_out ≡ []
  -- the path was read to its end, and its source gave all, or the run is stopped and the path goes on, or it is one of the unfinished
  pub ended : IsFinished stopped left source ⊎ (Contains unfinished path × IsUnfinished left source)
  -- of a path that is over, the lines taken are those of all bytes that reading it gave
  pub over : (end : PathEnd) → GaveAll end left source → ends_run answer ≡ false → AreLinesOf end left (all_lines portions)
  -- in a round with status 0 no line is left out, and they are those of all bytes up to its end, unless the run is stopped and the
  -- path goes on
  pub well : status ≡ 0 → (left_out ≡ []) × (AreLinesOf AtEnd left (all_lines portions) ⊎ ((stopped ≡ true) × (source.left ≡ None)))

-- the portions of a round so far after a station: all of them where it hands over, and none before the next round
abbrev pub so_far_after : (hands_over : Bool) → List Portion → List Portion
so_far_after true portions = portions
so_far_after false portions = []

-- the receivers at a place took such portions, one in each of these stations, after these of the same round. At the end of a round
-- they took the path. (`path`, `left`, `source` and `answer` are read beyond the ends of the lists alone.)
abbrev pub TakeInEach : (asked : RunPlan) (place : ℕ) (path : Text) (left : Option (List ℕ)) (source : SourceState) (answer : Result Tally PumpFault) → List Portion → List Station → Type 0
TakeInEach asked place path left source answer so_far [] = ⊤
TakeInEach asked place path left source answer so_far (station ∷ stations) =
    (portion : Portion) × TakesPortion station place portion
    × ((err_old err_new : Told) (status : ℕ) → (round : EndsRound asked station.left err_old err_new status) →
    TakesPath status round.stopped round.unfinished (slice_index_or asked.paths place path) (slice_index_or asked.known place left)
    (slice_index_or station.left.sources place source) (slice_index_or station.left.counted place answer) (so_far ++ portion ∷ []))
    × TakeInEach asked place path left source answer (so_far_after station.left.hands_over (so_far ++ portion ∷ [])) stations

-- the receivers of each path, at its place, took such portions in all stations of all rounds
abbrev pub TakesEachPath : RunPlan → List Station → Type 0
TakesEachPath asked stations =
    (place : ℕ) (path : Text) (left : Option (List ℕ)) (source : SourceState) (answer : Result Tally PumpFault) → place < length asked.paths
    → TakeInEach asked place path left source answer [] stations
