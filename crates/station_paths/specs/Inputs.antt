-- The inputs of a run: what threads send of what opening the paths gave.
use Rattle.std.specs.Prelude.{◌≡◌, ◌<◌, ◌⊎◌, ℕ, Bool, true, List, [], ◌∷◌, IfSome, Option, None, Some, Result, Ok, ⊤}
use Rattle.std.specs.String.{string_bytes}
use Rattle.streams.specs.Source.{IsBorder, SourceState}
use Rattle.clap.specs.Words.{Text}
use Rattle.rtrb.specs.Ring.{sent}
use Rattle.station_lines.specs.declared.pumping.PumpFault.{PumpFault}
use Rattle.station_lines.specs.declared.tally.Tally.{Tally}
use Rattle.station_portions.specs.Rings.{reader_ring}
use Rattle.station_portions.specs.Whole.{GivesPath}
use Rattle.station_portions.specs.declared.finished_path.WholePath.{WholePath}
use Rattle.station_portions.specs.declared.message.PathEnd.{PathEnd}
use Rattle.station_portions.specs.declared.message.PathEnd.TheVariants.{AtEnd, ReadFailed}
use Rattle.station_paths.specs.declared.opened.Opened.{Opened}

-- the path that was opened
abbrev pub path_of : Opened → Text
path_of opened = string_bytes opened.path.value

-- this source takes from the ring into which the thread with this promise sends, which had sent nothing when it promised
pub record TakesFrom {I : Type 0} (promise : WholePath I) (source : SourceState) : Type 0 where
  pub ring : source.ring ≡ Some (reader_ring promise.reader.value.messages)
  pub new : sent promise.reader.value.messages ≡ []

-- each source takes from the thread at its place
abbrev pub AllTakeFrom : {I : Type 0} → List (WholePath I) → List SourceState → Type 0
AllTakeFrom [] [] = ⊤
AllTakeFrom (promise ∷ promises) (source ∷ sources) = TakesFrom promise source × AllTakeFrom promises sources
AllTakeFrom promises sources = ⊥

-- what this source gives comes from the thread with this promise, which sends the lines of all that opening this path gave; no byte
-- of it was given yet
pub record IsFedBy (path : Text) (promise : WholePath Opened) (source : SourceState) : Type 0 where
  pub opened : path_of promise.from.value ≡ path
  pub takes : TakesFrom promise source
  pub unread : source.given ≡ Some []

-- each source comes from the path at its place, by the thread at its place
abbrev pub AreFed : List Text → List (WholePath Opened) → List SourceState → Type 0
AreFed [] [] [] = ⊤
AreFed (path ∷ paths) (promise ∷ promises) (source ∷ sources) = IsFedBy path promise source × AreFed paths promises sources
AreFed paths promises sources = ⊥

-- once a read of a source has failed, its path is over, and no line is begun in what it gave
abbrev pub FailsBetweenLines : SourceState → Type 0
FailsBetweenLines source = 0 < source.failures → (source.left ≡ Some []) × IfSome source.given IsBorder

-- the path of this source is over; the lines of all bytes that the source gave are those of all that reading the path gave, up to its
-- end or to a failed read. What reading it gives is `left` where that is known
pub record GaveAll (end : PathEnd) (left : Option (List ℕ)) (source : SourceState) : Type 0 where
  pub given : List ℕ
  pub given_is : source.given ≡ Some given
  pub over : source.left ≡ Some []
  pub path : GivesPath left end given

-- why a path is unfinished: it goes on, or a read of it failed, and its source gave all up to that
abbrev pub IsUnfinished : Option (List ℕ) → SourceState → Type 0
IsUnfinished left source = (source.left ≡ None) ⊎ GaveAll ReadFailed left source

-- a path was read to its end, and its source gave all; or the run is stopped, and the path goes on
abbrev pub IsFinished : (stopped : Bool) → Option (List ℕ) → SourceState → Type 0
IsFinished stopped left source = GaveAll AtEnd left source ⊎ ((stopped ≡ true) × (source.left ≡ None))

-- these paths, in their order, are unfinished; each other one was read to its end, and its source gave all. In a run that is
-- stopped paths that go on needn't be among them
abbrev pub GaveAllBut : (stopped : Bool) → List Text → List (Option (List ℕ)) → List SourceState → List Text → Type 0
GaveAllBut stopped [] [] [] unfinished = unfinished ≡ []
GaveAllBut stopped (path ∷ paths) (left ∷ lefts) (source ∷ sources) unfinished =
    (IsFinished stopped left source × GaveAllBut stopped paths lefts sources unfinished)
    ⊎ ((others : List Text) × (unfinished ≡ path ∷ others) × IsUnfinished left source × GaveAllBut stopped paths lefts sources others)
GaveAllBut stopped paths lefts sources unfinished = ⊥

-- 1 if a path is among them
abbrev pub unfinished_status : List Text → ℕ
unfinished_status [] = 0
unfinished_status (path ∷ paths) = 1

-- nothing is known of what reading these paths gives
abbrev pub unknown : List Text → List (Option (List ℕ))
unknown [] = []
unknown (path ∷ paths) = None ∷ unknown paths

-- an answer that counted nothing
abbrev pub HasNoLines : Result Tally PumpFault → Type 0
HasNoLines answer = (tally : Tally) × (answer ≡ Ok tally) × (tally.lines ≡ 0)
