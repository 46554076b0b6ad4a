-- A frame fed to a desk.
use Rattle.std.specs.Prelude.{ℕ, List, Result, Ok, Err, length}
use Rattle.station_journal.specs.declared.entry.Entry.TheVariants.{Heard}
use Rattle.station_journal.specs.declared.refusal.Refusal.{Refusal}
use Rattle.station_journal.specs.Log.{Log, Steps}

-- one step of a journal for a frame that a seat heard; the answer has no index
abbrev pub FeedSteps : Log → ℕ → List ℕ → Result (Unit {0}) Refusal → Log → Type 0
FeedSteps old seat frame (Ok taken) new = Steps old (Heard seat frame) (Ok (length old.entries)) new
FeedSteps old seat frame (Err refusal) new = Steps old (Heard seat frame) (Err refusal) new
