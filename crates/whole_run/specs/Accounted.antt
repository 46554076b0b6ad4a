-- What the seats of a run's station did, and what the tables show that it printed.
use Rattle.std.specs.Prelude.{◌≡◌, ◌<◌, ℕ, List, [], ◌∷◌, ◌++◌, All, Option, Some, None, Result, length, map, slice_index_or}
use mathlib.Core.List.{IsPrefix}
use Rattle.streams.specs.Source.{SourceState}
use Rattle.station_journal.specs.declared.entry.Entry.{Entry}
use Rattle.station_journal.specs.declared.entry.Entry.TheVariants.{Tick}
use Rattle.station_lines.specs.declared.pumping.PumpFault.{PumpFault}
use Rattle.station_lines.specs.declared.tally.Tally.{Tally}
use Rattle.station_record.specs.Record.{Grows, last_after}
use Rattle.station_files.specs.Recorded.{seen_by}
use Rattle.station_reporter.specs.Reporter.{Acting, due_moments, looks_of}
use Rattle.station_run.specs.Limits.{most_reads}
use Rattle.station_run.specs.Stations.{Shows, Station}
use Rattle.station_run.specs.Taken.{Portion, TakesPortion}
use Rattle.one_journal.specs.Merge.{Deed, Called, Saw, IsMerge}
use Rattle.one_journal.specs.Receiver.{IsReceiver}

-- the entries that these calls asked for
abbrev pub calls_of : List Deed → List Entry
calls_of [] = []
calls_of (Called entry answer ∷ deeds) = entry ∷ calls_of deeds
calls_of (Saw seen ∷ deeds) = calls_of deeds

-- the time at which a hand-over was asked for, if it was
abbrev pub asked_time : Option ℕ → List ℕ
asked_time None = []
asked_time (Some at) = at ∷ []

-- the times at which a reporter ticked: those of its clock at which a table or a tick was due, and that of a hand-over asked for
abbrev pub tick_times : (station : Station) → Shows station → List ℕ
tick_times station shows =
    map (λ (acting : Acting). acting.at) (due_moments station.begun.duties.tables.pace station.begun.duties.due shows.moments) ++ asked_time shows.asked_at

-- the entries that the printed tables show, one list for each
abbrev pub tables_of : (station : Station) → Shows station → List (List Entry)
tables_of station shows = seen_by (looks_of shows.showings ++ shows.last)

-- the receiver at this place did this: it called with the frame of each line of the portion that it took of its path, in their order
pub record CallsWith (station : Station) (place : ℕ) (portion : Portion) (deeds : List Deed) : Type 0 where
  pub source : SourceState
  pub answer : Result Tally PumpFault
  pub calls : IsReceiver place (slice_index_or station.begun.sources place source) (slice_index_or station.left.sources place source) most_reads
      (slice_index_or station.left.counted place answer) deeds
  pub lines_are : calls.lines ≡ portion.lines

-- the journal of a station whose receivers took these portions, by place, whose reporter shows this, and whose seats did this
pub record IsOneJournal (station : Station) (shows : Shows station) (portions : ℕ → Portion) (did : ℕ → List Deed) : Type 0 where
  -- it is a merge of what the seats did
  pub merge : IsMerge station.left.start station.begun.given.entries station.left.closing.journal did
  -- each receiver has the seat of its place, and called with its lines
  pub receivers : (place : ℕ) → place < length station.begun.sources → CallsWith station place (portions place) (did place)
  -- the reporter has the seat after theirs, and ticked
  pub reporter : calls_of (did (length station.begun.sources)) ≡ map (Tick (length station.begun.sources)) (tick_times station shows)
  -- nobody else did anything
  pub nobody_else : (seat : ℕ) → length station.begun.sources < seat → did seat ≡ []
  -- each table shows a beginning of the journal, and each such beginning goes on from the one before
  pub grow : Grows station.begun.given.entries (tables_of station shows)
  pub begin : IsPrefix (last_after station.begun.given.entries (tables_of station shows)) station.left.closing.journal
  -- a last table shows the whole journal, so every accepted call
  pub last : All (λ (seen : List Entry). seen ≡ station.left.closing.journal) (seen_by shows.last)

-- in a station the receivers took these portions, by place
abbrev pub TakesPortions : Station → (ℕ → Portion) → Type 0
TakesPortions station portions = (place : ℕ) → place < length station.begun.sources → TakesPortion station place (portions place)

-- one journal accounts for a station, whatever portions its receivers took
abbrev pub IsAccounted : Station → Type 0
IsAccounted station =
    (shows : Shows station) (portions : ℕ → Portion) → TakesPortions station portions → (did : ℕ → List Deed) × IsOneJournal station shows portions did
