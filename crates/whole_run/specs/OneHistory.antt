-- One history over all stations of a run.
use Rattle.std.specs.Prelude.{◌≡◌, ◌<◌, ◌≤◌, ⊤, ℕ, Bool, true, false, cond, List, [], ◌∷◌, ◌++◌, All, Option, Result, Err, length, reverse, slice_index_or}
use mathlib.Core.List.{IsPrefix}
use Rattle.station_journal.specs.declared.entry.Entry.{Entry}
use Rattle.station_journal.specs.declared.refusal.Refusal.{Refusal}
use Rattle.station_journal.specs.declared.refusal.Refusal.TheVariants.{JournalFull}
use Rattle.station_journal.specs.Log.{most_entries}
use Rattle.station_journal.specs.Past.{Site, clock}
use Rattle.station_journal.specs.Table.{placed_table, table}
use Rattle.station_history.specs.History.{base_of}
use Rattle.station_history.specs.Start.{Start}
use Rattle.station_report.specs.Format.{table_text}
use Rattle.station_report.specs.declared.formats.Format.{Format}
use Rattle.station_output.specs.Tables.{text_of}
use Rattle.station_shared.specs.Seats.{own_entries}
use Rattle.station_run.specs.Stations.{EndsRound, RunPlan, Shows, Station}
use Rattle.station_run.specs.Taken.{Portion, TakesPath, so_far_after}
use Rattle.clap.specs.Words.{Text}
use Rattle.streams.specs.Source.{SourceState}
use Rattle.messages.specs.Telling.{Told}
use Rattle.station_lines.specs.declared.pumping.PumpFault.{PumpFault}
use Rattle.station_lines.specs.declared.tally.Tally.{Tally}
use Rattle.one_journal.specs.Merge.{Deed, Called, Saw, IsMerge}
use Rattle.whole_run.specs.Accounted.{IsOneJournal, TakesPortions, tables_of}

-- what a station accepted: its journal without the entries that it began with
abbrev pub accepted_by : Station → List Entry
accepted_by station = own_entries station.left.start station.left.closing.journal

-- what the stations of a run accepted, station after station
abbrev pub history_of : List Station → List Entry
history_of [] = []
history_of (station ∷ stations) = accepted_by station ++ history_of stations

-- a journal that begins with nothing, for receivers at this place, with room for n entries
pub record BeginsWithNothing (site : Site) (n : ℕ) (start : Start) : Type 0 where
  pub base : base_of start.history ≡ 0
  pub resumed : start.resumed ≡ 0
  pub limits : start.limits ≡ record { entries = n; aircraft = 512; site = site }

-- ---- what the seats did

-- a call was refused as the journal of its station was full
abbrev pub is_by_full : Result (Unit {0}) Refusal → Bool
is_by_full (Err JournalFull) = true
is_by_full _ = false

-- what a seat of a station did, with all entries before the station in what it saw. Calls that were refused as the station's journal
-- was full are left out: all stations together have no such limit
abbrev pub deeds_after : (before : List Entry) → Start → List Deed → List Deed
deeds_after before start [] = []
deeds_after before start (Saw seen ∷ deeds) = Saw (before ++ own_entries start seen) ∷ deeds_after before start deeds
deeds_after before start (Called entry answer ∷ deeds) =
    cond (is_by_full answer) (deeds_after before start deeds) (Called entry answer ∷ deeds_after before start deeds)

-- the receivers took these portions, by place, for each station
abbrev pub TakeAll : List Station → List (ℕ → Portion) → Type 0
TakeAll [] taken = ⊤
TakeAll (station ∷ stations) [] = ⊥
TakeAll (station ∷ stations) (portions ∷ taken) = TakesPortions station portions × TakeAll stations taken

-- of these portions those at a place, one in each station, are of its path, after those of the same round so far: at the end of a
-- round the receivers there took the path. (`path`, `left`, `source` and `answer` are read beyond the ends of the lists alone.)
abbrev pub TakePath : (asked : RunPlan) (place : ℕ) (path : Text) (left : Option (List ℕ)) (source : SourceState) (answer : Result Tally PumpFault) → List Portion → List Station → List (ℕ → Portion) → Type 0
TakePath asked place path left source answer so_far [] taken = ⊤
TakePath asked place path left source answer so_far (station ∷ stations) [] = ⊥
TakePath asked place path left source answer so_far (station ∷ stations) (portions ∷ taken) =
    ((err_old err_new : Told) (status : ℕ) → (round : EndsRound asked station.left err_old err_new status) →
    TakesPath status round.stopped round.unfinished (slice_index_or asked.paths place path) (slice_index_or asked.known place left)
    (slice_index_or station.left.sources place source) (slice_index_or station.left.counted place answer) (so_far ++ portions place ∷ []))
    × TakePath asked place path left source answer (so_far_after station.left.hands_over (so_far ++ portions place ∷ [])) stations taken

-- one journal accounts for each station, with what its seats did
abbrev pub AreOneJournals : List Station → List (ℕ → Portion) → List (ℕ → List Deed) → Type 0
AreOneJournals [] taken dids = ⊤
AreOneJournals (station ∷ stations) [] dids = ⊥
AreOneJournals (station ∷ stations) (portions ∷ taken) [] = ⊥
AreOneJournals (station ∷ stations) (portions ∷ taken) (did ∷ dids) =
    ((shows : Shows station) × IsOneJournal station shows portions did) × AreOneJournals stations taken dids

-- what a seat did in all stations, after these entries
abbrev pub did_after : (before : List Entry) → List Station → List (ℕ → List Deed) → ℕ → List Deed
did_after before [] dids seat = []
did_after before (station ∷ stations) [] seat = []
did_after before (station ∷ stations) (did ∷ dids) seat =
    deeds_after before station.left.start (did seat) ++ did_after (before ++ accepted_by station) stations dids seat

-- ---- what the tables show

-- a station's table of these entries is that of a beginning of the history: of all entries before the station, and what the table has
-- beyond those that the station began with. Only the number of entries that JSON has is the station's own
pub record ShowsBeginning (site : Site) (start : Start) (history before seen : List Entry) : Type 0 where
  pub shown : List Entry
  pub parts : shown ≡ before ++ own_entries start seen
  pub begins : IsPrefix shown history
  pub text : (format : Format) → text_of format start seen
      ≡ table_text format (table site 0 (reverse shown)) (placed_table site 0 (reverse shown)) (clock 0 (reverse shown)) (length seen)

-- so do all tables of the stations after these entries
abbrev pub AllShowBeginnings : Site → (history before : List Entry) → List Station → Type 0
AllShowBeginnings site history before [] = ⊤
AllShowBeginnings site history before (station ∷ stations) =
    ((shows : Shows station) → All (ShowsBeginning site station.left.start history before) (tables_of station shows))
    × AllShowBeginnings site history (before ++ accepted_by station) stations

-- ---- a run

-- one history accounts for a run whose receivers took these portions, with what the seats did in each of its stations. It is a merge
-- of what they did in all of them, in a journal that has room for it
pub record IsOneHistory (site : Site) (stations : List Station) (taken : List (ℕ → Portion)) (dids : List (ℕ → List Deed)) : Type 0 where
  pub stations_are : AreOneJournals stations taken dids
  pub merge : (n : ℕ) (start : Start) → most_entries ≤ n → length (history_of stations) < n → BeginsWithNothing site n start
      → IsMerge start [] (history_of stations) (did_after [] stations dids)
  pub tables : AllShowBeginnings site (history_of stations) [] stations
