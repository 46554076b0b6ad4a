-- What displays find in their folder.
use Rattle.std.specs.Prelude.{◌≡◌, ℕ, Bool, true, false, List, [], ◌∷◌, ◌++◌, Option, Some, None, Result, Ok, Err, codes, is_err}
use Rattle.std.specs.List.{list_any}
use Rattle.messages.specs.Reasons.{reason_text}
use Rattle.messages.specs.Telling.{Tells, Told, telling_line}
use Rattle.messages.specs.declared.reason.Reason.{Reason}

-- the path of a file in a folder: both with `/` between
abbrev pub in_folder : (folder name : List ℕ) → List ℕ
in_folder folder name = folder ++ 47 ∷ name

-- the line of a failed write for displays, which names the file of their tables
abbrev pub cannot_write : (table : List ℕ) → Reason → List ℕ
cannot_write table reason = telling_line (codes "cannot write " ++ table ++ reason_text reason)

-- the line of a write for displays after one that failed
abbrev pub writing_again : (table : List ℕ) → List ℕ
writing_again table = telling_line (codes "writing " ++ table ++ codes " again")

-- what was written for displays: whether a write failed, whether the last one did, and the standard error where that is reported
pub record Shown : Type 0 where
  pub has_failed : Bool
  pub is_failing : Bool
  pub alarm : Told

-- nothing was written yet
abbrev pub new_shown : Told → Shown
new_shown alarm = record { has_failed = false; is_failing = false; alarm = alarm }

-- a write of this table that went well, or failed for a reason, is reported: a failure where the write before didn't fail, and
-- that it goes well where the write before failed
abbrev pub ReportsWrite : (table : List ℕ) → (was_failing : Bool) → Result (Unit {0}) Reason → Told → Told → Type 0
ReportsWrite table false (Ok done) old new = new ≡ old
ReportsWrite table true (Ok done) old new = Tells old new (writing_again table)
ReportsWrite table false (Err reason) old new = Tells old new (cannot_write table reason)
ReportsWrite table true (Err reason) old new = new ≡ old

-- whether a write failed, after this one
abbrev pub HasFailed : Result (Unit {0}) Reason → Shown → Shown → Type 0
HasFailed (Ok done) old new = (new.is_failing ≡ false) × (new.has_failed ≡ old.has_failed)
HasFailed (Err reason) old new = (new.is_failing ≡ true) × (new.has_failed ≡ true)

-- a write of this table is counted and reported
pub record HasReportedWrite (table : List ℕ) (written : Result (Unit {0}) Reason) (old new : Shown) : Type 0 where
  pub failed : HasFailed written old new
  pub told : ReportsWrite table old.is_failing written old.alarm new.alarm

-- these writes of a table were counted and reported, the newest first
abbrev pub HaveReportedWrites : (table : List ℕ) → List (Result (Unit {0}) Reason) → Shown → Shown → Type 0
HaveReportedWrites table [] old new = new ≡ old
HaveReportedWrites table (written ∷ before) old new = (mid : Shown) × HaveReportedWrites table before old mid × HasReportedWrite table written mid new

-- all writes of a table from some standard error on: each was reported there, and whether one failed
pub record IsReported (table : List ℕ) (shown : Shown) : Type 0 where
  pub alarm : Told
  pub writes : List (Result (Unit {0}) Reason)
  pub reported : HaveReportedWrites table writes (new_shown alarm) shown
  pub failed : shown.has_failed ≡ list_any is_err writes

-- a folder for displays: the path of its table, when the clock of the tables begins, whether that follows the system's clock, and
-- what was written
pub record Folder : Type 0 where
  pub table : List ℕ
  pub origin : ℕ
  pub follows : Bool
  pub shown : Shown

-- a write for displays failed
abbrev pub have_failed : Option Folder → Bool
have_failed None = false
have_failed (Some folder) = folder.shown.has_failed

-- whether a write for displays failed, which none did where there are none. Where there are, it did just where a write of their table
-- failed, and each failure was reported, unless the write before failed too
abbrev pub AreReported : (has_displays has_failed : Bool) → Type 0
AreReported false has_failed = has_failed ≡ false
AreReported true has_failed = (table : List ℕ) × (shown : Shown) × IsReported table shown × (has_failed ≡ shown.has_failed)
