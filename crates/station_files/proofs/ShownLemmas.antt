-- What is reported of the files for displays.
use Rattle.std.proofs.Common.{◌≡◌, ◌∙◌, ◌||◌, ◌∷◌, [], ℕ, Bool, List, Option, IfSome, Some, None, Result, Ok, Err, ap, is_err, refl, rules, true, false}
use Rattle.messages.specs.Telling.{Told}
use Rattle.messages.specs.declared.reason.Reason.{Reason}
use Rattle.station_files.specs.Displays.{AreReported, Folder, HasFailed, HasReportedWrite, IsReported, ReportsWrite, Shown, have_failed, new_shown}

-- where nothing was written, no write failed
pub none_failed : (has_displays : Bool) → AreReported has_displays false
none_failed false = refl
none_failed true =
    let alarm : Told = record { taken = None; has_failed = false } in
    ([], new_shown alarm, record { alarm = alarm; writes = []; reported = refl; failed = refl }, refl)

-- whether a write for displays failed that were asked for
pub are_reported : (has_displays : Bool) (displays : Option Folder) → has_displays ≡ true → IfSome displays (λ d. IsReported d.table d.shown) → AreReported has_displays (have_failed displays)
are_reported true None asked reported = none_failed true
are_reported true (Some folder) asked reported = (folder.table, folder.shown, reported, refl)
are_reported false displays asked reported = absurd (search rules)

or-false : (a : Bool) → (a || false) ≡ a
or-false false = refl
or-false true = refl

or-true : (a : Bool) → (a || true) ≡ true
or-true false = refl
or-true true = refl

-- how a write ended is what its `Shown` says
counted : (written : Result (Unit {0}) Reason) (old new : Shown) → new.is_failing ≡ is_err written → new.has_failed ≡ (old.has_failed || is_err written) → HasFailed written old new
counted (Ok done) old new failing failed = (failing, failed ∙ or-false old.has_failed)
counted (Err reason) old new failing failed = (failing, failed ∙ or-true old.has_failed)

pub reports-write : (table : List ℕ) (written : Result (Unit {0}) Reason) (old new : Shown) → new.is_failing ≡ is_err written → new.has_failed ≡ (old.has_failed || is_err written)
    → ReportsWrite table old.is_failing written old.alarm new.alarm → HasReportedWrite table written old new
reports-write table written old new failing failed told = record { failed = counted written old new failing failed; told = told }

either : (a b : Bool) → (a || b) ≡ (b || a)
either a false = or-false a
either a true = or-true a

-- all writes so far, and one more
pub reported-then : (table : List ℕ) (written : Result (Unit {0}) Reason) (old new : Shown) → IsReported table old → new.has_failed ≡ (old.has_failed || is_err written) → HasReportedWrite table written old new → IsReported table new
reported-then table written old new before failed reported = record {
  alarm = before.alarm;
  writes = written ∷ before.writes;
  reported = (old, before.reported, reported);
  failed = failed ∙ either old.has_failed (is_err written) ∙ ap (λ b. is_err written || b) before.failed;
}
