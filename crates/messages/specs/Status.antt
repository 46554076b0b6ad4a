-- The exit statuses of answers.
use Rattle.std.specs.Prelude.{ℕ, Bool, true, false, Result, Ok, Err}

-- 0 for an answer, and 1 after a fault
abbrev pub status_of : {T E : Type 0} → Result T E → ℕ
status_of (Ok x) = 0
status_of (Err fault) = 1

-- 1 after a fault
abbrev pub fault_status : Bool → ℕ
fault_status false = 0
fault_status true = 1
