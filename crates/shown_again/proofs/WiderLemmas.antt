-- A legal journal is legal under a higher limit of entries.
use Rattle.std.proofs.Common.{◌≡◌, ◌∙◌, ℕ, ◌≤◌, nat_le, nat_lt, Bool, true, false, List, [], ◌∷◌, length, sym, ap, subst, arith}
use Rattle.std.proofs.lemmas.Bool.Decides.{nat_tests}
use Rattle.station_journal.specs.declared.entry.Entry.{Entry}
use Rattle.station_journal.specs.declared.limits.Limits.{Limits}
use Rattle.station_journal.proofs.Common.{Enters, Fits, LegalFrom, is_full, refusal}
use Rattle.station_journal.proofs.LegalPastLemmas.{accepted_finds_room}

still-room : (limit more n : ℕ) → nat_le limit n ≡ false → limit ≤ more → nat_le more n ≡ false
still-room limit more n room higher = grind (arith, nat_tests)

module _ (limits wide : Limits) (same : wide.aircraft ≡ limits.aircraft) (higher : limits.entries ≤ wide.entries) where
  enters-wider : (resumed : Bool) (base : ℕ) (past : List Entry) (entry : Entry) → Enters resumed limits base past entry → Enters resumed wide base past entry
  enters-wider true base past entry enters = (
    subst (λ (n : ℕ). Fits n base past entry) (sym same) enters.0,
    omega (arith, enters.1, higher),
  )
  enters-wider false base past entry enters =
      let full : is_full limits past ≡ false = accepted_finds_room (is_full limits past) limits.aircraft base past entry enters in
      let room : is_full wide past ≡ false = still-room limits.entries wide.entries (length past) full higher in
      ap (λ (b : Bool). refusal b wide.aircraft base past entry) room
      ∙ ap (λ (n : ℕ). refusal false n base past entry) same
      ∙ ap (λ (b : Bool). refusal b limits.aircraft base past entry) (sym full) ∙ enters

  pub legal_wider : (base resumed : ℕ) (past : List Entry) → LegalFrom limits base resumed past → LegalFrom wide base resumed past
  legal_wider base resumed [] legal = tt
  legal_wider base resumed (entry ∷ past) legal = (enters-wider (nat_lt (length past) resumed) base past entry legal.0, legal_wider base resumed past legal.1)
