-- What is printed, one line after another.
use Rattle.std.proofs.Common.{◌≡◌, ◌∙◌, ◌⊎◌, inl, inr, Bor, ℕ, ◌+◌, ◌<◌, List, [], ◌++◌, Result, length, take, get_or, sym, ap, subst, fold, max, flat_map}
use Rattle.std.proofs.KnownBytes.{Appends-trans}
use Rattle.std.proofs.lemmas.List.{flat_map_more, take_more}
use Rattle.std.proofs.lemmas.List.Sums.{fold_more}
use Rattle.station_lines.specs.declared.pumping.PumpFault.{PumpFault}
use Rattle.station_lines.specs.declared.tally.Tally.{Tally}
use Rattle.messages.proofs.Common.{status_of, Tells, Told, cannot_record, fault_line, telling_line, pump_lines}
use Rattle.messages.specs.declared.reason.Reason.{Reason}
use Rattle.messages.specs.declared.faults.Fault.{Fault}
use Rattle.messages.specs.declared.faults.Fault.TheVariants as fault

pub tells_both : (a b c : Told) (first second : List ℕ) → Tells a b first → Tells b c second → Tells a c (first ++ second)
tells_both a b c first second p q = record {
  told = λ well. let later = q.told well in let before = p.told later.0 in (before.0, Appends-trans a.taken b.taken c.taken first second before.1 later.1);
}

-- one more answer is printed
pub one_more_told : (answers : List (Result Tally PumpFault)) (i : ℕ) (x : Result Tally PumpFault) (a b c : Told)
    → i < length answers → x ≡ get_or answers i x
    → Tells a b (flat_map pump_lines (take i answers)) → Tells b c (pump_lines x)
    → Tells a c (flat_map pump_lines (take (i + 1) answers))
one_more_told answers i x a b c inside at so_far more =
    let before = flat_map pump_lines (take i answers) in
    let grown : flat_map pump_lines (take (i + 1) answers) ≡ before ++ pump_lines (get_or answers i x) =
    ap (λ l. flat_map pump_lines l) (take_more answers i x inside) ∙ sym (flat_map_more pump_lines [] (take i answers) (get_or answers i x)) in
    subst (Tells a c) (sym (grown ∙ ap (λ v. before ++ pump_lines v) (sym at))) (tells_both a b c before (pump_lines x) so_far more)

-- and the status is the worst so far
pub one_more_status : (answers : List (Result Tally PumpFault)) (i : ℕ) (x : Result Tally PumpFault) (status one new : ℕ)
    → i < length answers → x ≡ get_or answers i x
    → status ≡ fold (λ worst v. max worst (status_of v)) 0 (take i answers) → one ≡ status_of x → new ≡ max status one
    → new ≡ fold (λ worst v. max worst (status_of v)) 0 (take (i + 1) answers)
one_more_status answers i x status one new inside at so_far one_is new_is =
    let worst = λ (n : ℕ) (v : Result Tally PumpFault). max n (status_of v) in
    let before = fold worst 0 (take i answers) in
    new_is ∙ ap (λ n. max n one) so_far ∙ ap (λ n. max before n) one_is ∙ ap (λ v. worst before v) at
    ∙ sym (fold_more worst 0 answers i x inside)

-- no memory for a record, or a file that takes none
pub record_fault_told : (a b : Told) (f : Fault) (path : Bor (List ℕ)) (file : List ℕ) → (f ≡ fault.NoMemory) ⊎ ((reason : Reason) × (f ≡ fault.CannotRecord path reason)) → path.now ≡ file → Tells a b (fault_line f)
    → Tells a b (fault_line fault.NoMemory) ⊎ ((reason : Reason) × Tells a b (telling_line (cannot_record file reason)))
record_fault_told a b f path file (inl memory) is told = inl (subst (λ g. Tells a b (fault_line g)) memory told)
record_fault_told a b f path file (inr refused) is told =
    inr (refused.0, subst (λ p. Tells a b (telling_line (cannot_record p refused.0))) is (subst (λ g. Tells a b (fault_line g)) refused.1 told))
