-- A journal that goes on from the kept end of all entries before it says what all of them say.
use Rattle.std.proofs.Common.{◌≡◌, ◌∙◌, inl, inr, ℕ, ◌+◌, ◌<◌, Bool, true, false, List, [], ◌++◌, Result, Err, Ok, None, ap, reverse, refl, subst, sym}
use Rattle.std.proofs.lemmas.List.{reverse-append}
use Rattle.modes_frame.specs.declared.claims.Claim.{Claim}
use Rattle.modes_frame.specs.declared.claims.CheckFault.{CheckFault}
use Rattle.modes_frame.specs.Claims.{claim_of}
use Rattle.station_journal.specs.declared.entry.Entry.{Entry}
use Rattle.station_journal.specs.declared.entry.Entry.TheVariants.{Heard, Tick}
use Rattle.station_journal.specs.declared.refusal.Refusal.{Refusal}
use Rattle.station_journal.specs.declared.refusal.Refusal.TheVariants.{BookFull, JournalFull, NotLater, Repeated, Unknown}
use Rattle.station_journal.proofs.Common.{IsLegal, IsOther, IsTimed, Log, claim_refusal, clock, clock_of, is_repeated, or_older, placed_of, placed_table, refusal, refuse_if}
use Rattle.station_journal.proofs.AlikeLemmas.{same_placed_table, same_refusal}
use Rattle.station_journal.proofs.LegalJournalLemmas.{timed_from_legal}
use Rattle.station_record.proofs.Common.{new_log, Continues}

-- ---- a refusal other than that the journal is full is that of a journal with room

other-step : (unknown repeated full book : Bool) (r s : Refusal) → IsOther (or_older (refuse_if unknown r) (or_older (refuse_if repeated Repeated) (or_older (refuse_if full JournalFull) (refuse_if book s))))
    → or_older (refuse_if unknown r) (or_older (refuse_if repeated Repeated) (or_older (refuse_if full JournalFull) (refuse_if book s))) ≡ or_older (refuse_if unknown r) (or_older (refuse_if repeated Repeated) (refuse_if book s))
other-step true repeated full book r s other = refl
other-step false true full book r s other = refl
other-step false false true book r s other = absurd (other refl)
other-step false false false book r s other = refl

other-tick : (early full : Bool) (r : Refusal) → IsOther (or_older (refuse_if early r) (refuse_if full JournalFull)) → or_older (refuse_if early r) (refuse_if full JournalFull) ≡ or_older (refuse_if early r) None
other-tick true full r other = refl
other-tick false true r other = absurd (other refl)
other-tick false false r other = refl

other-claim : (full repeated : Bool) (n base : ℕ) (past : List Entry) (claim : Result Claim CheckFault) → IsOther (claim_refusal full repeated n base past claim) → claim_refusal full repeated n base past claim ≡ claim_refusal false repeated n base past claim
other-claim full repeated n base past (Err fault) other = refl
other-claim full repeated n base past (Ok claim) other = other-step _ repeated full _ (Unknown claim.address) BookFull other

pub with-room : (full : Bool) (n base : ℕ) (past : List Entry) (entry : Entry) → IsOther (refusal full n base past entry) → refusal full n base past entry ≡ refusal false n base past entry
with-room full n base past (Tick seat at) other = other-tick _ full (NotLater (clock base past)) other
with-room full n base past (Heard seat frame) other = other-claim full (is_repeated past frame) n base past (claim_of frame) other

-- ---- all entries, and the journal that has the last of them

module _ (all : List Entry) (log : Log) (goes_on : Continues all log) (legal : IsLegal (new_log log.limits all)) where
  past-split : reverse all ≡ reverse log.entries ++ reverse goes_on.left
  past-split = ap (λ (es : List Entry). reverse es) goes_on.parts ∙ reverse-append goes_on.left log.entries

  -- nothing was left behind
  whole : goes_on.left ≡ [] → (all ≡ log.entries) × (log.base ≡ 0)
  whole none = (goes_on.parts ∙ ap (λ (es : List Entry). es ++ log.entries) none, goes_on.base ∙ ap (λ (es : List Entry). clock 0 (reverse es)) none)

  timed-split : IsTimed 0 (reverse log.entries ++ reverse goes_on.left)
  timed-split = subst (IsTimed 0) past-split (timed_from_legal log.limits 0 0 (reverse all) legal)

  late : log.base + 70000 < clock_of log → clock 0 (reverse goes_on.left) + 70000 < clock (clock 0 (reverse goes_on.left)) (reverse log.entries)
  late before = subst (λ (base : ℕ). base + 70000 < clock base (reverse log.entries)) goes_on.base before

  pub same-placed : placed_of (new_log log.limits all) ≡ placed_of log
  same-placed = elim goes_on.old [
    | inl none ↦
        let is = whole none in
        ap (λ (es : List Entry). placed_table log.limits.site 0 (reverse es)) is.0 ∙ ap (λ (base : ℕ). placed_table log.limits.site base (reverse log.entries)) (sym is.1)
    | inr before ↦
        ap (placed_table log.limits.site 0) past-split ∙ same_placed_table 0 (reverse log.entries) (reverse goes_on.left) timed-split (late before) log.limits.site
        ∙ ap (λ (base : ℕ). placed_table log.limits.site base (reverse log.entries)) (sym goes_on.base)
  ]

  pub same-verdict : (n : ℕ) (entry : Entry) → refusal false n 0 (reverse all) entry ≡ refusal false n log.base (reverse log.entries) entry
  same-verdict n entry = elim goes_on.old [
    | inl none ↦
        let is = whole none in
        ap (λ (es : List Entry). refusal false n 0 (reverse es) entry) is.0 ∙ ap (λ (base : ℕ). refusal false n base (reverse log.entries) entry) (sym is.1)
    | inr before ↦
        ap (λ (past : List Entry). refusal false n 0 past entry) past-split
        ∙ same_refusal 0 (reverse log.entries) (reverse goes_on.left) timed-split (late before) false n entry
        ∙ ap (λ (base : ℕ). refusal false n base (reverse log.entries) entry) (sym goes_on.base)
  ]
